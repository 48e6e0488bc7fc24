-- A record is told by its parts.
use Rattle.std.proofs.Common.{◌≡◌, ℕ, ◌≤◌, ◌++◌, List, length, take, drop, sym, ap, ◌∙◌, arith}
use Rattle.std.proofs.lemmas.List.{take-append-drop, drop-drop, length-drop, take_all}
use Rattle.agent.specs.Records.{SaysDue, SaysPlan, SaysAgent}

-- the parts one behind the other
abbrev whole : List ℕ → List ℕ → List ℕ → List ℕ → List ℕ
whole kind plan agent done = kind ++ (plan ++ (agent ++ done))

parts : (xs : List ℕ) → length xs ≤ 10 → whole (take 2 xs) (take 4 (drop 2 xs)) (take 2 (drop 6 xs)) (take 2 (drop 8 xs)) ≡ xs
parts xs most =
    let count = length-drop 8 xs in
    ap (whole (take 2 xs) (take 4 (drop 2 xs)) (take 2 (drop 6 xs))) (take_all 2 (drop 8 xs) (omega (arith, count, most)) ∙ sym (drop-drop 2 6 xs))
    ∙ ap (λ r. take 2 xs ++ (take 4 (drop 2 xs) ++ r)) (take-append-drop 2 (drop 6 xs) ∙ sym (drop-drop 4 2 xs))
    ∙ ap (λ r. take 2 xs ++ r) (take-append-drop 4 (drop 2 xs))
    ∙ take-append-drop 2 xs

-- a record with the same parts is the same
pub same_record : (due bytes : List ℕ) → length due ≤ 10 → length bytes ≤ 10 → SaysDue due bytes → SaysPlan due bytes → SaysAgent due bytes → bytes ≡ due
same_record due bytes most also says plan agent =
    sym (parts bytes also)
    ∙ ap (λ r. whole r (take 4 (drop 2 bytes)) (take 2 (drop 6 bytes)) (take 2 (drop 8 bytes))) says.0
    ∙ ap (λ r. whole (take 2 due) r (take 2 (drop 6 bytes)) (take 2 (drop 8 bytes))) plan
    ∙ ap (λ r. whole (take 2 due) (take 4 (drop 2 due)) r (take 2 (drop 8 bytes))) agent
    ∙ ap (whole (take 2 due) (take 4 (drop 2 due)) (take 2 (drop 6 due))) says.1
    ∙ parts due most
