-- Lines, and other things, that are added one after another.
use Rattle.std.proofs.Common.{◌≡◌, ℕ, ◌+◌, length, Bool, true, false, List, [], ◌∷◌, ◌++◌, map, sym, ap, ◌∙◌, arith, append_assoc, append-nil}
use Rattle.std.specs.Prelude.{◌&&◌, if◌then◌else◌, Option}
use Rattle.std.specs.List.{flat_map, range_with_len}
use Rattle.std.proofs.lemmas.Bool.{cond-true, cond-false}
use Rattle.std.proofs.lemmas.List.FromFn.{length-map-range_with_len, map-range_with_len_more}
use Rattle.std.proofs.lemmas.Grind.{flat_map-append}
use Rattle.model.specs.Timetable.{Timetable}
use Rattle.depgraph.specs.Rotations.{Turn}
use Rattle.fleet_commands.specs.FoundTapes.{Found}
use Rattle.fleet_commands.specs.Standing.{keepers_of, waits_of}
use Rattle.fleet_commands.specs.StatusText.{agent_line, circle_line, root_line, status_lines}
use Rattle.fleet_commands.specs.Turns.{in_turn}
use Rattle.fleet_commands.specs.declared.status_line.StatusLine.{StatusLine}

pub turn-more : {A : Type 0} (f : ℕ → List A) (n : ℕ) → in_turn f (n + 1) ≡ in_turn f n ++ f n
turn-more {A} f n =
    ap (flat_map (λ (items : List A). items)) (map-range_with_len_more f 0 n n (omega arith))
    ∙ flat_map-append (λ (items : List A). items) (map f (range_with_len 0 n)) (f n ∷ [])
    ∙ ap (λ l. in_turn f n ++ l) (append-nil (f n))

-- behind what was there
pub behind-more : {A : Type 0} (old : List A) (f : ℕ → List A) (n : ℕ) (lines more : List A) → lines ≡ old ++ in_turn f n → more ≡ lines ++ f n → more ≡ old ++ in_turn f (n + 1)
behind-more old f n lines more before added =
    added ∙ ap (λ l. l ++ f n) before ∙ append_assoc old (in_turn f n) (f n) ∙ ap (λ l. old ++ l) (sym (turn-more f n))

-- a line or none
pub line-there : {A : Type 0} (lines more : List A) (b : Bool) (line : A) → b ≡ true → more ≡ lines ++ line ∷ [] → more ≡ lines ++ (if b then line ∷ [] else [])
line-there lines more b line holds added = added ∙ ap (λ l. lines ++ l) (sym (cond-true b (line ∷ []) [] holds))

pub line-absent : {A : Type 0} (lines more : List A) (b : Bool) (line : A) → b ≡ false → more ≡ lines → more ≡ lines ++ (if b then line ∷ [] else [])
line-absent lines more b line fails same = same ∙ sym (append-nil lines) ∙ ap (λ l. lines ++ l) (sym (cond-false b (line ∷ []) [] fails))

pub both-hold : (a b : Bool) → a ≡ true → b ≡ true → (a && b) ≡ true
both-hold a b holds also = ap (λ x. x && b) holds ∙ also

pub first-fails : (a b : Bool) → a ≡ false → (a && b) ≡ false
first-fails a b fails = ap (λ x. x && b) fails

pub second-fails : (a b : Bool) → a ≡ true → b ≡ false → (a && b) ≡ false
second-fails a b holds fails = ap (λ x. x && b) holds ∙ fails

-- ---- all lines

module _ (tt : Timetable) (turns : List Turn) (found : List Found) where
  abbrev Lines : List (Option ℕ) → List ℕ → (count waiting rotations : ℕ) → List StatusLine
  Lines waits ends count waiting rotations =
      (map (agent_line tt found) (range_with_len 0 count) ++ in_turn (root_line ends waits) waiting) ++ in_turn (circle_line tt found ends turns) rotations

  pub all-lines : (waits : List (Option ℕ)) (ends : List ℕ) (count rotations : ℕ) (agents roots circles : List StatusLine) → waits ≡ waits_of tt found → ends ≡ keepers_of waits
      → count ≡ length tt.tracks → rotations ≡ length turns → agents ≡ map (agent_line tt found) (range_with_len 0 count) → roots ≡ agents ++ in_turn (root_line ends waits) (length waits)
      → circles ≡ roots ++ in_turn (circle_line tt found ends turns) rotations → circles ≡ status_lines tt turns found
  all-lines waits ends count rotations agents roots circles are_waits are_ends all_agents all_turns are_agents are_roots are_circles =
      let waiting : length waits ≡ length tt.tracks = ap length are_waits ∙ length-map-range_with_len _ 0 (length tt.tracks) in
      let ends_now : ends ≡ keepers_of (waits_of tt found) = are_ends ∙ ap keepers_of are_waits in
      are_circles ∙ ap (λ l. l ++ in_turn (circle_line tt found ends turns) rotations) (are_roots ∙ ap (λ l. l ++ in_turn (root_line ends waits) (length waits)) are_agents)
      ∙ ap (λ n. Lines waits ends n (length waits) rotations) all_agents
      ∙ ap (λ n. Lines waits ends (length tt.tracks) n rotations) waiting
      ∙ ap (λ n. Lines waits ends (length tt.tracks) (length tt.tracks) n) all_turns
      ∙ ap (λ e. Lines waits e (length tt.tracks) (length tt.tracks) (length turns)) ends_now
      ∙ ap (λ w. Lines w (keepers_of (waits_of tt found)) (length tt.tracks) (length tt.tracks) (length turns)) are_waits
