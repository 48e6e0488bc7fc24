-- What is put of all faults, over plain lists.
use Rattle.std.proofs.Common.{◌≡◌, ◌∙◌, ℕ, Bool, true, false, List, [], ◌∷◌, ◌++◌, length, map, refl, sym, ap, append_assoc, append-nil}
use Rattle.std.specs.Prelude.{codes, if◌then◌else◌}
use Rattle.std.proofs.lemmas.List.{length-map}
use Rattle.depgraph.specs.Rotations.{Turn}
use Rattle.model.specs.declared.plan_fault.PlanFault.{PlanFault}
use Rattle.ending.specs.declared.pieces.Piece.{Piece}
use Rattle.ending.specs.Pieces.{pieces_of, pieces_text}
use Rattle.text_io.specs.Text.{spaced_numbers}
use Rattle.check_commands.specs.Code.Listing.{end_text, head_text, items_text, other_text, told_text}
use Rattle.check_commands.specs.FaultsText.{Told, comma, faults_text, of_plan}
use Rattle.check_commands.specs.VerdictText.{rejected_line, turn_text}
use Rattle.ending.specs.Laws.Pieces.{SaysPiece}

pub text-parts : (json : Bool) (told : List Told) (agents : ℕ) (more : Bool)
    → head_text json ++ (items_text json told ++ (end_text json (length told) agents more ++ [])) ≡ faults_text json told agents more
text-parts false [] agents more = append-nil (end_text false 0 agents more)
text-parts false (first ∷ others) agents more =
    ap (λ (end : List ℕ). items_text false (first ∷ others) ++ end) (append-nil (end_text false (length (first ∷ others)) agents more))
text-parts true [] agents more = ap (λ (end : List ℕ). head_text true ++ end) (append-nil (end_text true 0 agents more))
text-parts true (first ∷ others) agents more =
    ap (λ (end : List ℕ). head_text true ++ (items_text true (first ∷ others) ++ end)) (append-nil (end_text true (length (first ∷ others)) agents more))

pub end-same : (json : Bool) (listed agents l a : ℕ) (more : Bool) → listed ≡ l → agents ≡ a → end_text json listed agents more ≡ end_text json l a more
end-same json listed agents l a more e f = ap (λ n. end_text json n agents more) e ∙ ap (λ n. end_text json l n more) f

pub as-many : (faults : List PlanFault) (n : ℕ) → n ≡ length faults → n ≡ length (map of_plan faults)
as-many faults n is = is ∙ sym (length-map faults of_plan)

pub other-parts : (json : Bool) (told : Told) → (if json then comma ∷ [] else []) ++ told_text json told ≡ other_text json told
other-parts false told = refl
other-parts true told = refl

pub json-end-parts : (agents : ℕ) (more : Bool) (piece : Piece) (end : List ℕ) → SaysPiece piece (codes "],\"agents\":") agents
    → end ≡ (if more then codes ",\"more\":true}\n" else codes ",\"more\":false}\n") → (listed : ℕ)
    → pieces_text (pieces_of (piece ∷ [])) ++ end ≡ end_text true listed agents more
json-end-parts agents more piece end is same listed = rw (is.0, is.1, same) refl

pub line-end-parts : (listed agents : ℕ) (more : Bool) (first second : Piece) (end : List ℕ) → SaysPiece first (codes "faults ") listed
    → SaysPiece second (codes " agents ") agents → end ≡ (if more then codes " more\n" else codes "\n")
    → pieces_text (pieces_of (first ∷ second ∷ [])) ++ end ≡ end_text false listed agents more
line-end-parts listed agents more first second end is also same = rw (is.0, is.1, also.0, also.1, same) refl

-- what the step and the agents of a rotation stand between
abbrev pub turn_head : Bool → List ℕ
turn_head json = if json then codes "{\"accepted\":false,\"fault\":\"Rotation" else codes "rejected Rotation"

abbrev pub turn_end : Bool → List ℕ
turn_end json = if json then codes "\"}\n" else codes "\n"

turn-line : (json : Bool) (turn : Turn)
    → turn_head json ++ spaced_numbers (turn.step ∷ turn.agents) ++ turn_end json ≡ rejected_line json (turn_text turn)
turn-line false turn = simp append_assoc
turn-line true turn = simp append_assoc

pub turn-line-parts : (json : Bool) (turn : Turn) (head end : List ℕ) → head ≡ turn_head json → end ≡ turn_end json
    → (head ++ spaced_numbers (turn.step ∷ turn.agents) ++ end) ++ [] ≡ rejected_line json (turn_text turn)
turn-line-parts json turn head end first last =
    rw (first, last) (append-nil (turn_head json ++ spaced_numbers (turn.step ∷ turn.agents) ++ turn_end json) ∙ turn-line json turn)
