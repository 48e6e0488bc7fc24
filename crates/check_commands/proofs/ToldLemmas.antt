-- What is put of faults and of pieces, over plain lists.
use Rattle.std.proofs.Common.{◌≡◌, ℕ, List, [], ◌∷◌, ◌++◌, refl, ap, append_assoc, append-nil}
use Rattle.std.specs.Prelude.{codes, decimal}
use Rattle.text_io.specs.Text.{space, separated, spaced_numbers}
use Rattle.grid.specs.declared.cell.Cell.{Cell}
use Rattle.depgraph.specs.Rotations.{Turn}
use Rattle.model.specs.declared.plan_fault.PlanFault.{PlanFault}
use Rattle.model.specs.declared.plan_fault.PlanFault.TheVariants.{BadStart, BadMove, Vertex, Swap}
use Rattle.fitting.specs.declared.fit_fault.FitFault.{FitFault}
use Rattle.fitting.specs.declared.fit_fault.FitFault.TheVariants.{StartDiffers, GoalDiffers, SizeDiffers}
use Rattle.ending.specs.declared.pieces.Piece.{Piece}
use Rattle.ending.specs.Laws.Pieces.{SaysPiece}
use Rattle.ending.specs.Pieces.{pieces_of, pieces_text}
use Rattle.check_commands.specs.FaultsText.{fit_fault_json, listed_numbers, of_turn, plan_fault_json, told_json}

-- ---- the faults as JSON

pub bad_start-parts : (fault : PlanFault) (i : ℕ) (agent : Piece) → fault ≡ BadStart i → SaysPiece agent (codes "{\"kind\":\"BadStart\",\"agent\":") i
    → pieces_text (pieces_of (agent ∷ [])) ++ codes "}" ≡ plan_fault_json fault
bad_start-parts fault i agent is a = rw (is, a.0, a.1) refl

pub bad_move-parts : (fault : PlanFault) (i n : ℕ) (agent step : Piece) → fault ≡ BadMove i n
    → SaysPiece agent (codes "{\"kind\":\"BadMove\",\"agent\":") i → SaysPiece step (codes ",\"step\":") n
    → pieces_text (pieces_of (agent ∷ step ∷ [])) ++ codes "}" ≡ plan_fault_json fault
bad_move-parts fault i n agent step is a s = rw (is, a.0, a.1, s.0, s.1) refl

pub swap-parts : (fault : PlanFault) (i j n : ℕ) (first second step : Piece) → fault ≡ Swap i j n
    → SaysPiece first (codes "{\"kind\":\"Swap\",\"agents\":[") i → SaysPiece second (codes ",") j → SaysPiece step (codes "],\"step\":") n
    → pieces_text (pieces_of (first ∷ second ∷ step ∷ [])) ++ codes "}" ≡ plan_fault_json fault
swap-parts fault i j n first second step is f s t = rw (is, f.0, f.1, s.0, s.1, t.0, t.1) refl

pub vertex-parts : (fault : PlanFault) (i j n : ℕ) (cell : Cell) (first second time x y : Piece) → fault ≡ Vertex i j n cell
    → SaysPiece first (codes "{\"kind\":\"Vertex\",\"agents\":[") i → SaysPiece second (codes ",") j → SaysPiece time (codes "],\"time\":") n
    → SaysPiece x (codes ",\"x\":") cell.x → SaysPiece y (codes ",\"y\":") cell.y
    → pieces_text (pieces_of (first ∷ second ∷ time ∷ x ∷ y ∷ [])) ++ codes "}" ≡ plan_fault_json fault
vertex-parts fault i j n cell first second time x y is f s t p q = rw (is, f.0, f.1, s.0, s.1, t.0, t.1, p.0, p.1, q.0, q.1) refl

pub start_differs-parts : (fault : FitFault) (i : ℕ) (agent : Piece) → fault ≡ StartDiffers i → SaysPiece agent (codes "{\"kind\":\"StartDiffers\",\"agent\":") i
    → pieces_text (pieces_of (agent ∷ [])) ++ codes "}" ≡ fit_fault_json fault
start_differs-parts fault i agent is a = rw (is, a.0, a.1) refl

pub goal_differs-parts : (fault : FitFault) (i : ℕ) (agent : Piece) → fault ≡ GoalDiffers i → SaysPiece agent (codes "{\"kind\":\"GoalDiffers\",\"agent\":") i
    → pieces_text (pieces_of (agent ∷ [])) ++ codes "}" ≡ fit_fault_json fault
goal_differs-parts fault i agent is a = rw (is, a.0, a.1) refl

pub size_differs-parts : (fault : FitFault) (i : ℕ) (agent : Piece) → fault ≡ SizeDiffers i → SaysPiece agent (codes "{\"kind\":\"SizeDiffers\",\"agent\":") i
    → pieces_text (pieces_of (agent ∷ [])) ++ codes "}" ≡ fit_fault_json fault
size_differs-parts fault i agent is a = rw (is, a.0, a.1) refl

-- ---- rotations

pub turn-parts : (head : List ℕ) (step : ℕ) (agents end : List ℕ)
    → head ++ ((space ∷ decimal step) ++ (separated space agents ++ end)) ≡ head ++ spaced_numbers (step ∷ agents) ++ end
turn-parts head step agents end = simp append_assoc

pub number-piece : (piece : Piece) (n : ℕ) → SaysPiece piece [] n → pieces_text (pieces_of (piece ∷ [])) ≡ decimal n
number-piece piece n is = rw (is.0, is.1) (append-nil (decimal n))

-- the object of a rotation as far as its agents
abbrev pub object_head : ℕ → List ℕ
object_head step = (codes "{\"kind\":\"Rotation\",\"step\":" ++ decimal step) ++ codes ",\"agents\":["

pub head-pieces : (piece : Piece) (step : ℕ) → SaysPiece piece (codes "{\"kind\":\"Rotation\",\"step\":") step
    → pieces_text (pieces_of (piece ∷ [])) ++ codes ",\"agents\":[" ≡ object_head step
head-pieces piece step is =
    rw (is.0, is.1) (ap (λ (xs : List ℕ). xs ++ codes ",\"agents\":[") (append-nil (codes "{\"kind\":\"Rotation\",\"step\":" ++ decimal step)))

pub object-parts : (turn : Turn) → object_head turn.step ++ (listed_numbers turn.agents ++ codes "]}") ≡ told_json (of_turn turn)
object-parts turn = simp append_assoc
