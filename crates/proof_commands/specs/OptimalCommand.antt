-- What `mapf optimal` does and answers.
use Rattle.std.specs.Prelude.{◌≡◌, ℕ, ◌⊎◌, Bool, List, map, Option, Result, Ok, Err}
use Rattle.text_io.specs.declared.counted.Counted.{Counted}
use Rattle.text_io.specs.FaultWords.{words_text}
use Rattle.grid.specs.Map.{Grid}
use Rattle.model.specs.Plan.{Plan}
use Rattle.plan_text.specs.PlanTextFault.{ReadsMapAndPlan}
use Rattle.checker.specs.Checking.{Checked, IsCheckOf}
use Rattle.optimality.specs.declared.constraint.Ends.{Ends}
use Rattle.optimality.specs.Judging.{BoundHolds, objective_value}
use Rattle.optimality.specs.Splitting.{ends_of}
use Rattle.planned.specs.FaultWords.{planned_fault_words}
use Rattle.planned.specs.Planned.{ReadsChecked}
use Rattle.planned.specs.declared.planned_fault.PlannedFault.{PlannedFault}
use Rattle.proof_text.specs.FaultWords.{proof_fault_words}
use Rattle.proof_text.specs.ProofFault.{ProofFaultAt, proof_outcome}
use Rattle.proof_text.specs.ProofText.{ProofText}
use Rattle.proof_text.specs.declared.claim.ProofClaim.{ProofClaim}
use Rattle.proof_text.specs.declared.proof_fault.ProofFault.{ProofFault}
use Rattle.proof_text.specs.declared.proof_fault.ProofFault.TheVariants.{NoSuchAgent, OffMap}
use Rattle.proof_text.specs.declared.proof_fault.ProofFault.TheVariants.{LeafTooLow}
use Rattle.ending.specs.declared.status.Status.TheVariants.{Done}
use Rattle.ending.specs.Ending.{End, answered_with, gave_up, rejected}
use Rattle.ending.specs.Rewriting.{EndsByLine, Reads}
use Rattle.proof_commands.specs.ShownText.{claim_line, refused_line}

-- a map and a plan were read, which is valid on it, and this is its check
abbrev pub ReadsPlanOnMap
    : {M P : Type 0} → (M → Option (List ℕ)) → (P → Option (List ℕ)) → Counted M → Counted M
    → Counted P → Counted P → Grid → Checked → Type 0
ReadsPlanOnMap map_left plan_left old_map new_map old_plan new_plan m c =
    (p : Plan) × ReadsMapAndPlan map_left plan_left old_map new_map old_plan new_plan m p
    × IsCheckOf m p c

-- where the plan's agents start, and where they come to rest
abbrev pub ends_in : Checked → List Ends
ends_in c = map ends_of c.timetable.tracks

-- a proof was read, that plans on the map whose agents go so cost no less
abbrev pub ReadsProofOn : {F : Type 0} → (F → Option (List ℕ)) → Counted F → Counted F → Grid
    → Checked → Result ProofClaim ProofFault → Type 0
ReadsProofOn proof_left old new m c answer =
    Reads (ProofText m (ends_in c)) (ProofFaultAt m (ends_in c)) proof_left old new
    (proof_outcome answer)

-- The output names the fault of a proof that proves nothing, if that is an agent or a cell that
-- isn't there, or a leaf that doesn't stand. Any other fault is told as those of all texts.
abbrev pub EndsUnproved : {W : Type 0} → (W → Option (List ℕ)) → (json : Bool) → Counted W
    → Counted W → End → ProofFault → Type 0
EndsUnproved contents json old new end (NoSuchAgent line) =
    EndsByLine contents old new (rejected (proof_fault_words (NoSuchAgent line))) end
    (refused_line json (words_text (proof_fault_words (NoSuchAgent line))))
EndsUnproved contents json old new end (OffMap line) =
    EndsByLine contents old new (rejected (proof_fault_words (OffMap line))) end
    (refused_line json (words_text (proof_fault_words (OffMap line))))
EndsUnproved contents json old new end (LeafTooLow line least) =
    EndsByLine contents old new (rejected (proof_fault_words (LeafTooLow line least))) end
    (refused_line json (words_text (proof_fault_words (LeafTooLow line least))))
EndsUnproved contents json old new end fault =
    (end ≡ gave_up (proof_fault_words fault)) × (new ≡ old)

-- What the output got and how the command ended, by what reading the proof came to: where it holds,
-- no valid plan on the map whose agents go as those of this plan costs less than the bound, and the
-- line says what this plan costs, beside that bound.
abbrev pub EndsByProof
    : {W : Type 0} → (W → Option (List ℕ)) → (json : Bool) → Grid → Checked → Counted W → Counted W
    → End → Result ProofClaim ProofFault → Type 0
EndsByProof contents json m c old new end (Ok claim) =
    BoundHolds m (ends_in c) claim.objective claim.bound
    × EndsByLine contents old new (answered_with Done) end
    (claim_line json claim.objective (objective_value claim.objective c.timetable)
    claim.bound claim.nodes)
EndsByProof contents json m c old new end (Err fault) = EndsUnproved contents json old new end fault

-- a proof for a plan on a map was read, and the command ended by that
abbrev pub AnswersByProof
    : {F W : Type 0} → (F → Option (List ℕ)) → (W → Option (List ℕ)) → (json : Bool) → Grid
    → Checked → Counted F → Counted F → Counted W → Counted W
    → End → Type 0
AnswersByProof proof_left contents json m c old_proof new_proof old new end =
    (answer : Result ProofClaim ProofFault) × ReadsProofOn proof_left old_proof new_proof m c answer
    × EndsByProof contents json m c old new end answer

-- The map and the plan were read, and the plan was checked, and where it is valid the proof was
-- read, which is not touched where it isn't; then its fault is told.
abbrev pub AnswersOptimal
    : {M P F W : Type 0} → (M → Option (List ℕ)) → (P → Option (List ℕ)) → (F → Option (List ℕ))
    → (W → Option (List ℕ)) → (json : Bool)
    → Counted M → Counted M → Counted P → Counted P → Counted F → Counted F → Counted W → Counted W
    → End → Type 0
AnswersOptimal map_left plan_left proof_left contents json old_map new_map old_plan new_plan
    old_proof new_proof old new end =
    ((fault : PlannedFault) × ReadsChecked map_left plan_left old_map new_map old_plan new_plan
    (Err fault) × (new_proof ≡ old_proof)
    × (end ≡ gave_up (planned_fault_words fault)) × (new ≡ old))
    ⊎ ((m : Grid) × (c : Checked)
    × ReadsPlanOnMap map_left plan_left old_map new_map old_plan new_plan m c
    × AnswersByProof proof_left contents json m c old_proof new_proof old new end)
