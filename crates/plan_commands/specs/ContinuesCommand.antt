-- What `mapf continues` does and answers.
use Rattle.std.specs.Prelude.{◌≡◌, ℕ, List, [], ◌∷◌, ◌++◌, codes, decimal, Option, Result, Ok, Err}
use Rattle.text_io.specs.declared.counted.Counted.{Counted}
use Rattle.text_io.specs.Text.{line_feed}
use Rattle.grid.specs.Map.{Grid}
use Rattle.grid.specs.MapFault.{ReadsMap}
use Rattle.model.specs.Plan.{Plan, IsValid, longest_of}
use Rattle.plan_text.specs.PlanTextFault.{ReadsPlan, ReadsMapAndPlan}
use Rattle.continuing.specs.Adding.{AddsMoves}
use Rattle.continuing.specs.Continuing.{Continues}
use Rattle.continuing.specs.Departing.{IsContinueFault}
use Rattle.checker.specs.Checking.{IsRefusedFor}
use Rattle.plan_commands.specs.declared.continues_command.Continuation.{Continuation}
use Rattle.plan_commands.specs.declared.continuation_fault.ContinuationFault.{ContinuationFault}
use Rattle.plan_commands.specs.declared.continuation_fault.ContinuationFault.TheVariants.{Map}
use Rattle.plan_commands.specs.declared.continuation_fault.ContinuationFault.TheVariants.{OldText}
use Rattle.plan_commands.specs.declared.continuation_fault.ContinuationFault.TheVariants.{NewText}
use Rattle.plan_commands.specs.declared.continuation_fault.ContinuationFault.TheVariants.{Old}
use Rattle.plan_commands.specs.declared.continuation_fault.ContinuationFault.TheVariants.{New}
use Rattle.plan_commands.specs.declared.continuation_fault.ContinuationFault.TheVariants.{Apart}
use Rattle.ending.specs.declared.status.Status.TheVariants.{Done}
use Rattle.ending.specs.Ending.{End, answered_with, gave_up}
use Rattle.ending.specs.Rewriting.{EndsByLine}
use Rattle.plan_commands.specs.FaultWords.{continuation_fault_words}

-- The new plan continues the old one. It adds to it from this time on, the most acts of an agent of
-- the old one, and by so many moves.
pub record IsContinuation (old new : Plan) (c : Continuation) : Type 0 where
  pub continues : Continues old new
  pub time : c.time ≡ longest_of old.courses
  pub moves : AddsMoves old new c.moves

-- Both plans are valid on the map, and the new one continues the old one. Or the old one is refused
-- for its least fault, or for want of memory; or the old one is valid, and the new one is refused
-- so; or both are valid, and this is the first reason why the new one doesn't continue the old one.
abbrev pub JudgesPlans : Grid → Plan → Plan → Result Continuation ContinuationFault → Type 0
JudgesPlans m old new (Ok c) = IsValid m old × IsValid m new × IsContinuation old new c
JudgesPlans m old new (Err (Old fault)) = IsRefusedFor m old fault
JudgesPlans m old new (Err (New fault)) = IsValid m old × IsRefusedFor m new fault
JudgesPlans m old new (Err (Apart fault)) =
    IsValid m old × IsValid m new × IsContinueFault old new fault
JudgesPlans m old new (Err fault) = ⊥

-- The map was read, and then the old plan, and then the new one, each of them as it was before and
-- as it is now, and the plans were judged on the map. A text that could not be read is answered,
-- and what comes after it isn't touched.
abbrev pub ReadsContinuation
    : {M O N : Type 0} → (M → Option (List ℕ)) → (O → Option (List ℕ)) → (N → Option (List ℕ))
    → Counted M → Counted M → Counted O → Counted O
    → Counted N → Counted N → Result Continuation ContinuationFault → Type 0
ReadsContinuation map_left old_left new_left map_was map_is old_was old_is new_was new_is
    (Err (Map fault)) =
    ReadsMap map_left map_was map_is (Err fault) × (old_is ≡ old_was) × (new_is ≡ new_was)
ReadsContinuation map_left old_left new_left map_was map_is old_was old_is new_was new_is
    (Err (OldText fault)) =
    (m : Grid) × ReadsMap map_left map_was map_is (Ok m)
    × ReadsPlan old_left old_was old_is (Err fault) × (new_is ≡ new_was)
ReadsContinuation map_left old_left new_left map_was map_is old_was old_is new_was new_is
    (Err (NewText fault)) =
    (m : Grid) × (old : Plan)
    × ReadsMapAndPlan map_left old_left map_was map_is old_was old_is m old
    × ReadsPlan new_left new_was new_is (Err fault)
ReadsContinuation map_left old_left new_left map_was map_is old_was old_is new_was new_is answer =
    (m : Grid) × (old : Plan) × (new : Plan)
    × ReadsMapAndPlan map_left old_left map_was map_is old_was old_is m old
    × ReadsPlan new_left new_was new_is (Ok new) × JudgesPlans m old new answer

-- as `continues from 3, adds 2 moves`
abbrev pub continuation_line : (time moves : ℕ) → List ℕ
continuation_line time moves =
    codes "continues from "
    ++ (decimal time ++ (codes ", adds " ++ (decimal moves ++ (codes " moves" ++ line_feed ∷ []))))

-- What the output got and how the command ended: the line of a plan that continues the other;
-- nothing where there is none.
abbrev pub EndsByContinues : {W : Type 0} → (W → Option (List ℕ)) → Counted W → Counted W → End
    → Result Continuation ContinuationFault → Type 0
EndsByContinues contents old new end (Ok c) =
    EndsByLine contents old new (answered_with Done) end (continuation_line c.time c.moves)
EndsByContinues contents old new end (Err fault) =
    (end ≡ gave_up (continuation_fault_words fault)) × (new ≡ old)

-- the texts were read, the plans were judged, and the command ended by that
pub record AnswersContinues
    {M O N W : Type 0} (map_left : M → Option (List ℕ)) (old_left : O → Option (List ℕ))
    (new_left : N → Option (List ℕ))
    (contents : W → Option (List ℕ)) (map_was map_is : Counted M) (old_was old_is : Counted O)
    (new_was new_is : Counted N)
    (old_out new_out : Counted W) (end : End) : Type 0 where
  pub answer : Result Continuation ContinuationFault
  pub reads : ReadsContinuation map_left old_left new_left map_was map_is old_was old_is new_was
      new_is answer
  pub ends : EndsByContinues contents old_out new_out end answer
