-- What two plans come to that were read, and then judged.
use Rattle.std.proofs.Common.{ℕ, List, Option, Result, Ok, Err}
use Rattle.text_io.specs.declared.counted.Counted.{Counted}
use Rattle.grid.specs.Map.{Grid}
use Rattle.model.specs.Plan.{Plan}
use Rattle.plan_text.specs.declared.plan_text_fault.PlanTextFault.{PlanTextFault}
use Rattle.plan_text.specs.PlanTextFault.{ReadsPlan, ReadsMapAndPlan}
use Rattle.plan_commands.specs.declared.continues_command.Continuation.{Continuation}
use Rattle.plan_commands.specs.declared.continuation_fault.ContinuationFault.{ContinuationFault}
use Rattle.plan_commands.specs.declared.continuation_fault.ContinuationFault.TheVariants.{Map, OldText, NewText, Old, New, Apart}
use Rattle.plan_commands.specs.ContinuesCommand.{JudgesPlans, ReadsContinuation}

module _ {M O N : Type 0} (map_left : M → Option (List ℕ)) (old_left : O → Option (List ℕ)) (new_left : N → Option (List ℕ))
    (map_was map_is : Counted M) (old_was old_is : Counted O) (new_was new_is : Counted N) where
  pub judged_plans : (m : Grid) (old new : Plan) (answer : Result Continuation ContinuationFault)
      → ReadsMapAndPlan map_left old_left map_was map_is old_was old_is m old → ReadsPlan new_left new_was new_is (Ok new) → JudgesPlans m old new answer
      → ReadsContinuation map_left old_left new_left map_was map_is old_was old_is new_was new_is answer
  judged_plans m old new (Ok c) texts read judged = (m, old, new, texts, read, judged)
  judged_plans m old new (Err (Old fault)) texts read judged = (m, old, new, texts, read, judged)
  judged_plans m old new (Err (New fault)) texts read judged = (m, old, new, texts, read, judged)
  judged_plans m old new (Err (Apart fault)) texts read judged = (m, old, new, texts, read, judged)
  judged_plans m old new (Err (Map fault)) texts read judged = absurd judged
  judged_plans m old new (Err (OldText fault)) texts read judged = absurd judged
  judged_plans m old new (Err (NewText fault)) texts read judged = absurd judged

  pub no_new_plan : (m : Grid) (old : Plan) (fault : PlanTextFault) → ReadsMapAndPlan map_left old_left map_was map_is old_was old_is m old
      → ReadsPlan new_left new_was new_is (Err fault)
      → ReadsContinuation map_left old_left new_left map_was map_is old_was old_is new_was new_is (Err (NewText fault))
  no_new_plan m old fault texts read = (m, old, texts, read)
