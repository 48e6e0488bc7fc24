-- What `mapf run` does and answers.
use Rattle.std.specs.Prelude.{◌≡◌, ℕ, Bool, true, false, List, MatchBool, Option, Result, Ok, Err}
use Rattle.text_io.specs.declared.counted.Counted.{Counted}
use Rattle.runner.specs.declared.completion.Completion.{Completion}
use Rattle.runner.specs.declared.completion.Completion.TheVariants.{Ends, Blocked}
use Rattle.runner.specs.declared.run_fault.RunFault.{RunFault}
use Rattle.runner.specs.declared.run_fault.RunFault.TheVariants.{Planned, WriteFailed}
use Rattle.runner.specs.Completing.{CompletesText}
use Rattle.runner.specs.Replaying.{RunsText}
use Rattle.ending.specs.declared.status.Status.TheVariants.{Done, Fault}
use Rattle.ending.specs.Ending.{End, answered_with, gave_up}
use Rattle.ending.specs.Finishing.{FinishesWriting}
use Rattle.runner.specs.FaultWords.{run_fault_words}

-- The texts were read and the events were answered; where it was asked for, and there alone, it was
-- also said how their run ends.
abbrev pub RunsOrCompletes
    : {M P V W : Type 0} → (M → Option (List ℕ)) → (P → Option (List ℕ)) → (V → Option (List ℕ))
    → (W → Option (List ℕ))
    → Counted M → Counted M → Counted P → Counted P → Counted V → Counted V → (complete : Bool)
    → Counted W → Counted W → Result Completion RunFault → Type 0
RunsOrCompletes map_left plan_left events_left contents old_map new_map old_plan new_plan old_events
    new_events true old_out new_out answer =
    CompletesText map_left plan_left events_left contents old_map new_map old_plan new_plan
    old_events new_events old_out new_out answer
RunsOrCompletes map_left plan_left events_left contents old_map new_map old_plan new_plan old_events
    new_events false old_out new_out (Ok Ends) =
    RunsText map_left plan_left events_left contents old_map new_map old_plan new_plan old_events
    new_events old_out new_out (Ok tt)
RunsOrCompletes map_left plan_left events_left contents old_map new_map old_plan new_plan old_events
    new_events false old_out new_out (Ok (Blocked n)) = ⊥
RunsOrCompletes map_left plan_left events_left contents old_map new_map old_plan new_plan old_events
    new_events false old_out new_out (Err fault) =
    RunsText map_left plan_left events_left contents old_map new_map old_plan new_plan old_events
    new_events old_out new_out (Err fault)

-- whether the map and the plan were good, so that events were answered, and no write failed
abbrev pub needs_flush : Result Completion RunFault → Bool
needs_flush (Err (Planned f)) = false
needs_flush (Err WriteFailed) = false
needs_flush _ = true

-- how a run ends that came to this: that a rotation blocks it is told by the status alone
abbrev pub end_of_run : Result Completion RunFault → End
end_of_run (Ok Ends) = answered_with Done
end_of_run (Ok (Blocked n)) = answered_with Fault
end_of_run (Err fault) = gave_up (run_fault_words fault)

-- How a run ends that came to an answer: where events were answered the output is flushed, unless
-- it had failed, and else it is left alone.
abbrev pub EndsByRun : {W : Type 0} → (W → Option (List ℕ)) → Counted W → Counted W → End
    → Result Completion RunFault → Type 0
EndsByRun contents old new end answer =
    MatchBool (needs_flush answer) (FinishesWriting contents true (end_of_run answer) old new end)
    ((end ≡ end_of_run answer) × (new ≡ old))

-- The texts were read, the events were answered, and the ending was said where it was asked for,
-- and the run ended by what they came to.
pub record AnswersRun
    {M P V W : Type 0} (map_left : M → Option (List ℕ)) (plan_left : P → Option (List ℕ))
    (events_left : V → Option (List ℕ))
    (contents : W → Option (List ℕ)) (old_map new_map : Counted M) (old_plan new_plan : Counted P)
    (old_events new_events : Counted V) (complete : Bool) (old_out new_out : Counted W)
    (end : End) : Type 0 where
  pub answer : Result Completion RunFault
  pub written : Counted W
  pub runs : RunsOrCompletes map_left plan_left events_left contents old_map new_map old_plan
      new_plan old_events new_events complete old_out written
      answer
  pub ends : EndsByRun contents written new_out end answer
