-- What `mapf handover` does and answers.
use Rattle.std.specs.Prelude.{◌≡◌, ◌≢◌, ℕ, ◌<◌, ◌&&◌, not, Bool, true, false}
use Rattle.std.specs.Prelude.{⊤, List, [], length, Option, None, Result, Ok, Err}
use Rattle.text_io.specs.declared.counted.Counted.{Counted}
use Rattle.model.specs.Plan.{Plan}
use Rattle.model.specs.Timetable.{Timetable}
use Rattle.depgraph.specs.Rotations.{Turn, AreRotations}
use Rattle.continuing.specs.Continuing.{cut_at}
use Rattle.plan_text.specs.PlanText.{canonical_plan_text}
use Rattle.planned.specs.Planned.{IsAtHand, ReadsTimetable}
use Rattle.planned.specs.declared.reading.PlanAtHand.{PlanAtHand}
use Rattle.ending.specs.declared.status.Status.TheVariants.{Done}
use Rattle.ending.specs.Ending.{End, answered_with, gave_up}
use Rattle.ending.specs.Rewriting.{EndsWriting}
use Rattle.agent_commands.specs.FileDeeds.{FileDeed}
use Rattle.fleet_commands.specs.FoundTapes.{Found, AreFoundIn, is_known}
use Rattle.fleet_commands.specs.CutTimes.{IsCutTime}
use Rattle.fleet_commands.specs.LeftPlan.{is_left_out}
use Rattle.fleet_commands.specs.StatusText.{run_lines}
use Rattle.fleet_commands.specs.FaultWords.{handover_fault_words}
use Rattle.fleet_commands.specs.declared.handover_fault.HandoverFault.{HandoverFault}
use Rattle.fleet_commands.specs.declared.handover_fault.HandoverFault.TheVariants.{Planned}
use Rattle.fleet_commands.specs.declared.handover_fault.HandoverFault.TheVariants.{BadTape}
use Rattle.fleet_commands.specs.declared.handover_fault.HandoverFault.TheVariants.{NotOneRun}
use Rattle.fleet_commands.specs.declared.handover_fault.HandoverFault.TheVariants.{OutOfMemory}
use Rattle.fleet_commands.specs.declared.status_line.StatusLine.{StatusLine}

-- ---- what is known

-- no agent is opened on the tape of this one, which isn't left out
abbrev pub is_unknown : Option ℕ → List Found → ℕ → Bool
is_unknown without found i = not (is_left_out without i) && not (is_known found i)

abbrev pub AreAllKnown : Option ℕ → List Found → Type 0
AreAllKnown without found = (i : ℕ) → i < length found → is_unknown without found i ≡ false

pub record IsFirstUnknown (without : Option ℕ) (found : List Found) (i : ℕ) : Type 0 where
  pub there : i < length found
  pub unknown : is_unknown without found i ≡ true
  pub first : (before : ℕ) → before < i → is_unknown without found before ≡ false

-- ---- what comes of it

-- the tapes were read, but for an agent that is left out all are right, and these are the lines of
-- what shows that they are not those of one run
abbrev pub AreReadAs : (FileDeed → Type 0) → Timetable → Option ℕ → List Found
    → List StatusLine → Type 0
AreReadAs WasDone tt without found lines =
    AreFoundIn WasDone tt found × AreAllKnown without found
    × ((turns : List Turn) × AreRotations tt turns × (lines ≡ run_lines tt without turns found))

-- such lines there are
abbrev pub IsNotOneRun : (FileDeed → Type 0) → Timetable → Option ℕ → Type 0
IsNotOneRun WasDone tt without =
    (found : List Found) × (lines : List StatusLine) × AreReadAs WasDone tt without found lines
    × (lines ≢ [])

-- The tapes were read, they can be those of one run, and this is the plan cut at the time by which
-- all is made that was begun; or no agent is opened on a tape, or the tapes are not those of one
-- run, or memory was refused.
abbrev pub IsHandedOver
    : (FileDeed → Type 0) → PlanAtHand → Result Plan HandoverFault → Type 0
IsHandedOver WasDone it (Ok kept) =
    (found : List Found) × (time : ℕ) × AreReadAs WasDone it.dependencies None found []
    × IsCutTime it.dependencies found time × (kept ≡ cut_at time it.plan)
IsHandedOver WasDone it (Err (BadTape i)) =
    (found : List Found) × AreFoundIn WasDone it.dependencies found × IsFirstUnknown None found i
IsHandedOver WasDone it (Err NotOneRun) = IsNotOneRun WasDone it.dependencies None
IsHandedOver WasDone it (Err OutOfMemory) = ⊤
IsHandedOver WasDone it (Err _) = ⊥

-- The texts were read and the plan was checked, and then this came of it; or there is no such plan.
abbrev pub ReadsThen
    : {M P : Type 0} → (M → Option (List ℕ)) → (P → Option (List ℕ)) → Counted M → Counted M
    → Counted P → Counted P
    → (PlanAtHand → Result Plan HandoverFault → Type 0) → Result Plan HandoverFault → Type 0
ReadsThen map_left plan_left old_map new_map old_plan new_plan Comes (Err (Planned fault)) =
    ReadsTimetable map_left plan_left old_map new_map old_plan new_plan (Err fault)
ReadsThen map_left plan_left old_map new_map old_plan new_plan Comes answer =
    (it : PlanAtHand) × IsAtHand map_left plan_left old_map new_map old_plan new_plan it
    × Comes it answer

-- What the output got and how the command ended: the canonical text of the plan, or a beginning of
-- it where the output failed; nothing where there is none.
abbrev pub EndsByPlan : {W : Type 0} → (W → Option (List ℕ)) → Counted W → Counted W → End
    → Result Plan HandoverFault → Type 0
EndsByPlan contents old new end (Ok p) =
    EndsWriting contents old new (answered_with Done) end (canonical_plan_text p)
EndsByPlan contents old new end (Err fault) =
    (end ≡ gave_up (handover_fault_words fault)) × (new ≡ old)

pub record AnswersHandover
    {M P W : Type 0} (map_left : M → Option (List ℕ)) (plan_left : P → Option (List ℕ))
    (WasDone : FileDeed → Type 0) (contents : W → Option (List ℕ))
    (old_map new_map : Counted M) (old_plan new_plan : Counted P) (old_out new_out : Counted W)
    (end : End) : Type 0 where
  pub answer : Result Plan HandoverFault
  pub reads : ReadsThen map_left plan_left old_map new_map old_plan new_plan
      (IsHandedOver WasDone) answer
  pub ends : EndsByPlan contents old_out new_out end answer
