-- What the parts owe each other that keep a plan beside a tape.
use Rattle.std.specs.Prelude.{◌≡◌, ◌≢◌, ◌<◌, ℕ, Bool, true, false, not, List, length, Option}
use Rattle.std.specs.Prelude.{None, Some, is_some, IfSome, MatchOption, Result, Ok, Err}
use Rattle.std.specs.Io.KnownBytes.{Consumes}
use Rattle.text_io.specs.declared.counted.Counted.{Counted}
use Rattle.text_io.specs.Text.{BeginsWith}
use Rattle.model.specs.History.{record_length}
use Rattle.model.specs.Plan.{Plan}
use Rattle.model.specs.Timetable.{track_of}
use Rattle.depgraph.specs.AgentParts.{AgentPart, IsPartOf}
use Rattle.plan_text.specs.declared.plan_text_fault.PlanTextFault.{PlanTextFault}
use Rattle.plan_text.specs.declared.plan_text_fault.PlanTextFault.TheVariants as text_fault
use Rattle.planned.specs.Planned.{ReadsAtHand}
use Rattle.planned.specs.declared.planned_fault.PlannedFault.{PlannedFault}
use Rattle.planned.specs.declared.reading.PlanAtHand.{PlanAtHand}
use Rattle.robot.specs.FileTape.{file_state}
use Rattle.robot.specs.declared.file_tape.FileTape.{FileTape}
use Rattle.robot.specs.declared.file_tape.FileTapeFault.TheVariants.{TapeFailed, OutOfMemory}
use Rattle.tape_claim.specs.declared.TapeClaim.{TapeClaim}
use Rattle.tape_claim.specs.declared.TapeClaim.TheVariants as claim
use Rattle.agent_commands.specs.Code.Parts.{IsLost}
use Rattle.agent_commands.specs.FileDeeds.{FileDeed, FindsFile}
use Rattle.agent_commands.specs.FileDeeds.FileDeed.{finds_none, cannot_open, keeps_name}
use Rattle.agent_commands.specs.FileDeeds.FileDeed.{sets_mark, syncs_beside}
use Rattle.agent_commands.specs.KeptPlan.{HasMark, HasNoPlan, IsAkin}
use Rattle.agent_commands.specs.KeptPlan.{IsKeptIn, IsOtherPlan, IsPlanPut, mark_line}
use Rattle.agent_commands.specs.declared.agent_fault.AgentFault.{AgentFault}
use Rattle.agent_commands.specs.declared.agent_fault.AgentFault.TheVariants.{OpenFailed, NoTape}
use Rattle.agent_commands.specs.declared.agent_fault.AgentFault.TheVariants.{File, PlanDamaged}
use Rattle.agent_commands.specs.declared.agent_fault.AgentFault.TheVariants.{TapeEmptied, OtherPlan}
use Rattle.agent_commands.specs.declared.agent_part.PartAndTerms.{PartAndTerms}
use Rattle.agent_commands.specs.declared.kept_plan.PlanTask.{PlanTask}
use Rattle.agent_commands.specs.declared.kept_plan.PlanTask.TheVariants.{Nothing, Sync, Mark, Write}
use Rattle.agent_commands.specs.declared.plan_file.KeptPlan.{KeptPlan}
use Rattle.agent_commands.specs.declared.terms.Terms.{Terms}
use Rattle.agent_commands.specs.declared.terms.Terms.TheVariants as terms

-- ---- the file

-- the first line was read, or there is none
abbrev pub ReadsMark : Option (List ℕ) → Option (List ℕ) → Option Bool → Type 0
ReadsMark old new (Some marked) = Consumes old new (mark_line marked)
ReadsMark old new None = IfSome old (λ all. (marked : Bool) → BeginsWith (mark_line marked) all → ⊥)

-- why no plan was read of a file
abbrev pub IsNotRead : Option (List ℕ) → AgentFault → Type 0
IsNotRead all PlanDamaged = HasNoPlan all
IsNotRead all (File fault) = IsLost fault
IsNotRead all _ = ⊥

-- what is told where the plan behind the first line can't be read
abbrev pub blame_of : PlanTextFault → AgentFault
blame_of (text_fault.BadHeader line) = PlanDamaged
blame_of (text_fault.BadNumber line) = PlanDamaged
blame_of (text_fault.TooMany line) = PlanDamaged
blame_of (text_fault.BadAgent line) = PlanDamaged
blame_of (text_fault.BadAct line column) = PlanDamaged
blame_of (text_fault.Unfinished line) = PlanDamaged
blame_of (text_fault.TextAfter line) = PlanDamaged
blame_of text_fault.ReadFailed = File TapeFailed
blame_of text_fault.OutOfMemory = File OutOfMemory

-- ---- terms

abbrev pub claim_of : Terms → TapeClaim
claim_of terms.Any = claim.Any
claim_of (terms.New p) = claim.New
claim_of (terms.Kept p) = claim.Kept

-- the terms are those of the claim, with the plan
abbrev pub IsTermsFor : TapeClaim → Plan → Terms → Type 0
IsTermsFor claim.Any p t = t ≡ terms.Any
IsTermsFor claim.New p t = t ≡ terms.New p
IsTermsFor claim.Kept p t = t ≡ terms.Kept p

-- an agent's part, if there is one, with terms
abbrev pub IsOnTerms : Option AgentPart → Terms → Option PartAndTerms → Type 0
IsOnTerms own t result =
    MatchOption result (own ≡ None) (λ it. (own ≡ Some it.own) × (it.terms ≡ t))

-- there is no such agent, or this is what it needs, and on which terms
abbrev pub IsPartOnTerms : TapeClaim → PlanAtHand → ℕ → Option PartAndTerms → Type 0
IsPartOnTerms claim it i None = track_of it.dependencies i ≡ None
IsPartOnTerms claim it i (Some part) =
    IsPartOf it.dependencies part.own × (part.own.agent ≡ i) × IsTermsFor claim it.plan part.terms

abbrev pub ReadsPartAndTerms
    : {M P : Type 0} → (M → Option (List ℕ)) → (P → Option (List ℕ)) → ℕ → TapeClaim → Counted M
    → Counted M → Counted P → Counted P
    → Result (Option PartAndTerms) PlannedFault → Type 0
ReadsPartAndTerms map_left plan_left i claim old_map new_map old_plan new_plan (Ok part) =
    (it : PlanAtHand) × ReadsAtHand map_left plan_left old_map new_map old_plan new_plan (Ok it)
    × IsPartOnTerms claim it i part
ReadsPartAndTerms map_left plan_left i claim old_map new_map old_plan new_plan (Err fault) =
    ReadsAtHand map_left plan_left old_map new_map old_plan new_plan (Err fault)

-- ---- comparing

-- What is still to be done where a plan is kept, and that at hand is akin to it: nothing, and a
-- sync, only where the file says what it should.
pub record IsTaskFor (kept : KeptPlan) (p : Plan) (has_record : Bool)
    (task : PlanTask) : Type 0 where
  pub akin : IsAkin kept.plan p
  pub stored : kept.is_marked ≡ true → has_record ≡ true
  pub same : task ≢ Write → p ≡ kept.plan
  pub bare : task ≡ Nothing → has_record ≡ false
  pub marked : task ≡ Sync → kept.is_marked ≡ true

abbrev pub IsNoTaskFor : KeptPlan → Plan → Bool → AgentFault → Type 0
IsNoTaskFor kept p has_record TapeEmptied = (kept.is_marked ≡ true) × (has_record ≡ false)
IsNoTaskFor kept p has_record (OtherPlan apart) = IsAkin kept.plan p → ⊥
IsNoTaskFor kept p has_record _ = ⊥

-- a plan is kept, and this is to be done to its file
abbrev pub IsKeptTask : (FileDeed → Type 0) → Plan → Bool → PlanTask → Type 0
IsKeptTask WasDone p has_record task =
    FindsFile WasDone (λ all. (kept : KeptPlan) × IsKeptIn all kept.is_marked kept.plan
    × IsTaskFor kept p has_record task)

-- why the file beside a kept tape doesn't let the plan at hand by
abbrev pub IsNotLetBy : (FileDeed → Type 0) → Plan → Bool → AgentFault → Type 0
IsNotLetBy WasDone p has_record PlanDamaged = FindsFile WasDone HasNoPlan
IsNotLetBy WasDone p has_record TapeEmptied =
    (has_record ≡ false) × FindsFile WasDone (HasMark true)
IsNotLetBy WasDone p has_record (OtherPlan apart) = IsOtherPlan WasDone p
IsNotLetBy WasDone p has_record NoTape = WasDone finds_none
IsNotLetBy WasDone p has_record OpenFailed = WasDone cannot_open
IsNotLetBy WasDone p has_record (File fault) = IsLost fault
IsNotLetBy WasDone p has_record _ = ⊥

-- why the file beside a new tape isn't written anew
abbrev pub IsNotMadeAnew : (FileDeed → Type 0) → AgentFault → Type 0
IsNotMadeAnew WasDone PlanDamaged = FindsFile WasDone HasNoPlan
IsNotMadeAnew WasDone TapeEmptied = FindsFile WasDone (HasMark true)
IsNotMadeAnew WasDone OpenFailed = WasDone cannot_open
IsNotMadeAnew WasDone (File fault) = IsLost fault
IsNotMadeAnew WasDone _ = ⊥

-- ---- keeping

-- what was to be done to the file beside a tape is done
abbrev pub IsTaskDone : (FileDeed → Type 0) → Terms → Bool → PlanTask → Type 0
IsTaskDone WasDone t has_record Nothing = Unit {0}
IsTaskDone WasDone t has_record Sync = WasDone syncs_beside × WasDone keeps_name
IsTaskDone WasDone t has_record Mark = WasDone sets_mark × WasDone keeps_name
IsTaskDone WasDone terms.Any has_record Write = Unit {0}
IsTaskDone WasDone (terms.New p) has_record Write = IsPlanPut WasDone p has_record
IsTaskDone WasDone (terms.Kept p) has_record Write = IsPlanPut WasDone p has_record

-- What is still to be done where a tape is taken: nothing is kept of a plan where any is taken; a
-- new one has its plan written; and where that of a kept one isn't, it is there, with a mark where
-- none is set.
abbrev pub IsDueTask
    : {F : Type 0} → (FileDeed → Type 0) → TapeClaim → Plan → FileTape F → PlanTask → Type 0
IsDueTask WasDone claim.Any p tape task = task ≡ Nothing
IsDueTask WasDone claim.New p tape task = task ≡ Write
IsDueTask WasDone claim.Kept p tape task =
    task ≢ Write
    → FindsFile WasDone (λ all. (marked : Bool) × IsKeptIn all marked p
    × (task ≡ Sync → marked ≡ true)
    × (task ≡ Nothing → length (file_state tape).contents < record_length))

-- the file beside the tape is to be marked when the first record is stored
abbrev pub is_still_unmarked : Terms → (has_record : Bool) → Bool
is_still_unmarked terms.Any has_record = false
is_still_unmarked t has_record = not has_record

-- of a tape without a record, of which something is claimed, that is known
abbrev pub MarksLater : {F N : Type 0} → TapeClaim → FileTape F → Option N → Type 0
MarksLater claim.Any tape unmarked = Unit {0}
MarksLater claim tape unmarked =
    length (file_state tape).contents < record_length → is_some unmarked ≡ true

-- a record was noted: the file beside the tape, if it was not marked, is marked
abbrev pub IsMarkNoted : {N : Type 0} → (FileDeed → Type 0) → Option N → Option N → Type 0
IsMarkNoted WasDone unmarked after =
    MatchOption unmarked (Unit {0}) (λ _. WasDone sets_mark) × (after ≡ None)
