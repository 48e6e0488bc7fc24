-- What `mapf agent` does and answers.
use Rattle.std.specs.Prelude.{◌≡◌, ◌≢◌, ℕ, ◌+◌, ◌*◌, ◌<◌, ◌≤◌}
use Rattle.std.specs.Prelude.{◌⊎◌, ◌↔◌, Bool, true, false, List, length, Option}
use Rattle.std.specs.Prelude.{None, Some, IfSome, Result, Ok, Err, MatchResult}
use Rattle.text_io.specs.declared.counted.Counted.{Counted}
use Rattle.model.specs.History.{record_length}
use Rattle.model.specs.Plan.{Plan}
use Rattle.model.specs.Timetable.{Track, Timetable, moves, track_of}
use Rattle.agent.specs.declared.refusal.OpenFault.{OpenFault}
use Rattle.agent.specs.declared.refusal.OpenFault.TheVariants.{NoSuchAgent}
use Rattle.agent.specs.Agents.{AgentOn}
use Rattle.agent.specs.Opening.{IsOpened, IsRefused}
use Rattle.agent.specs.Tape.{IsKept}
use Rattle.robot.specs.Dialogue.{Talks}
use Rattle.robot.specs.declared.talk_fault.TalkFault.{TalkFault}
use Rattle.robot.specs.declared.talk_fault.TalkFault.TheVariants.{StoreFailed, StaleTape}
use Rattle.robot.specs.FileTape.{IsImage, IsFileRead, file_state}
use Rattle.robot.specs.declared.file_tape.FileTape.{FileTape}
use Rattle.robot.specs.declared.file_tape.FileTapeFault.TheVariants.{TooLong}
use Rattle.planned.specs.Planned.{ReadsAtHand}
use Rattle.planned.specs.declared.planned_fault.PlannedFault.{PlannedFault}
use Rattle.planned.specs.declared.reading.PlanAtHand.{PlanAtHand}
use Rattle.tape_claim.specs.declared.TapeClaim.{TapeClaim}
use Rattle.tape_claim.specs.declared.TapeClaim.TheVariants.{Any, New, Kept}
use Rattle.ending.specs.declared.status.Status.TheVariants.{Done, Failure}
use Rattle.ending.specs.Ending.{End, answered_with, gave_up}
use Rattle.agent_commands.specs.FaultWords.{agent_fault_words}
use Rattle.agent_commands.specs.FileDeeds.{FileDeed, FindsFile}
use Rattle.agent_commands.specs.FileDeeds.FileDeed.{finds_none, cannot_open, opens_file}
use Rattle.agent_commands.specs.FileDeeds.FileDeed.{keeps_name, sets_mark}
use Rattle.agent_commands.specs.KeptPlan.{HasMark, HasNoPlan, IsAkin, IsFreeBeside, IsKeptIn}
use Rattle.agent_commands.specs.KeptPlan.{IsOtherPlan, IsPlanPut}
use Rattle.agent_commands.specs.declared.agent_fault.AgentFault.{AgentFault}
use Rattle.agent_commands.specs.declared.agent_fault.AgentFault.TheVariants.{Planned}
use Rattle.agent_commands.specs.declared.agent_fault.AgentFault.TheVariants.{OpenFailed}
use Rattle.agent_commands.specs.declared.agent_fault.AgentFault.TheVariants.{TapeExists}
use Rattle.agent_commands.specs.declared.agent_fault.AgentFault.TheVariants.{NoTape}
use Rattle.agent_commands.specs.declared.agent_fault.AgentFault.TheVariants.{PlanDamaged}
use Rattle.agent_commands.specs.declared.agent_fault.AgentFault.TheVariants.{TapeEmptied}
use Rattle.agent_commands.specs.declared.agent_fault.AgentFault.TheVariants.{OtherPlan}
use Rattle.agent_commands.specs.declared.agent_fault.AgentFault.TheVariants.{File}
use Rattle.agent_commands.specs.declared.agent_fault.AgentFault.TheVariants.{Tape}
use Rattle.agent_commands.specs.declared.agent_fault.AgentFault.TheVariants.{Dialogue}

-- how long a tape file of an agent may be: two records a move
abbrev pub room_of : Track → ℕ
room_of track = 2 * record_length * moves track

-- A tape is the image of some file, as it was opened, with room for two records a move of the
-- agent.
abbrev pub IsTapeOf : {F : Type 0} → (F → Option (List ℕ)) → (FileDeed → Type 0) → Timetable → ℕ
    → FileTape F → Type 0
IsTapeOf {F} remaining WasDone tt i tape =
    (track : Track) × (track_of tt i ≡ Some track)
    × ((file : F) × WasDone (opens_file (remaining file))
    × IsImage remaining file (room_of track) tape)

-- Beside a tape a file had a plan to which that at hand is akin, and it says that a record was
-- stored only where the tape has one.
pub record IsBeside {F : Type 0} (WasDone : FileDeed → Type 0) (p : Plan)
    (tape : FileTape F) : Type 0 where
  pub all : Option (List ℕ)
  pub found : WasDone (opens_file all)
  pub marked : Bool
  pub kept : Plan
  pub is_kept : IsKeptIn all marked kept
  pub is_akin : IsAkin kept p
  pub has_record : marked ≡ true → record_length ≤ length (file_state tape).contents

-- the tape has a record, or its name is kept
abbrev pub IsNamed : {F : Type 0} → (FileDeed → Type 0) → FileTape F → Type 0
IsNamed WasDone tape = length (file_state tape).contents < record_length → WasDone keeps_name

-- what is claimed of a tape: a new one has no whole record, beside it no file says that it ever had
-- one, and its file is synced; one that was kept belongs to the plan at hand
abbrev pub IsClaimed : {F : Type 0} → (FileDeed → Type 0) → TapeClaim → Plan → FileTape F → Type 0
IsClaimed WasDone Any p tape = IsNamed WasDone tape
IsClaimed WasDone New p tape =
    (length (file_state tape).contents < record_length) × IsFreeBeside WasDone
    × (tape.disk.synced ≡ true) × WasDone keeps_name
IsClaimed WasDone Kept p tape = IsBeside WasDone p tape × IsNamed WasDone tape

-- the plan at hand was put beside a tape, with a mark exactly where the tape has a record
abbrev pub IsPutBeside : {F : Type 0} → (FileDeed → Type 0) → Plan → FileTape F → Type 0
IsPutBeside WasDone p tape =
    (marked : Bool) × (marked ≡ true ↔ record_length ≤ length (file_state tape).contents)
    × IsPlanPut WasDone p marked

-- it was found there, with a mark where the tape has a record, or that was set then
abbrev pub IsLeftBeside : {F : Type 0} → (FileDeed → Type 0) → Plan → FileTape F → Type 0
IsLeftBeside WasDone p tape =
    FindsFile WasDone (λ all. (marked : Bool) × IsKeptIn all marked p
    × (record_length ≤ length (file_state tape).contents
    → (marked ≡ true) ⊎ WasDone sets_mark))

-- the file beside a tape of which something is claimed has the plan at hand
abbrev pub IsPlanKept : {F : Type 0} → (FileDeed → Type 0) → TapeClaim → Plan → FileTape F → Type 0
IsPlanKept WasDone Any p tape = Unit {0}
IsPlanKept WasDone claim p tape = IsPutBeside WasDone p tape ⊎ IsLeftBeside WasDone p tape

-- Why the plan beside a tape of which something is claimed doesn't let it be taken: it is none; it
-- says that a record was stored on a tape that has none; or that at hand is another, beside one
-- that was kept.
abbrev pub IsNotBeside
    : {F : Type 0} → (FileDeed → Type 0) → TapeClaim → Plan → FileTape F → AgentFault → Type 0
IsNotBeside WasDone claim p tape PlanDamaged = (claim ≢ Any) × FindsFile WasDone HasNoPlan
IsNotBeside WasDone claim p tape TapeEmptied =
    (claim ≢ Any) × (length (file_state tape).contents < record_length)
    × FindsFile WasDone (HasMark true)
IsNotBeside WasDone claim p tape (OtherPlan apart) = (claim ≡ Kept) × IsOtherPlan WasDone p
IsNotBeside WasDone claim p tape _ = ⊥

-- the timetable has the agent
abbrev pub HasAgent : Timetable → ℕ → Type 0
HasAgent tt i = (track : Track) × (track_of tt i ≡ Some track)

-- no file was made for a new tape, since beside it there is no such text, or one that says that a
-- record was stored
abbrev pub IsNotMade : (FileDeed → Type 0) → TapeClaim → AgentFault → Type 0
IsNotMade WasDone claim PlanDamaged = (claim ≡ New) × FindsFile WasDone HasNoPlan
IsNotMade WasDone claim TapeEmptied = (claim ≡ New) × FindsFile WasDone (HasMark true)
IsNotMade WasDone claim _ = ⊥

-- a tape was opened that the plan beside it doesn't let be taken, or a new one was not made for it
abbrev pub IsUnfit
    : {F : Type 0} → (F → Option (List ℕ)) → (FileDeed → Type 0) → TapeClaim → Plan → Timetable
    → ℕ → AgentFault → Type 0
IsUnfit {F} remaining WasDone claim p tt i fault =
    ((tape : FileTape F) × IsTapeOf remaining WasDone tt i tape
    × IsNotBeside WasDone claim p tape fault)
    ⊎ IsNotMade WasDone claim fault

-- Why there is no tape. Only a file with ten bytes or more behind the room is too long; only a new
-- tape must have no whole record, and only one that was kept must be there, with its plan.
abbrev pub IsNoTape
    : {F : Type 0} → (F → Option (List ℕ)) → (FileDeed → Type 0) → TapeClaim → Plan → Timetable
    → ℕ → AgentFault → Type 0
IsNoTape {F} remaining WasDone claim p tt i (Tape NoSuchAgent) = track_of tt i ≡ None
IsNoTape {F} remaining WasDone claim p tt i OpenFailed = HasAgent tt i × WasDone cannot_open
IsNoTape {F} remaining WasDone claim p tt i TapeExists =
    (claim ≡ New) × ((tape : FileTape F) × IsTapeOf remaining WasDone tt i tape
    × (record_length ≤ length (file_state tape).contents))
IsNoTape {F} remaining WasDone claim p tt i NoTape =
    (claim ≡ Kept) × HasAgent tt i × WasDone finds_none
IsNoTape {F} remaining WasDone claim p tt i PlanDamaged =
    IsUnfit remaining WasDone claim p tt i PlanDamaged
IsNoTape {F} remaining WasDone claim p tt i TapeEmptied =
    IsUnfit remaining WasDone claim p tt i TapeEmptied
IsNoTape {F} remaining WasDone claim p tt i (OtherPlan apart) =
    IsUnfit remaining WasDone claim p tt i (OtherPlan apart)
IsNoTape {F} remaining WasDone claim p tt i (File TooLong) =
    (track : Track) × (track_of tt i ≡ Some track)
    × ((file : F) × WasDone (opens_file (remaining file))
    × IfSome (remaining file) (λ bytes. room_of track + record_length ≤ length bytes))
IsNoTape {F} remaining WasDone claim p tt i (File fault) = HasAgent tt i
IsNoTape {F} remaining WasDone claim p tt i _ = ⊥

-- the agent was opened on such a tape, of which the claim holds, and the plan at hand is kept
abbrev pub IsOnTape : {F : Type 0} → (F → Option (List ℕ)) → (FileDeed → Type 0) → TapeClaim
    → Plan → Timetable → ℕ → AgentOn (FileTape F) → Type 0
IsOnTape {F} remaining WasDone claim p tt i agent =
    (tape : FileTape F) × IsTapeOf remaining WasDone tt i tape × IsClaimed WasDone claim p tape
    × IsOpened file_state IsFileRead tt i tape agent × IsPlanKept WasDone claim p tape

-- A tape was opened of which the claim holds, and was refused for this fault, with what it had.
pub record IsRefusedTape {F : Type 0} (remaining : F → Option (List ℕ))
    (WasDone : FileDeed → Type 0) (claim : TapeClaim) (p : Plan) (tt : Timetable) (i : ℕ)
    (fault : OpenFault) : Type 0 where
  pub tape : FileTape F
  pub is_tape : IsTapeOf remaining WasDone tt i tape
  pub claimed : IsClaimed WasDone claim p tape
  pub after : FileTape F
  pub refused : IsRefused file_state IsFileRead tt i tape after fault
  pub kept : IsKept (file_state tape) (file_state after)

-- why the agent was not opened: there is no tape, or it was refused
abbrev pub IsNotOnTape
    : {F : Type 0} → (F → Option (List ℕ)) → (FileDeed → Type 0) → TapeClaim → Plan → Timetable
    → ℕ → AgentFault → Type 0
IsNotOnTape remaining WasDone claim p tt i fault =
    IsNoTape remaining WasDone claim p tt i fault
    ⊎ ((refusal : OpenFault) × (fault ≡ Tape refusal)
    × IsRefusedTape remaining WasDone claim p tt i refusal)

-- what others say of a tape is heeded where it was kept: a new one has nothing that anybody could
-- have heard
abbrev pub heeds : TapeClaim → Bool
heeds Kept = true
heeds _ = false

-- what a dialogue comes to
abbrev pub told_of_dialogue : Result Unit TalkFault → Result Unit AgentFault
told_of_dialogue (Ok done) = Ok done
told_of_dialogue (Err fault) = Err (Dialogue fault)

-- The agent was opened on its tape and then led a dialogue, or it was not opened, and then neither
-- input nor output were touched.
pub record Converses
    {F I W : Type 0} (remaining : F → Option (List ℕ)) (WasDone : FileDeed → Type 0)
    (input_left : I → Option (List ℕ))
    (contents : W → Option (List ℕ))
    (claim : TapeClaim) (p : Plan) (tt : Timetable) (i : ℕ) (old_in new_in : Counted I)
    (old_out new_out : Counted W) (result : Result Unit AgentFault) : Type 0 where
  pub opened : Result (AgentOn (FileTape F)) AgentFault
  pub opens : MatchResult opened (IsOnTape remaining WasDone claim p tt i)
      (IsNotOnTape remaining WasDone claim p tt i)
  pub ends : MatchResult opened
      (λ agent. (answer : Result Unit TalkFault) × (after : AgentOn (FileTape F))
      × Talks input_left contents file_state (heeds claim) tt old_in new_in old_out new_out agent
      after answer × (result ≡ told_of_dialogue answer))
      (λ fault. (result ≡ Err fault) × (new_in ≡ old_in) × (new_out ≡ old_out))

-- The map and the plan were read and the plan was checked; where it is valid, the agent answered,
-- and else neither input nor output were touched.
pub record Serves
    {F M P I W : Type 0} (remaining : F → Option (List ℕ)) (WasDone : FileDeed → Type 0)
    (map_left : M → Option (List ℕ))
    (plan_left : P → Option (List ℕ))
    (input_left : I → Option (List ℕ)) (contents : W → Option (List ℕ)) (claim : TapeClaim) (i : ℕ)
    (old_map new_map : Counted M) (old_plan new_plan : Counted P)
    (old_in new_in : Counted I) (old_out new_out : Counted W)
    (result : Result Unit AgentFault) : Type 0 where
  pub read : Result PlanAtHand PlannedFault
  pub reads : ReadsAtHand map_left plan_left old_map new_map old_plan new_plan read
  pub ends : MatchResult read
      (λ it. Converses remaining WasDone input_left contents claim it.plan it.dependencies i old_in
      new_in
      old_out new_out result)
      (λ fault. (result ≡ Err (Planned fault)) × (new_in ≡ old_in) × (new_out ≡ old_out))

-- How the command ends by what it came to: where the tape failed or was an older one, the last
-- answer said it.
abbrev pub end_of_agent : Result Unit AgentFault → End
end_of_agent (Ok done) = answered_with Done
end_of_agent (Err (Dialogue StoreFailed)) = answered_with Failure
end_of_agent (Err (Dialogue StaleTape)) = answered_with Failure
end_of_agent (Err fault) = gave_up (agent_fault_words fault)

-- The texts were read and the agent answered, and the command ended by what that came to.
pub record AnswersAgent
    {F M P I W : Type 0} (remaining : F → Option (List ℕ)) (WasDone : FileDeed → Type 0)
    (map_left : M → Option (List ℕ))
    (plan_left : P → Option (List ℕ))
    (input_left : I → Option (List ℕ)) (contents : W → Option (List ℕ)) (claim : TapeClaim) (i : ℕ)
    (old_map new_map : Counted M) (old_plan new_plan : Counted P) (old_in new_in : Counted I)
    (old_out new_out : Counted W) (end : End) : Type 0 where
  pub answer : Result Unit AgentFault
  pub serves : Serves remaining WasDone map_left plan_left input_left contents claim i old_map
      new_map
      old_plan new_plan old_in new_in old_out new_out answer
  pub ends : end ≡ end_of_agent answer
