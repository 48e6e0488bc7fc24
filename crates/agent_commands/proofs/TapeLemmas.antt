-- What a tape file is, and what it is not.
use Rattle.std.proofs.Common.{◌≡◌, ◌∙◌, ℕ, ◌+◌, ◌*◌, ◌<◌, ◌≤◌, Bool, true, false, List, length, Some, None, inl, inr, refl, sym, subst}
use Rattle.std.specs.Prelude.{Option, option_map, IfSome, MatchResult, Result, Ok, Err}
use Rattle.std.proofs.lemmas.Option.{same_Some, none-some}
use Rattle.model.specs.History.{record_length}
use Rattle.model.specs.Plan.{Plan}
use Rattle.model.specs.Timetable.{Track, Timetable, moves, track_of}
use Rattle.robot.specs.declared.file_tape.FileTapeFault.{FileTapeFault}
use Rattle.robot.specs.FileTape.{IsImage, file_state}
use Rattle.robot.specs.declared.file_tape.FileTape.{FileTape}
use Rattle.robot.specs.declared.file_tape.FileTapeFault.TheVariants.{TooLong, InUse, TapeFailed, OutOfMemory}
use Rattle.tape_claim.specs.declared.TapeClaim.{TapeClaim}
use Rattle.tape_claim.specs.declared.TapeClaim.TheVariants.{Any, New, Kept}
use Rattle.agent_commands.specs.AgentCommand.{HasAgent, IsBeside, IsClaimed, IsNoTape, IsTapeOf}
use Rattle.agent_commands.specs.FileDeeds.{FileDeed}
use Rattle.agent_commands.specs.FileDeeds.FileDeed.{opens_file}
use Rattle.agent_commands.specs.Code.Plans.{IsKeptTask, IsNotLetBy, IsNotMadeAnew}
use Rattle.agent_commands.specs.Code.Parts.{IsLost, IsNotTaken, IsSameTape, IsTakenTape}
use Rattle.agent_commands.specs.declared.agent_fault.AgentFault.{AgentFault}
use Rattle.agent_commands.specs.declared.agent_fault.AgentFault.TheVariants.{Planned, OpenFailed, TapeExists, NoTape, PlanDamaged, TapeEmptied, OtherPlan, File, Tape, Dialogue}
use Rattle.agent_commands.specs.declared.kept_plan.PlanTask.{PlanTask}
use Rattle.agent_commands.specs.declared.opening.TakenTape.{TakenTape}

-- an agent that has moves has a track
pub has_track : (o : Option Track) (n : ℕ) → Some n ≡ option_map moves o → (track : Track) × (o ≡ Some track) × (n ≡ moves track)
has_track None n is = absurd (none-some n (sym is))
has_track (Some track) n is = (track, refl, same_Some n (moves track) is)

-- no tape was made of a file of an agent of the timetable
pub no_tape : {F : Type 0} (remaining : F → Option (List ℕ)) (WasDone : FileDeed → Type 0) (claim : TapeClaim) (p : Plan) (table : Timetable) (i n : ℕ) (file : F) (fault : FileTapeFault)
    → WasDone (opens_file (remaining file)) → Some n ≡ option_map moves (track_of table i) → (fault ≡ TooLong → IfSome (remaining file) (λ bytes. 20 * n + 10 ≤ length bytes))
    → IsNoTape remaining WasDone claim p table i (File fault)
no_tape remaining WasDone claim p table i n file TooLong done is long =
    let t = has_track (track_of table i) n is in
    (t.0, t.1, (file, done, subst (λ (m : ℕ). IfSome (remaining file) (λ bytes. 20 * m + 10 ≤ length bytes)) t.2 (long refl)))
no_tape remaining WasDone claim p table i n file InUse done is long = let t = has_track (track_of table i) n is in (t.0, t.1)
no_tape remaining WasDone claim p table i n file TapeFailed done is long = let t = has_track (track_of table i) n is in (t.0, t.1)
no_tape remaining WasDone claim p table i n file OutOfMemory done is long = let t = has_track (track_of table i) n is in (t.0, t.1)

-- the system or memory failed behind the opening of a tape
pub lost : {F : Type 0} (remaining : F → Option (List ℕ)) (WasDone : FileDeed → Type 0) (claim : TapeClaim) (p : Plan) (table : Timetable) (i : ℕ) (fault : FileTapeFault) → HasAgent table i
    → IsLost fault → IsNoTape remaining WasDone claim p table i (File fault)
lost remaining WasDone claim p table i TapeFailed has why = has
lost remaining WasDone claim p table i OutOfMemory has why = has
lost remaining WasDone claim p table i TooLong has why = absurd why
lost remaining WasDone claim p table i InUse has why = absurd why

-- an image of a file is the tape of an agent of the timetable
pub of_file : {F : Type 0} (remaining : F → Option (List ℕ)) (WasDone : FileDeed → Type 0) (table : Timetable) (i n : ℕ) (file : F) (t : FileTape F)
    → WasDone (opens_file (remaining file)) → Some n ≡ option_map moves (track_of table i) → IsImage remaining file (20 * n) t → IsTapeOf remaining WasDone table i t
of_file remaining WasDone table i n file t done is image =
    let k = has_track (track_of table i) n is in
    (k.0, k.1, (file, done, subst (λ (m : ℕ). IsImage remaining file (20 * m) t) k.2 image))

-- a tape that was synced is the image that it was
same_image : {F : Type 0} (remaining : F → Option (List ℕ)) (file : F) (room : ℕ) (t u : FileTape F) → IsSameTape t u → IsImage remaining file room t
    → IsImage remaining file room u
same_image remaining file room t u same image = record {
  bytes = image.bytes;
  whole = image.whole;
  no_longer = image.no_longer;
  state = same.state ∙ image.state;
  synced = λ has. same.synced (image.synced (subst (λ s. record_length ≤ length s.contents) same.state has));
}

-- that a claim is one
abbrev is_one : TapeClaim → Type 0
is_one Any = ⊥
is_one claim = Unit {0}

-- why a new tape isn't taken, by what is beside it
pub new_refused : {F : Type 0} (WasDone : FileDeed → Type 0) (p : Plan) (t : FileTape F) (fault : AgentFault)
    → length (file_state t).contents < record_length → IsNotMadeAnew WasDone fault → IsNotTaken WasDone New p t fault
new_refused WasDone p t PlanDamaged few why = (λ same. subst is_one same tt, why)
new_refused WasDone p t TapeEmptied few why = (λ same. subst is_one same tt, few, why)
new_refused WasDone p t OpenFailed few why = why
new_refused WasDone p t (File fault) few why = why
new_refused WasDone p t NoTape few why = absurd why
new_refused WasDone p t TapeExists few why = absurd why
new_refused WasDone p t (OtherPlan apart) few why = absurd why
new_refused WasDone p t (Planned f) few why = absurd why
new_refused WasDone p t (Tape f) few why = absurd why
new_refused WasDone p t (Dialogue f) few why = absurd why

-- and why its file isn't made
pub not_made : {F : Type 0} (remaining : F → Option (List ℕ)) (WasDone : FileDeed → Type 0) (claim : TapeClaim) (p : Plan) (table : Timetable) (i : ℕ) (fault : AgentFault)
    → HasAgent table i → claim ≡ New → IsNotMadeAnew WasDone fault → IsNoTape remaining WasDone claim p table i fault
not_made remaining WasDone claim p table i PlanDamaged has new why = inr (new, why)
not_made remaining WasDone claim p table i TapeEmptied has new why = inr (new, why)
not_made remaining WasDone claim p table i OpenFailed has new why = (has, why)
not_made remaining WasDone claim p table i (File TapeFailed) has new why = has
not_made remaining WasDone claim p table i (File OutOfMemory) has new why = has
not_made remaining WasDone claim p table i (File TooLong) has new why = absurd why
not_made remaining WasDone claim p table i (File InUse) has new why = absurd why
not_made remaining WasDone claim p table i NoTape has new why = absurd why
not_made remaining WasDone claim p table i TapeExists has new why = absurd why
not_made remaining WasDone claim p table i (OtherPlan apart) has new why = absurd why
not_made remaining WasDone claim p table i (Planned f) has new why = absurd why
not_made remaining WasDone claim p table i (Tape f) has new why = absurd why
not_made remaining WasDone claim p table i (Dialogue f) has new why = absurd why

-- and one that is to be kept
pub kept_refused : {F : Type 0} (WasDone : FileDeed → Type 0) (p : Plan) (t : FileTape F) (has_record : Bool) (fault : AgentFault)
    → (has_record ≡ false → length (file_state t).contents < record_length) → IsNotLetBy WasDone p has_record fault → IsNotTaken WasDone Kept p t fault
kept_refused WasDone p t has_record PlanDamaged few why = (λ same. subst is_one same tt, why)
kept_refused WasDone p t has_record TapeEmptied few why = (λ same. subst is_one same tt, few why.0, why.1)
kept_refused WasDone p t has_record (OtherPlan apart) few why = (refl, why)
kept_refused WasDone p t has_record NoTape few why = (refl, why)
kept_refused WasDone p t has_record OpenFailed few why = why
kept_refused WasDone p t has_record (File fault) few why = why
kept_refused WasDone p t has_record TapeExists few why = absurd why
kept_refused WasDone p t has_record (Planned f) few why = absurd why
kept_refused WasDone p t has_record (Tape f) few why = absurd why
kept_refused WasDone p t has_record (Dialogue f) few why = absurd why

-- what is beside a tape lets the plan at hand by
pub is_beside : {F : Type 0} (WasDone : FileDeed → Type 0) (p : Plan) (t : FileTape F) (has_record : Bool) (task : PlanTask)
    → (has_record ≡ true → record_length ≤ length (file_state t).contents) → IsKeptTask WasDone p has_record task → IsBeside WasDone p t
is_beside WasDone p t has_record task enough h = record {
  all = h.0;
  found = h.1;
  marked = h.2.0.is_marked;
  kept = h.2.0.plan;
  is_kept = h.2.1;
  is_akin = h.2.2.akin;
  has_record = λ marked. enough (h.2.2.stored marked);
}

-- a tape that was opened of an agent's file is taken, or isn't
pub take_ends : {F : Type 0} (remaining : F → Option (List ℕ)) (WasDone : FileDeed → Type 0) (claim : TapeClaim) (p : Plan) (table : Timetable) (i : ℕ) (t : FileTape F)
    (r : Result (TakenTape F) AgentFault)
    → IsTapeOf remaining WasDone table i t → MatchResult r (λ u. IsTakenTape WasDone claim p t u.tape) (IsNotTaken WasDone claim p t)
    → MatchResult r (λ u. IsTapeOf remaining WasDone table i u.tape × IsClaimed WasDone claim p u.tape) (IsNoTape remaining WasDone claim p table i)
take_ends remaining WasDone claim p table i t (Ok u) of h = ((of.0, of.1, (of.2.0, of.2.1, same_image remaining of.2.0 _ t u.tape h.0 of.2.2)), h.1)
take_ends remaining WasDone claim p table i t (Err TapeExists) of h = (h.0, (t, of, h.1))
take_ends remaining WasDone claim p table i t (Err NoTape) of h = (h.0, (of.0, of.1), h.1)
take_ends remaining WasDone claim p table i t (Err OpenFailed) of h = ((of.0, of.1), h)
take_ends remaining WasDone claim p table i t (Err PlanDamaged) of h = inl (t, of, h)
take_ends remaining WasDone claim p table i t (Err TapeEmptied) of h = inl (t, of, h)
take_ends remaining WasDone claim p table i t (Err (OtherPlan apart)) of h = inl (t, of, h)
take_ends remaining WasDone claim p table i t (Err (File TapeFailed)) of h = (of.0, of.1)
take_ends remaining WasDone claim p table i t (Err (File OutOfMemory)) of h = (of.0, of.1)
take_ends remaining WasDone claim p table i t (Err (File TooLong)) of h = absurd h
take_ends remaining WasDone claim p table i t (Err (File InUse)) of h = absurd h
take_ends remaining WasDone claim p table i t (Err (Planned f)) of h = absurd h
take_ends remaining WasDone claim p table i t (Err (Tape f)) of h = absurd h
take_ends remaining WasDone claim p table i t (Err (Dialogue f)) of h = absurd h
