-- A tape in a file, and that it is a tape.
use Rattle.std.proofs.Common.{◌≡◌, ℕ, ◌+◌, ◌<◌, ◌≤◌, ◌++◌, Bool, true, false}
use Rattle.std.proofs.Common.{List, length, take, drop, inl, sym, ap, ◌∙◌, arith}
use Rattle.std.specs.Prelude.{Option, IfSome}
use Rattle.std.proofs.lemmas.Bool.{true≢false}
use Rattle.std.proofs.lemmas.List.{length-drop, take-append-drop}
use Rattle.model.specs.History.{record_length}
use Rattle.agent.specs.declared.mem_tape.TapeMakeFault.{TapeMakeFault}
use Rattle.agent.specs.declared.mem_tape.TapeMakeFault.TheVariants.{TooLong as made_too_long}
use Rattle.agent.specs.declared.mem_tape.TapeMakeFault.TheVariants.{OutOfMemory as made_out_of_memory}
use Rattle.agent.specs.MemTape.{mem_state, mem_within}
use Rattle.agent.specs.Tape.{TapeState, MayRead, MayWrite, HasFailed, IsRead, IsWrite}
use Rattle.robot.specs.declared.file_tape.FileTapeFault.{FileTapeFault}
use Rattle.robot.specs.declared.file_tape.FileTapeFault.TheVariants.{TooLong, OutOfMemory}
use Rattle.robot.specs.declared.file_tape.FileTape.{FileTape}
use Rattle.robot.specs.Stored.{StoresAt}

-- why there is no tape, where there is no image
abbrev pub file_fault_of : TapeMakeFault → FileTapeFault
file_fault_of made_too_long = TooLong
file_fault_of made_out_of_memory = OutOfMemory

-- the image, and how many writes of the file failed
abbrev pub file_state : {F : Type 0} → FileTape F → TapeState
file_state t = record (mem_state t.image) { failures = t.failures }

-- The image has what the file had, as far as there is room; fewer than ten bytes are left out.
-- Where there is a whole record, all of it is synced.
pub record IsImage {F : Type 0} (remaining : F → Option (List ℕ)) (file : F) (room : ℕ)
    (t : FileTape F) : Type 0 where
  pub bytes : List ℕ
  pub whole : IfSome (remaining file) (λ all. bytes ≡ all)
  pub no_longer : length bytes < room + record_length
  pub state : file_state t ≡ record { contents = take room bytes; room = room; failures = 0 }
  pub synced : record_length ≤ length (file_state t).contents → t.disk.synced ≡ true

-- a read succeeds, and makes no call on the file
pub record IsFileRead {F : Type 0} (t : FileTape F) (at : ℕ) (succeeds : Bool) (bytes : List ℕ)
    (u : FileTape F) : Type 0 where
  pub no_failure : succeeds ≡ true
  pub gives : bytes ≡ take record_length (drop at (file_state t).contents)
  pub same : file_state u ≡ file_state t
  pub disk : u.disk ≡ t.disk

-- A write succeeds where the file took the record and synced it, and else the image keeps what it
-- had.
pub record IsFileWrite {F : Type 0} (position : F → Option ℕ) (held contents : F → Option (List ℕ))
    (IsSynced : F → F → Type 0) (t : FileTape F) (at : ℕ) (bytes : List ℕ) (succeeds : Bool)
    (u : FileTape F) : Type 0 where
  pub store : succeeds ≡ true
      → StoresAt position held contents IsSynced t.disk.file at bytes u.disk.file
  pub synced : u.disk.synced ≡ succeeds
  pub stores : succeeds ≡ true → (file_state u).contents ≡ take at (file_state t).contents ++ bytes
  pub keeps : succeeds ≡ false → (file_state u).contents ≡ (file_state t).contents
  pub room : (file_state u).room ≡ (file_state t).room
  pub counts : succeeds ≡ true → (file_state u).failures ≡ (file_state t).failures
  pub fails : succeeds ≡ false → HasFailed (file_state t).failures (file_state u).failures

pub file_within
    : {F : Type 0} (t : FileTape F) → length (file_state t).contents ≤ (file_state t).room
file_within t = mem_within t.image

pub file_is_read : {F : Type 0} (t u : FileTape F) (at : ℕ) (succeeds : Bool) (bytes : List ℕ)
    → MayRead (file_state t) at → IsFileRead t at succeeds bytes u
    → IsRead (file_state t) (file_state u) at succeeds bytes
file_is_read t u at succeeds bytes may h = record {
  contents = ap (λ s. s.contents) h.same;
  room = ap (λ s. s.room) h.same;
  gives = λ good. h.gives;
  counts = λ good. ap (λ s. s.failures) h.same;
  fails = λ bad. absurd (true≢false (sym h.no_failure ∙ bad));
}

pub file_is_write : {F : Type 0} (position : F → Option ℕ) (held contents : F → Option (List ℕ))
    (IsSynced : F → F → Type 0) (t u : FileTape F) (at : ℕ) (bytes : List ℕ) (succeeds : Bool)
    → MayWrite (file_state t) at → length bytes ≡ record_length
    → IsFileWrite position held contents IsSynced t at bytes succeeds u
    → IsWrite (file_state t) (file_state u) at bytes succeeds
file_is_write position held contents IsSynced t u at bytes succeeds may count h = record {
  room = h.room;
  stores = h.stores;
  tears = λ bad. (
    drop at (file_state t).contents,
    h.keeps bad ∙ sym (take-append-drop at (file_state t).contents),
    inl (let rest = length-drop at (file_state t).contents in let past = may.past in
        omega (arith, rest, past)),
  );
  counts = h.counts;
  fails = h.fails;
}
