-- A tape in a file to which nothing is written unless a guard lets it be, and of whose records the
-- guard takes note; and that it is a tape.
use Rattle.std.proofs.Common.{◌≡◌, ℕ, ◌≤◌, Bool, true, false, List, length}
use Rattle.std.proofs.Common.{drop, inl, inr, refl, sym, subst, ◌∙◌, arith}
use Rattle.std.specs.Prelude.{◌⊎◌, Option}
use Rattle.std.proofs.lemmas.Bool.{true≢false}
use Rattle.std.proofs.lemmas.List.{length-drop, take-append-drop}
use Rattle.model.specs.History.{record_length}
use Rattle.agent.specs.Tape.{TapeState, MayRead, MayWrite, HasFailed, IsKept, IsRead, IsWrite}
use Rattle.robot.specs.FileTape.{file_state, file_within, file_is_read}
use Rattle.robot.specs.FileTape.{file_is_write, IsFileRead, IsFileWrite}
use Rattle.robot.specs.declared.file_tape.FileTape.{FileTape}
use Rattle.robot.specs.declared.guarded_tape.GuardedTape.{GuardedTape}

-- that of the tape in the file
abbrev pub guarded_state : {F G : Type 0} → GuardedTape F G → TapeState
guarded_state t = file_state t.tape

abbrev pub IsGuardedRead
    : {F G : Type 0} → GuardedTape F G → ℕ → Bool → List ℕ → GuardedTape F G → Type 0
IsGuardedRead t at succeeds bytes u = IsFileRead t.tape at succeeds bytes u.tape

-- No call on the file was made, and that counts as a failure.
pub record IsUnwritten {F : Type 0} (t : FileTape F) (succeeds : Bool)
    (u : FileTape F) : Type 0 where
  pub no_success : succeeds ≡ false
  pub disk : u.disk ≡ t.disk
  pub kept : IsKept (file_state t) (file_state u)
  pub fails : HasFailed (file_state t).failures (file_state u).failures

-- The guard let the file be written, and where that took a record, the guard took note of it.
pub record IsWatchedWrite {F G : Type 0} (position : F → Option ℕ)
    (held contents : F → Option (List ℕ)) (IsSynced : F → F → Type 0) (HasAllowed : G → Type 0)
    (HasNoted : G → G → Type 0) (t : GuardedTape F G) (at : ℕ) (bytes : List ℕ) (succeeds : Bool)
    (u : GuardedTape F G) : Type 0 where
  pub allowed : HasAllowed t.guard
  pub writes : IsFileWrite position held contents IsSynced t.tape at bytes succeeds u.tape
  pub noted : succeeds ≡ true → HasNoted t.guard u.guard

-- The guard let the file be written, which took the record and synced it, and the guard could not
-- take note of that: the record is stored, and that counts as a failure.
pub record IsUnnoted {F G : Type 0} (position : F → Option ℕ) (held contents : F → Option (List ℕ))
    (IsSynced : F → F → Type 0) (HasAllowed : G → Type 0) (t : GuardedTape F G) (at : ℕ)
    (bytes : List ℕ) (succeeds : Bool) (u : FileTape F) : Type 0 where
  pub allowed : HasAllowed t.guard
  pub no_success : succeeds ≡ false
  pub stored : FileTape F
  pub stores : IsFileWrite position held contents IsSynced t.tape at bytes true stored
  pub disk : u.disk ≡ stored.disk
  pub kept : IsKept (file_state stored) (file_state u)
  pub fails : HasFailed (file_state stored).failures (file_state u).failures

-- the file is written, or the guard doesn't let it be, or can't take note of it
abbrev pub IsGuardedWrite : {F G : Type 0} → (F → Option ℕ) → (F → Option (List ℕ))
    → (F → Option (List ℕ)) → (F → F → Type 0) → (G → Type 0) → (G → G → Type 0)
    → GuardedTape F G → ℕ → List ℕ → Bool → GuardedTape F G → Type 0
IsGuardedWrite position held contents IsSynced HasAllowed HasNoted t at bytes succeeds u =
    IsWatchedWrite position held contents IsSynced HasAllowed HasNoted t at bytes succeeds u
    ⊎ (IsUnwritten t.tape succeeds u.tape
    ⊎ IsUnnoted position held contents IsSynced HasAllowed t at bytes succeeds u.tape)

pub guarded_within : {F G : Type 0} (t : GuardedTape F G)
    → length (guarded_state t).contents ≤ (guarded_state t).room
guarded_within t = file_within t.tape

pub guarded_is_read : {F G : Type 0} (t u : GuardedTape F G) (at : ℕ) (succeeds : Bool)
    (bytes : List ℕ) → MayRead (guarded_state t) at
    → IsGuardedRead t at succeeds bytes u
    → IsRead (guarded_state t) (guarded_state u) at succeeds bytes
guarded_is_read t u at succeeds bytes may h = file_is_read t.tape u.tape at succeeds bytes may h

unwritten_is_write : {F : Type 0} (t u : FileTape F) (at : ℕ) (bytes : List ℕ) (succeeds : Bool)
    → MayWrite (file_state t) at → IsUnwritten t succeeds u
    → IsWrite (file_state t) (file_state u) at bytes succeeds
unwritten_is_write t u at bytes succeeds may h = record {
  room = h.kept.room;
  stores = λ good. absurd (true≢false (sym good ∙ h.no_success));
  tears = λ bad. (
    drop at (file_state t).contents,
    h.kept.contents ∙ sym (take-append-drop at (file_state t).contents),
    inl (let rest = length-drop at (file_state t).contents in let past = may.past in
        omega (arith, rest, past)),
  );
  counts = λ good. absurd (true≢false (sym good ∙ h.no_success));
  fails = λ bad. h.fails;
}

unnoted_is_write : {F G : Type 0} (position : F → Option ℕ) (held contents : F → Option (List ℕ))
    (IsSynced : F → F → Type 0) (HasAllowed : G → Type 0) (t : GuardedTape F G) (u : FileTape F)
    (at : ℕ) (bytes : List ℕ) (succeeds : Bool)
    → IsUnnoted position held contents IsSynced HasAllowed t at bytes succeeds u
    → IsWrite (file_state t.tape) (file_state u) at bytes succeeds
unnoted_is_write position held contents IsSynced HasAllowed t u at bytes succeeds h = record {
  room = h.kept.room ∙ h.stores.room;
  stores = λ good. absurd (true≢false (sym good ∙ h.no_success));
  tears = λ bad. (bytes, h.kept.contents ∙ h.stores.stores refl, inr refl);
  counts = λ good. absurd (true≢false (sym good ∙ h.no_success));
  fails = λ bad. subst (λ n. HasFailed n (file_state u).failures) (h.stores.counts refl) h.fails;
}

pub guarded_is_write : {F G : Type 0} (position : F → Option ℕ)
    (held contents : F → Option (List ℕ)) (IsSynced : F → F → Type 0) (HasAllowed : G → Type 0)
    (HasNoted : G → G → Type 0) (t u : GuardedTape F G) (at : ℕ) (bytes : List ℕ) (succeeds : Bool)
    → MayWrite (guarded_state t) at → length bytes ≡ record_length
    → IsGuardedWrite position held contents IsSynced HasAllowed HasNoted t at bytes succeeds u
    → IsWrite (guarded_state t) (guarded_state u) at bytes succeeds
guarded_is_write position held contents IsSynced HasAllowed HasNoted t u at bytes succeeds may
    count h = elim h [
      | inl made ↦ file_is_write position held contents IsSynced t.tape u.tape at bytes succeeds may
          count made.writes
      | inr failed ↦ elim failed [
        | inl left ↦ unwritten_is_write t.tape u.tape at bytes succeeds may left
        | inr stored ↦ unnoted_is_write position held contents IsSynced HasAllowed t u.tape at bytes
            succeeds stored
      ]
    ]
