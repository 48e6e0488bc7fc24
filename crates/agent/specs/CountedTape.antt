-- A tape that counts the records of one agent, and that it is a tape.
use Rattle.std.proofs.Common.{◌≡◌, ℕ, ◌+◌, ◌*◌, ◌≤◌, ◌++◌, Bool, true}
use Rattle.std.proofs.Common.{List, length, take, drop, sym, ap, ◌∙◌, arith}
use Rattle.std.specs.Prelude.{Option}
use Rattle.std.proofs.lemmas.Bool.{true≢false}
use Rattle.std.proofs.lemmas.List.{length-append, length-take-le}
use Rattle.model.specs.History.{record_length}
use Rattle.agent.specs.Records.{due_record}
use Rattle.agent.specs.DueRecords.{due_records, length-due_records}
use Rattle.agent.specs.Tape.{TapeState, MayRead, MayWrite, IsRead, IsWrite, IsTorn, whole_records}
use Rattle.agent.specs.declared.counted_tape.CountedTape.{CountedTape}

-- the bytes of so many records, and a beginning of the next one
abbrev pub counted_bytes : (plan agent records torn : ℕ) → List ℕ
counted_bytes plan agent records torn =
    due_records plan agent records ++ take torn (due_record plan agent records)

pub length-counted_bytes : (plan agent records torn : ℕ) → torn ≤ 10
    → length (counted_bytes plan agent records torn) ≡ 10 * records + torn
length-counted_bytes plan agent records torn most =
    (let whole = length-due_records plan agent records in
    let both = length-append (due_records plan agent records)
    (take torn (due_record plan agent records)) in
    let part = length-take-le torn (due_record plan agent records) most in
    omega (arith, whole, both, part))

abbrev pub counted_state : CountedTape → TapeState
counted_state t =
    record {
      contents = counted_bytes t.plan t.agent t.records t.torn;
      room = t.room;
      failures = t.failures;
    }

abbrev pub counted_armed : CountedTape → Option ℕ
counted_armed t = t.armed

-- the records that it counts are those of the agent under the plan
pub record CountsFor (plan agent : ℕ) (t : CountedTape) : Type 0 where
  pub plan_is : t.plan ≡ plan
  pub agent_is : t.agent ≡ agent

-- a read succeeds
pub record IsCountedRead (t : CountedTape) (at : ℕ) (succeeds : Bool) (bytes : List ℕ)
    (u : CountedTape) : Type 0 where
  pub no_failure : succeeds ≡ true
  pub gives : bytes ≡ take record_length (drop at (counted_state t).contents)
  pub same : u ≡ t

-- A write of the record that is due behind the whole ones succeeds where nothing is armed, and else
-- stores so many bytes, fails and disarms. Of any other write no more is said than of all tapes.
pub record IsCountedWrite (t : CountedTape) (at : ℕ) (bytes : List ℕ) (succeeds : Bool)
    (u : CountedTape) : Type 0 where
  pub written : IsWrite (counted_state t) (counted_state u) at bytes succeeds
  pub due : at ≡ 10 * t.records → bytes ≡ due_record t.plan t.agent t.records
      → IsTorn (counted_armed t) (counted_armed u) (counted_state t) (counted_state u) at
      bytes succeeds
  pub whose : CountsFor t.plan t.agent u

abbrev pub counted_reads : CountedTape → ℕ → Bool → List ℕ → CountedTape → Type 0
counted_reads t at succeeds bytes u = IsCountedRead t at succeeds bytes u

abbrev pub counted_writes : CountedTape → ℕ → List ℕ → Bool → CountedTape → Type 0
counted_writes t at bytes succeeds u = IsCountedWrite t at bytes succeeds u

pub counted_within : (t : CountedTape) → length (counted_state t).contents ≤ (counted_state t).room
counted_within t =
    (let part = t.part in let fits = t.in_room in let all =
    length-counted_bytes t.plan t.agent t.records t.torn (omega (arith, part)) in
    omega (arith, all, fits))

pub counted_is_read : (t u : CountedTape) (at : ℕ) (succeeds : Bool) (bytes : List ℕ)
    → MayRead (counted_state t) at → counted_reads t at succeeds bytes u
    → IsRead (counted_state t) (counted_state u) at succeeds bytes
counted_is_read t u at succeeds bytes may h = record {
  contents = ap (λ x. (counted_state x).contents) h.same;
  room = ap (λ x. (counted_state x).room) h.same;
  gives = λ good. h.gives;
  counts = λ good. ap (λ x. (counted_state x).failures) h.same;
  fails = λ bad. absurd (true≢false (sym h.no_failure ∙ bad));
}

pub counted_is_write : (t u : CountedTape) (at : ℕ) (bytes : List ℕ) (succeeds : Bool)
    → MayWrite (counted_state t) at → length bytes ≡ record_length
    → counted_writes t at bytes succeeds u
    → IsWrite (counted_state t) (counted_state u) at bytes succeeds
counted_is_write t u at bytes succeeds may count h = h.written

-- how many whole records there are is what it counts
pub whole-counted : (t : CountedTape) → whole_records (counted_state t) ≡ t.records
whole-counted t =
    (let part = t.part in let all =
    length-counted_bytes t.plan t.agent t.records t.torn (omega (arith, part)) in
    omega (arith, part, all))
