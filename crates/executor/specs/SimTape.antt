-- A tape that tears where it is told to, and that it is a scripted tape.
use Rattle.std.proofs.Common.{◌≡◌, ℕ, ◌<◌, ◌≤◌, ◌++◌, Bool, true, false, List, length, take}
use Rattle.std.proofs.Common.{drop, Some, None, inl, inr, refl, sym, ap, ◌∙◌, arith}
use Rattle.std.specs.Prelude.{◌⊎◌, Option}
use Rattle.std.specs.Option.{ForSome}
use Rattle.std.proofs.lemmas.Bool.{cases_lt, true≢false}
use Rattle.std.proofs.lemmas.List.{length-take-le, take_all}
use Rattle.model.specs.History.{record_length}
use Rattle.agent.specs.MemTape.{mem_state, mem_within}
use Rattle.agent.specs.Tape.{TapeState, MayRead, MayWrite, HasFailed, IsRead, IsWrite, IsTorn}
use Rattle.executor.specs.declared.sim_tape.SimTape.{SimTape}

abbrev pub sim_state : SimTape → TapeState
sim_state t =
    record {
      contents = (mem_state t.tape).contents;
      room = (mem_state t.tape).room;
      failures = t.failures;
    }

abbrev pub sim_armed : SimTape → Option ℕ
sim_armed t = t.armed

-- a read succeeds
pub record IsSimRead (t : SimTape) (at : ℕ) (succeeds : Bool) (bytes : List ℕ)
    (u : SimTape) : Type 0 where
  pub no_failure : succeeds ≡ true
  pub gives : bytes ≡ take record_length (drop at (sim_state t).contents)
  pub same : sim_state u ≡ sim_state t
  pub armed : sim_armed u ≡ sim_armed t

-- a write succeeds where nothing is armed, and else stores so many bytes, fails and disarms
pub record IsSimWrite (t : SimTape) (at : ℕ) (bytes : List ℕ) (succeeds : Bool)
    (u : SimTape) : Type 0 where
  pub torn : IsTorn (sim_armed t) (sim_armed u) (sim_state t) (sim_state u) at bytes succeeds
  pub room : (sim_state u).room ≡ (sim_state t).room
  pub stores : succeeds ≡ true → (sim_state u).contents ≡ take at (sim_state t).contents ++ bytes
  pub counts : succeeds ≡ true → (sim_state u).failures ≡ (sim_state t).failures
  pub fails : succeeds ≡ false → HasFailed (sim_state t).failures (sim_state u).failures

abbrev pub sim_reads : SimTape → ℕ → Bool → List ℕ → SimTape → Type 0
sim_reads t at succeeds bytes u = IsSimRead t at succeeds bytes u

abbrev pub sim_writes : SimTape → ℕ → List ℕ → Bool → SimTape → Type 0
sim_writes t at bytes succeeds u = IsSimWrite t at bytes succeeds u

pub sim_within : (t : SimTape) → length (sim_state t).contents ≤ (sim_state t).room
sim_within t = mem_within t.tape

pub sim_is_read : (t u : SimTape) (at : ℕ) (succeeds : Bool) (bytes : List ℕ)
    → MayRead (sim_state t) at → sim_reads t at succeeds bytes u
    → IsRead (sim_state t) (sim_state u) at succeeds bytes
sim_is_read t u at succeeds bytes may h = record {
  contents = ap (λ s. s.contents) h.same;
  room = ap (λ s. s.room) h.same;
  gives = λ good. h.gives;
  counts = λ good. ap (λ s. s.failures) h.same;
  fails = λ bad. absurd (true≢false (sym h.no_failure ∙ bad));
}

pub sim_is_write : (t u : SimTape) (at : ℕ) (bytes : List ℕ) (succeeds : Bool)
    → MayWrite (sim_state t) at → length bytes ≡ record_length
    → sim_writes t at bytes succeeds u → IsWrite (sim_state t) (sim_state u) at bytes succeeds
sim_is_write t u at bytes succeeds may count h = record {
  room = h.room;
  stores = h.stores;
  tears = λ bad. torn t.armed t.in_record h.torn bad;
  counts = h.counts;
  fails = h.fails;
}
  where
    torn : (armed : Option ℕ) → ForSome armed (λ n. n ≤ 10)
        → IsTorn armed (sim_armed u) (sim_state t) (sim_state u) at bytes succeeds
        → succeeds ≡ false
        → (tail : List ℕ) × ((sim_state u).contents ≡ take at (sim_state t).contents ++ tail)
        × ((length tail < record_length) ⊎ (tail ≡ bytes))
    torn None small is bad = absurd (true≢false (sym is.0 ∙ bad))
    torn (Some n) small_if is bad = (let small = small_if n refl in (
      take n bytes,
      is.2,
      elim (cases_lt n 10) [
        | inl less ↦ inl (let counted = length-take-le n bytes (omega (arith, count, small)) in
            omega (arith, counted, less))
        | inr all ↦ inr (take_all n bytes (omega (arith, count, all)))
      ],
    ))

pub sim_reads_armed : (t u : SimTape) (at : ℕ) (succeeds : Bool) (bytes : List ℕ)
    → MayRead (sim_state t) at → sim_reads t at succeeds bytes u
    → (succeeds ≡ true) × (sim_armed u ≡ sim_armed t)
sim_reads_armed t u at succeeds bytes may h = (h.no_failure, h.armed)

pub sim_writes_armed : (t u : SimTape) (at : ℕ) (bytes : List ℕ) (succeeds : Bool)
    → MayWrite (sim_state t) at → length bytes ≡ record_length
    → sim_writes t at bytes succeeds u
    → IsTorn (sim_armed t) (sim_armed u) (sim_state t) (sim_state u) at bytes succeeds
sim_writes_armed t u at bytes succeeds may count h = h.torn
