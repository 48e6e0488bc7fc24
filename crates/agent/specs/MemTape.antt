-- A tape in memory, and that it is a tape.
use Rattle.std.proofs.Common.{◌≡◌, ℕ, ◌≤◌, ◌++◌, Bool, true, List, length}
use Rattle.std.proofs.Common.{take, drop, refl, sym, ap, ◌∙◌, arith}
use Rattle.std.proofs.lemmas.List.{length-take-le}
use Rattle.std.proofs.lemmas.Bool.{true≢false}
use Rattle.model.specs.History.{record_length}
use Rattle.agent.specs.declared.mem_tape.MemTape.{MemTape}
use Rattle.agent.specs.Tape.{TapeState, MayRead, MayWrite, IsRead, IsWrite}

abbrev pub mem_state : MemTape → TapeState
mem_state t =
    record { contents = take t.len t.bytes.items; room = length t.bytes.items; failures = 0 }

-- a read succeeds
pub record IsMemRead (t : MemTape) (at : ℕ) (succeeds : Bool) (bytes : List ℕ)
    (u : MemTape) : Type 0 where
  pub no_failure : succeeds ≡ true
  pub gives : bytes ≡ take record_length (drop at (mem_state t).contents)
  pub same : mem_state u ≡ mem_state t

-- a write succeeds
pub record IsMemWrite (t : MemTape) (at : ℕ) (bytes : List ℕ) (succeeds : Bool)
    (u : MemTape) : Type 0 where
  pub no_failure : succeeds ≡ true
  pub contents : (mem_state u).contents ≡ take at (mem_state t).contents ++ bytes
  pub room : (mem_state u).room ≡ (mem_state t).room

abbrev pub mem_reads : MemTape → ℕ → Bool → List ℕ → MemTape → Type 0
mem_reads t at succeeds bytes u = IsMemRead t at succeeds bytes u

abbrev pub mem_writes : MemTape → ℕ → List ℕ → Bool → MemTape → Type 0
mem_writes t at bytes succeeds u = IsMemWrite t at bytes succeeds u

pub mem_within : (t : MemTape) → length (mem_state t).contents ≤ (mem_state t).room
mem_within t =
    (let fits = t.in_room in let length = length-take-le t.len t.bytes.items fits in
    omega (arith, length, fits))

pub mem_is_read : (t u : MemTape) (at : ℕ) (succeeds : Bool) (bytes : List ℕ)
    → MayRead (mem_state t) at → mem_reads t at succeeds bytes u
    → IsRead (mem_state t) (mem_state u) at succeeds bytes
mem_is_read t u at succeeds bytes may h = record {
  contents = ap (λ s. s.contents) h.same;
  room = ap (λ s. s.room) h.same;
  gives = λ yes. h.gives;
  counts = λ yes. ap (λ s. s.failures) h.same;
  fails = λ no. absurd (true≢false (sym h.no_failure ∙ no));
}

pub mem_is_write : (t u : MemTape) (at : ℕ) (bytes : List ℕ) (succeeds : Bool)
    → MayWrite (mem_state t) at → length bytes ≡ record_length
    → mem_writes t at bytes succeeds u → IsWrite (mem_state t) (mem_state u) at bytes succeeds
mem_is_write t u at bytes succeeds may count h = record {
  room = h.room;
  stores = λ yes. h.contents;
  tears = λ no. absurd (true≢false (sym h.no_failure ∙ no));
  counts = λ yes. refl;
  fails = λ no. absurd (true≢false (sym h.no_failure ∙ no));
}
