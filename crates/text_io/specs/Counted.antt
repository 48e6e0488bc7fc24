-- What a clause reads of a counted reader or writer, and what a call leaves.
use Rattle.std.specs.Prelude.{◌≡◌, ℕ, ◌+◌, ◌-◌, ◌^◌, min, Bool, true}
use Rattle.std.specs.Prelude.{◌==◌, ◌&&◌, nat_lt, List, length, Result, Ok, Err}
use Rattle.text_io.specs.declared.counted.Counted.{Counted}

-- the greatest value of a counter, at which it stays
abbrev pub greatest : ℕ
greatest = 2 ^ 64 - 1

-- one more, or the greatest value
abbrev pub one_more : ℕ → ℕ
one_more n = min (n + 1) greatest

-- a write failed, or took nothing of a slice that is not empty
abbrev pub writes_none : {E : Type 0} → Result ℕ E → List ℕ → Bool
writes_none (Ok n) bytes = n == 0 && nat_lt 0 (length bytes)
writes_none (Err e) bytes = true

-- the reader or the writer inside
abbrev pub counted_inner : {T : Type 0} → Counted T → T
counted_inner c = c.inner

-- how many calls were made
abbrev pub calls_of : {T : Type 0} → Counted T → ℕ
calls_of c = c.calls

-- how many of them failed
abbrev pub failures_of : {T : Type 0} → Counted T → ℕ
failures_of c = c.failures

-- the failures rose by one, or could rise no more
abbrev pub Rises : ℕ → ℕ → Type 0
Rises old new = new ≡ one_more old
