-- What the moves wait for, by the visit before in the cell that each enters.
use Rattle.std.specs.Prelude.{◌≡◌, ℕ, ◌+◌, ◌-◌, ◌<◌, ◌≤◌, ◌==◌}
use Rattle.std.specs.Prelude.{if◌then◌else◌, List, length, get_or, Option, None, Some}
use Rattle.model.specs.declared.visit.Visit.{Visit}
use Rattle.depgraph.specs.declared.waiting.Wait.{Wait}
use Rattle.depgraph.specs.Code.Entries.{begin_in}

abbrev pub no_visit : Visit
no_visit = record { agent = 0; index = 0; time = 0 }

-- what waits for nobody
abbrev pub no_wait : Wait
no_wait = record { agent = 0; count = 0 }

-- the entry of a visit
abbrev pub entry_for : List ℕ → Visit → ℕ
entry_for ends v = begin_in ends v.agent + v.index

-- what an agent's move into a cell waits for, after the visit before: that the other agent has
-- left, and for nobody after its own
abbrev pub wait_of : ℕ → Option Visit → Wait
wait_of i None = no_wait
wait_of i (Some v) =
    if v.agent == i then no_wait else record { agent = v.agent; count = v.index + 1 }

-- the visit before one that stands at a place, where those of its cell begin at another
abbrev pub before_at : List Visit → ℕ → ℕ → Option Visit
before_at visits begin k = if k == begin then None else Some (get_or visits (k - 1) no_visit)

-- the entry of the visit at a place has what the move into that cell waits for
abbrev pub IsNoted : List ℕ → List Visit → List Wait → ℕ → ℕ → Type 0
IsNoted ends visits waits begin k =
    get_or waits (entry_for ends (get_or visits k no_visit)) no_wait
    ≡ wait_of (get_or visits k no_visit).agent (before_at visits begin k)

-- For each entry what the move into its cell waits for: the visits of each cell stand together, up
-- to their end.
pub record AreWaits (ends : List ℕ) (visits : List Visit) (visit_ends : List ℕ)
    (waits : List Wait) : Type 0 where
  pub count : length waits ≡ length visits
  pub each : (n k : ℕ) → n < length visit_ends → begin_in visit_ends n ≤ k
      → k < get_or visit_ends n 0 → IsNoted ends visits waits (begin_in visit_ends n) k

-- The visits of each cell end among all visits, and each has one of as many entries.
pub record AreBlocks (ends : List ℕ) (visits : List Visit) (visit_ends : List ℕ) : Type 0 where
  pub within : (n : ℕ) → n < length visit_ends → get_or visit_ends n 0 ≤ length visits
  pub entries
      : (k : ℕ) → k < length visits → entry_for ends (get_or visits k no_visit) < length visits

-- what stands for no entry
abbrev pub no_entry : ℕ
no_entry = 4294967295

-- the entry of the move that is waited for, after the visit before, if it is made in the very step
-- of the move that a visit begins with
abbrev pub ahead_of : List ℕ → List ℕ → Visit → Option Visit → ℕ
ahead_of times ends own None = no_entry
ahead_of times ends own (Some v) =
    if v.agent == own.agent then no_entry else if get_or times (entry_for ends v + 1)
    0 == own.time then entry_for ends v + 1 else no_entry

-- For each entry the one of the move that its move waits for, if both are made in one step.
pub record AreAhead (times ends : List ℕ) (visits : List Visit)
    (visit_ends ahead : List ℕ) : Type 0 where
  pub count : length ahead ≡ length visits
  pub each
      : (n k : ℕ) → n < length visit_ends → begin_in visit_ends n ≤ k → k < get_or visit_ends n 0
      → get_or ahead (entry_for ends (get_or visits k no_visit)) no_entry
      ≡ ahead_of times ends (get_or visits k no_visit)
      (before_at visits (begin_in visit_ends n) k)
