-- The entries of cells into which more than one agent comes, and the pass along their times.
use Rattle.std.specs.Prelude.{◌≡◌, ℕ, ◌+◌, ◌-◌, ◌<◌, ◌≤◌, ◌==◌, ◌&&◌, nat_lt, if◌then◌else◌}
use Rattle.std.specs.Prelude.{false, true, Bool, List, [], length, get_or, Option, None, Some}
use Rattle.depgraph.specs.declared.placing.Arrival.{Arrival}
use Rattle.depgraph.specs.declared.waiting.Wait.{Wait}
use Rattle.depgraph.specs.declared.sharing.Owners.{Owners}
use Rattle.depgraph.specs.declared.following.Meetings.{Meetings}
use Rattle.depgraph.specs.declared.following.Follower.{Follower}
use Rattle.depgraph.specs.declared.following.Coming.{Coming}
use Rattle.depgraph.specs.declared.following.Pass.{Pass}
use Rattle.depgraph.specs.Code.Entries.{begin_in, IsEntry}
use Rattle.depgraph.specs.Code.Following.{AreEntries, AreShared, IsFollowed, IsLastIn, IsMeeting}
use Rattle.depgraph.specs.Code.Schedules.{no_arrival, entry_of_arrival}
use Rattle.depgraph.specs.Code.Waits.{no_wait}

-- ---- which cells are shared

-- An agent came into the cell with a number: it was the first, or the first was the same, or the
-- cell is shared.
pub record IsOwnerSeen (number agent : ℕ) (old new : Owners) : Type 0 where
  pub owner_count : length new.owners.items ≡ length old.owners.items
  pub shared_count : length new.shared.items ≡ length old.shared.items
  pub own : get_or new.shared.items number true ≡ false
      → get_or new.owners.items number None ≡ Some agent
  pub kept : (n i : ℕ) → get_or new.shared.items n true ≡ false → get_or old.owners.items n None
      ≡ Some i → get_or new.owners.items n None ≡ Some i
  pub shared
      : (n : ℕ) → get_or new.shared.items n true ≡ false → get_or old.shared.items n true ≡ false

-- ---- what is gone through

pub record AreMeetings (m : Meetings) : Type 0 where
  pub entries : AreEntries m.times.now m.ends.now m.numbers.now (length m.shared.items)
  pub shared : AreShared m.ends.now m.numbers.now (length m.shared.items) m.shared.items

-- the first entry from one on, and before an end, that leads into a shared cell, or the end
pub record IsNextMeeting (m : Meetings) (from end next : ℕ) : Type 0 where
  pub after : from ≤ next
  pub within : next ≤ end
  pub meets : next < end → IsMeeting m.numbers.now m.shared.items next
  pub none : (e : ℕ) → from ≤ e → e < next → IsMeeting m.numbers.now m.shared.items e → ⊥

abbrev pub no_coming : Coming
no_coming = record { number = 0; arrival = no_arrival }

abbrev pub coming_at : List Coming → ℕ → Coming
coming_at list p = get_or list p no_coming

-- the entry at which somebody comes
abbrev pub entry_by : List ℕ → Coming → ℕ
entry_by ends c = entry_of_arrival ends c.arrival

-- somebody comes into a shared cell at a time
pub record IsComing (m : Meetings) (t : ℕ) (c : Coming) : Type 0 where
  pub entry : IsEntry m.ends.now c.arrival.agent c.arrival.index (entry_by m.ends.now c)
  pub number : get_or m.numbers.now (entry_by m.ends.now c) 0 ≡ c.number
  pub time : get_or m.times.now (entry_by m.ends.now c) 0 ≡ t
  pub meets : IsMeeting m.numbers.now m.shared.items (entry_by m.ends.now c)

abbrev pub AllComing : Meetings → ℕ → List Coming → Type 0
AllComing m t list = (p : ℕ) → p < length list → IsComing m t (coming_at list p)

abbrev pub IsInComings : List Coming → Coming → Type 0
IsInComings list c = (p : ℕ) × (p < length list) × (coming_at list p ≡ c)

abbrev pub coming_by : Meetings → (agent index entry : ℕ) → Coming
coming_by m i k e =
    record { number = get_or m.numbers.now e 0; arrival = record { agent = i; index = k } }

-- all who come into shared cells at a time
abbrev pub HasAll : Meetings → ℕ → List Coming → Type 0
HasAll m t list =
    (i k e : ℕ) → IsEntry m.ends.now i k e → IsMeeting m.numbers.now m.shared.items e
    → get_or m.times.now e 0 ≡ t → IsInComings list (coming_by m i k e)

-- ---- blocks of times

abbrev pub block_times : ℕ
block_times = 32

abbrev pub list_at : List (List Coming) → ℕ → List Coming
list_at block s = get_or block s []

-- for each time of the block from one on, all who come into shared cells at it
pub record AreBlock (m : Meetings) (t : ℕ) (block : List (List Coming)) : Type 0 where
  pub count : length block ≡ block_times
  pub sound : (s : ℕ) → s < block_times → AllComing m (t + s) (list_at block s)
  pub whole : (s : ℕ) → s < block_times → HasAll m (t + s) (list_at block s)

-- in the block from a time on, all who came before are still there, and so are those that were
-- added: all of an agent
pub record AreAdded (m : Meetings) (t agent : ℕ) (old new : List (List Coming)) : Type 0 where
  pub count : length new ≡ length old
  pub sound : (s : ℕ) → s < block_times → AllComing m (t + s) (list_at old s)
      → AllComing m (t + s) (list_at new s)
  pub kept : (s : ℕ) (c : Coming) → s < block_times → IsInComings (list_at old s) c
      → IsInComings (list_at new s) c
  pub own : (k e s : ℕ) → s < block_times → IsEntry m.ends.now agent k e
      → IsMeeting m.numbers.now m.shared.items e → get_or m.times.now e 0 ≡ t + s
      → IsInComings (list_at new s) (coming_by m agent k e)

-- ---- who is under way

abbrev pub entry_next : Meetings → Follower → ℕ
entry_next m f = begin_in m.ends.now f.agent + f.index

abbrev pub is_under_way : List ℕ → Follower → Bool
is_under_way ends f =
    nat_lt f.agent (length ends) && nat_lt f.index (get_or ends f.agent 0 - begin_in ends f.agent)

-- an agent comes next into the first shared cell from a time on
pub record ComesNextAt (m : Meetings) (t : ℕ) (f : Follower) : Type 0 where
  pub agent : f.agent < length m.ends.now
  pub within : entry_next m f ≤ get_or m.ends.now f.agent 0
  pub before : (k e : ℕ) → IsEntry m.ends.now f.agent k e → e < entry_next m f
      → IsMeeting m.numbers.now m.shared.items e → get_or m.times.now e 0 < t
  pub meets : entry_next m f < get_or m.ends.now f.agent 0
      → IsMeeting m.numbers.now m.shared.items (entry_next m f)
  pub later
      : entry_next m f < get_or m.ends.now f.agent 0 → t ≤ get_or m.times.now (entry_next m f) 0

abbrev pub no_follower : Follower
no_follower = record { agent = 0; index = 0 }

abbrev pub follower_at : List Follower → ℕ → Follower
follower_at followers b = get_or followers b no_follower

-- all agents that come into shared cells from a time on
pub record AreAllUnderWay (m : Meetings) (t : ℕ) (followers : List Follower) : Type 0 where
  pub at : (b : ℕ) → b < length followers → ComesNextAt m t (follower_at followers b)
  pub all : (i k e : ℕ) → IsEntry m.ends.now i k e → IsMeeting m.numbers.now m.shared.items e
      → t ≤ get_or m.times.now e 0
      → (b : ℕ) × (b < length followers) × ((follower_at followers b).agent ≡ i)

-- nobody comes into a shared cell from a time on
abbrev pub NobodyComes : Meetings → ℕ → Type 0
NobodyComes m t =
    (i k e : ℕ) → IsEntry m.ends.now i k e → IsMeeting m.numbers.now m.shared.items e
    → get_or m.times.now e 0 < t

-- ---- the pass

-- what a move waits for, after the last arrival in its cell, and what was noted before
abbrev pub noted : ℕ → Option Arrival → Wait → Wait
noted i None old = old
noted i (Some a) old = if a.agent == i then old else record { agent = a.agent; count = a.index + 1 }

-- the last arrivals before the time in all shared cells, and what the moves into them wait for
pub record IsPassDone (m : Meetings) (p : Pass) : Type 0 where
  pub last_count : length p.last.items ≡ length m.shared.items
  pub wait_count : length p.waits.items ≡ length m.times.now
  pub last : (n : ℕ) → get_or m.shared.items n true ≡ true
      → IsLastIn m.times.now m.ends.now m.numbers.now n p.time (get_or p.last.items n None)
  pub done : (i k e : ℕ) → IsEntry m.ends.now i k e → IsMeeting m.numbers.now m.shared.items e
      → get_or m.times.now e 0 < p.time
      → IsFollowed m.times.now m.ends.now m.numbers.now p.waits.items i e
  pub rest : (e : ℕ) → e < length m.times.now
      → (IsMeeting m.numbers.now m.shared.items e → p.time ≤ get_or m.times.now e 0)
      → get_or p.waits.items e no_wait ≡ no_wait
