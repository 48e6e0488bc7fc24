-- What leads from the entry of a move to that of the move that it waits for, if both are made in
-- one step.
use Rattle.std.specs.Prelude.{◌≡◌, ℕ, ◌+◌, ◌<◌, ◌^◌, ◌==◌, Bool, true}
use Rattle.std.specs.Prelude.{false, if◌then◌else◌, List, length, get_or, map, replicate}
use Rattle.std.specs.List.{range_with_len}
use Rattle.depgraph.specs.declared.cycles.Links.{Links}
use Rattle.depgraph.specs.declared.waiting.Wait.{Wait}
use Rattle.depgraph.specs.Code.Entries.{begin_in}
use Rattle.depgraph.specs.Code.Waits.{no_wait, no_entry}

-- the entry of the move that is waited for
abbrev pub entry_before : List ℕ → Wait → ℕ
entry_before ends w = begin_in ends w.agent + w.count

-- the same for a move that leads to a cell at a time, if it waits for one that is made in the same
-- step
abbrev pub link_to : List ℕ → List ℕ → Wait → ℕ → ℕ
link_to times ends w time =
    if w.count == 0 then no_entry else if get_or times (entry_before ends w) 0 == time then
    entry_before ends w else no_entry

-- the link of an entry
abbrev pub link_of : List ℕ → List ℕ → List Wait → ℕ → ℕ
link_of times ends waits e = link_to times ends (get_or waits e no_wait) (get_or times e 0)

-- the links of entries, of which some were taken away
abbrev pub links_by : List ℕ → List ℕ → List Wait → List Bool → List ℕ
links_by times ends waits taken =
    map (λ e. if get_or taken e true then no_entry else link_of times ends waits e)
    (range_with_len 0 (length taken))

-- all links of so many entries
abbrev pub all_links : List ℕ → List ℕ → List Wait → List ℕ
all_links times ends waits = links_by times ends waits (replicate (length waits) false)

-- there is an entry for what each entry waits for
pub record AreBound (times ends : List ℕ) (waits : List Wait) : Type 0 where
  pub few : length times < 2 ^ 32
  pub count : length waits ≡ length times
  pub agent
      : (e : ℕ) → 0 < (get_or waits e no_wait).count → (get_or waits e no_wait).agent < length ends
  pub entry : (e : ℕ) → 0 < (get_or waits e no_wait).count
      → entry_before ends (get_or waits e no_wait) < length times

-- the links that are left
abbrev pub links_in : Links → List ℕ
links_in l = links_by l.times.now l.ends.now l.waits.now l.taken.items

-- each entry has a link, or none
pub record AreLinksIn (l : Links) : Type 0 where
  pub bound : AreBound l.times.now l.ends.now l.waits.now
  pub whole : length l.taken.items ≡ length l.times.now
