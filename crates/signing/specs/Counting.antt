-- How a sender counts what it seals, through kills and power cuts.
use Rattle.std.specs.Prelude.{◌≡◌, ℕ, ◌+◌, ◌≤◌, ◌<◌, ◌^◌, ◌⊎◌, List, [], ◌∷◌}
use Rattle.text_io.specs.Counted.{one_more}

-- so many counts are reserved at a time
abbrev pub block : ℕ
block = 1000

-- the count that is kept, below which all may have been used; how often one couldn't be kept; the
-- next one, and the end of those that are reserved
pub record Counting : Type 0 where
  pub kept : ℕ
  pub failures : ℕ
  pub next : ℕ
  pub end : ℕ

-- what is used next is reserved, or all that was reserved is used; what is reserved is kept, and no
-- more than a block behind it
pub record IsCounting (c : Counting) : Type 0 where
  pub reserved : c.next ≤ c.end
  pub stored : c.end ≤ c.kept
  pub no_more : c.kept ≤ c.end + block

-- a block more was to be kept: it is, or what was kept before
abbrev pub MayKeep : Counting → ℕ → Type 0
MayKeep c kept = (kept ≡ c.kept) ⊎ (kept ≡ c.end + block)

-- a count was taken: the next one
pub record CountsOn (old new : Counting) (count : ℕ) : Type 0 where
  pub is_next : count ≡ old.next
  pub next : new.next ≡ count + 1
  pub rising : old.kept ≤ new.kept
  pub none_failed : new.failures ≡ old.failures
  pub within : count < 2 ^ 64

-- a block more would reach 2^64, or it couldn't be kept
abbrev pub IsNoBlock : (old new : Counting) → Type 0
IsNoBlock old new =
    ((2 ^ 64 ≤ old.end + block) × (new.kept ≡ old.kept) × (new.failures ≡ old.failures))
    ⊎ (MayKeep old new.kept × (new.failures ≡ one_more old.failures))

-- none was: all that was reserved is used, and there is no block more
pub record CountsNone (old new : Counting) : Type 0 where
  pub all_used : old.next ≡ old.end
  pub next : new.next ≡ old.next
  pub end : new.end ≡ old.end
  pub no_block : IsNoBlock old new

-- the process ended, perhaps while a block more was to be kept, and another one begins behind all
-- that is kept
pub record BeginsBehind (old new : Counting) : Type 0 where
  pub kept : MayKeep old new.kept
  pub next : new.next ≡ new.kept
  pub end : new.end ≡ new.kept

-- what the processes of a sender did
pub data CountDeed : Type 0 where
  takes : (count : ℕ) → CountDeed
  takes_none begins : CountDeed

abbrev pub DoesNext : CountDeed → Counting → Counting → Type 0
DoesNext (takes count) old new = CountsOn old new count
DoesNext takes_none old new = CountsNone old new
DoesNext begins old new = BeginsBehind old new

-- they did these, one after another
abbrev pub HaveDone : Counting → List CountDeed → Type 0
HaveDone c [] = Unit {0}
HaveDone c (deed ∷ later) =
    (next : Counting) × IsCounting next × DoesNext deed c next × HaveDone next later
