-- The cycles of entries that follow one another: each is that of a move into the cell that the next
-- one's move leaves.
use Rattle.std.specs.Prelude.{◌≡◌, ◌≢◌, ℕ, ◌<◌, ◌≤◌, ◌^◌, List, length, Some, ◌⊎◌, slice_get}
use Rattle.model.specs.Dependency.{following}
use Rattle.depgraph.specs.Code.Waits.{no_entry}

-- the entry has a link to another
abbrev pub LinksTo : List ℕ → ℕ → ℕ → Type 0
LinksTo ahead i j = (slice_get ahead i ≡ Some j) × (j ≢ no_entry)

-- For each entry the one ahead of it, or no entry. No two have one entry ahead.
pub record AreLinks (ahead : List ℕ) : Type 0 where
  pub few : length ahead < 2 ^ 32
  pub within : (i j : ℕ) → LinksTo ahead i j → j < length ahead
  pub injective : (i k j : ℕ) → LinksTo ahead i j → LinksTo ahead k j → i ≡ k

-- Different entries, the least first, each of which has a link to the next.
pub record IsCycle (ahead entries : List ℕ) : Type 0 where
  pub some : 0 < length entries
  pub different : (place other i : ℕ) → slice_get entries place ≡ Some i
      → slice_get entries other ≡ Some i → place ≡ other
  pub least : (place first i : ℕ) → slice_get entries 0 ≡ Some first
      → slice_get entries place ≡ Some i → first ≤ i
  pub cycle : (place i j : ℕ) → slice_get entries place ≡ Some i → following entries place ≡ Some j
      → slice_get ahead i ≡ Some j

-- Links were only taken away.
pub record IsCut (before after : List ℕ) : Type 0 where
  pub count : length after ≡ length before
  pub kept : (i j : ℕ) → LinksTo after i j → LinksTo before i j

-- What a walk from an entry leaves: no link of that entry, and all cycles but the one that it
-- found.
pub record IsCycleWalked (first : ℕ) (before after trail : List ℕ) (found : Type 0) : Type 0 where
  pub is_cut : IsCut before after
  pub gone : (j : ℕ) → LinksTo after first j → ⊥
  pub is_cycle : found → IsCycle before trail × (slice_get trail 0 ≡ Some first)
  pub others : (entries : List ℕ) → IsCycle before entries → (found × (entries ≡ trail))
      ⊎ IsCycle after entries
