-- Places on an agent's path, numbered from 0 on, and which of them a report fits.
use Rattle.std.specs.Prelude.{◌≡◌, ℕ, ◌+◌, ◌<◌, ◌≤◌, ◌⊎◌, List, Some, slice_get}
use Rattle.grid.specs.declared.cell.Cell.{Cell}
use Rattle.carrier_text.specs.declared.report.Report.{Report}
use Rattle.carrier_text.specs.declared.report.Report.TheVariants.{Stands, Between, Unclear}

-- the furthest place in which a drive has a part of itself that reports this and is in a place
abbrev pub front_of : Report → ℕ → ℕ
front_of (Between u v) place = place + 1
front_of report place = place

-- A drive that reports this is in the place. One between two cells is in the place of the first.
abbrev pub IsInPlace : List Cell → Report → ℕ → Type 0
IsInPlace cells (Stands c) place = slice_get cells place ≡ Some c
IsInPlace cells (Between u v) place =
    (slice_get cells place ≡ Some u) × (slice_get cells (place + 1) ≡ Some v)
IsInPlace cells Unclear place = ⊥

-- it may be so, if the drive may be in the places from a first to a last one
pub record FitsAt (cells : List Cell) (from to : ℕ) (report : Report)
    (place : ℕ) : Type 0 where
  pub behind : from ≤ place
  pub within : front_of report place ≤ to
  pub is_at : IsInPlace cells report place

-- there is a cell at the place, and another one at each place before it, from a first one on
abbrev pub IsNew : List Cell → (from place : ℕ) → Type 0
IsNew cells from place =
    (c : Cell) × (slice_get cells place ≡ Some c)
    × ((before : ℕ) → from ≤ before → before < place → slice_get cells before ≡ Some c → ⊥)

-- The furthest place, up to a last one, up to which no cell stands twice from a first place on.
pub record IsFurthestNew (cells : List Cell) (from last place : ℕ) : Type 0 where
  pub behind : from ≤ place
  pub within : (place ≡ from) ⊎ (place ≤ last)
  pub each_new : (k : ℕ) → from < k → k ≤ place → IsNew cells from k
  pub no_further : place < last → IsNew cells from (place + 1) → ⊥
