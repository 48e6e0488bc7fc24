-- What a certificate of a shortest length has to be: a table that no step can improve, and a walk
-- of just the goal's length.
use Rattle.std.specs.Prelude.{◌≡◌, ℕ, ◌+◌, ◌*◌, List, [], length, Option}
use Rattle.std.specs.Prelude.{None, Some, MatchOption, Result, Ok, Err, slice_index_or}
use Rattle.grid.specs.declared.cell.Cell.{Cell}
use Rattle.grid.specs.Map.{Grid, IsStraightStep, IsDiagonalStep}
use Rattle.scenario.specs.declared.length.Length.{Length}
use Rattle.walks.specs.declared.certificate.Proposal.{Proposal}
use Rattle.walks.specs.declared.certificate.CertFault.{CertFault}
use Rattle.walks.specs.declared.certificate.CertFault.TheVariants.{BadWalk, BadTable}
use Rattle.walks.specs.declared.certificate.CertFault.TheVariants.{NotTight, OutOfRange}
use Rattle.scenario.specs.Length.{IsAtMost}
use Rattle.walks.specs.Walk.{IsOn, IsWalk, IsShortest, IsUnreachable}

-- the entry of a cell, in a table of one entry a cell, row by row
abbrev pub entry_of : Grid → List (Option Length) → Cell → Option Length
entry_of m table c = slice_index_or table (c.y * m.width + c.x) None

-- one entry a cell, and that of the start is a length of no step
pub record IsTable (m : Grid) (start : Cell) (table : List (Option Length)) : Type 0 where
  pub cells : length table ≡ m.width * m.height
  pub origin : (l : Length) × (entry_of m table start ≡ Some l) × (l.straight ≡ 0)
      × (l.diagonal ≡ 0)

-- a step from a cell with the one entry cannot improve the other: where there is a length, there is
-- one of at most it and the step
abbrev pub Bounds : (straight diagonal : ℕ) → Option Length → Option Length → Type 0
Bounds straight diagonal from to =
    MatchOption from (Unit {0})
    (λ l. MatchOption to ⊥
    (λ n. IsAtMost n.straight n.diagonal (l.straight + straight) (l.diagonal + diagonal)))

-- no legal step improves the table
pub record IsTight (m : Grid) (table : List (Option Length)) : Type 0 where
  pub straight
      : (u v : Cell) → IsStraightStep m u v → Bounds 1 0 (entry_of m table u) (entry_of m table v)
  pub diagonal
      : (u v : Cell) → IsDiagonalStep m u v → Bounds 0 1 (entry_of m table u) (entry_of m table v)

-- the walk is one of just the goal's length, or is empty where the goal has none
abbrev pub IsProof : Grid → Cell → Cell → List Cell → Option Length → Type 0
IsProof m start goal walk entry =
    MatchOption entry (walk ≡ []) (λ l. IsWalk m start goal walk l.straight l.diagonal)

-- start and goal are on the map
abbrev pub AreOn : Grid → Cell → Cell → Type 0
AreOn m start goal = IsOn m start × IsOn m goal

-- The answer to a certificate: the entry of the goal where everything is right, else the first that
-- is wrong of the cells, the table, its being tight, and the walk.
abbrev pub Certifies : Grid → Cell → Cell → Proposal → Result (Option Length) CertFault → Type 0
Certifies m start goal p (Ok answer) =
    AreOn m start goal × IsTable m start p.table × IsTight m p.table
    × (answer ≡ entry_of m p.table goal) × IsProof m start goal p.walk.items answer
Certifies m start goal p (Err OutOfRange) = AreOn m start goal → ⊥
Certifies m start goal p (Err BadTable) = AreOn m start goal × (IsTable m start p.table → ⊥)
Certifies m start goal p (Err NotTight) =
    AreOn m start goal × IsTable m start p.table × (IsTight m p.table → ⊥)
Certifies m start goal p (Err BadWalk) =
    AreOn m start goal × IsTable m start p.table × IsTight m p.table
    × (IsProof m start goal p.walk.items (entry_of m p.table goal) → ⊥)

-- what an accepted certificate proves
abbrev pub IsLeast : Grid → Cell → Cell → Option Length → Type 0
IsLeast m start goal answer =
    MatchOption answer (IsUnreachable m start goal) (IsShortest m start goal)
