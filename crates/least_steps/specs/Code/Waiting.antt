-- The places from which no step was taken yet.
use Rattle.std.specs.Prelude.{◌≡◌, ℕ, ◌+◌, ◌^◌, ◌<◌, ◌≤◌, ◌⊎◌, List, [], Some, Vec, slice_get}
use Rattle.grid.specs.declared.cell.Cell.{Cell}
use Rattle.walks.specs.Walk.{IsOn}
use Rattle.least_steps.specs.declared.open_list.Open.{Open}
use Rattle.least_steps.specs.declared.open_list.OpenList.{OpenList}
use Rattle.least_steps.specs.Code.Estimate.{least_number}
use Rattle.least_steps.specs.Code.Exploring.{Advances, Comes, Exploration, Has}
use Rattle.least_steps.specs.Code.Exploring.{IsArrival, IsLeft, IsNumberOf}

abbrev pub IsPlaceAmong : List Open → Open → Type 0
IsPlaceAmong places p = (j : ℕ) × (slice_get places j ≡ Some p)

-- from this index on
abbrev pub IsPlaceAmongFrom : ℕ → List Open → Open → Type 0
IsPlaceAmongFrom i places p = (j : ℕ) × (i ≤ j) × (slice_get places j ≡ Some p)

abbrev pub IsInBucket : {Z : Type 0} → List (Vec Open Z) → Open → Type 0
IsInBucket {Z = Z} buckets p =
    (i : ℕ) × (b : Vec Open Z) × (slice_get buckets i ≡ Some b) × IsPlaceAmong b.items p

-- in one of the lists
abbrev pub IsOpenPlace : OpenList → Open → Type 0
IsOpenPlace waiting p =
    IsPlaceAmong waiting.now.items p
    ⊎ (IsPlaceAmong waiting.next.items p
    ⊎ (IsPlaceAmong waiting.later.items p ⊎ IsInBucket waiting.buckets p))

-- what waits is what did
pub record IsSame (old new : OpenList) : Type 0 where
  pub keeps : (p : Open) → IsOpenPlace old p → IsOpenPlace new p
  pub only : (p : Open) → IsOpenPlace new p → IsOpenPlace old p

-- a walk comes to the place, by its last step
pub record IsPlace (e : Exploration) (p : Open) : Type 0 where
  pub comes : Comes e p.cell p.number
  pub arrival : IsArrival e p.cell p.number p.by
  pub limit : p.number < 2 ^ 45

abbrev pub IsSoundList : Exploration → OpenList → Type 0
IsSoundList e waiting = (p : Open) → IsOpenPlace waiting p → IsPlace e p

abbrev pub AreSound : Exploration → List Open → Type 0
AreSound e places = (p : Open) → IsPlaceAmong places p → IsPlace e p

-- a walk to the goal was found that is no longer than any through the cell
abbrev pub IsFar : Exploration → Cell → Cell → ℕ → Type 0
IsFar e goal c n = (found : ℕ) × Has e goal found × (found ≤ n + least_number e.aslant goal c)

-- A cell that has this number is done, or waits, here or among others.
abbrev pub IsMinded : Exploration → OpenList → ℕ → List Open → Cell → Cell → ℕ → Type 0
IsMinded e waiting i others goal c n =
    IsLeft e c n ⊎ (IsFar e goal c n
    ⊎ ((by : ℕ) × (IsOpenPlace waiting (record { number = n; cell = c; by = by })
    ⊎ IsPlaceAmongFrom i others (record { number = n; cell = c; by = by }))))

-- each cell is but this one
abbrev pub AreMindedBut : Exploration → OpenList → ℕ → List Open → Cell → Cell → ℕ → Type 0
AreMindedBut e waiting i others goal d k =
    (c : Cell) (n : ℕ) → IsOn e.map c → IsNumberOf e c n → IsMinded e waiting i others goal c n
    ⊎ ((c ≡ d) × (n ≡ k))

abbrev pub AreMinded : Exploration → OpenList → ℕ → List Open → Cell → Type 0
AreMinded e waiting i others goal =
    (c : Cell) (n : ℕ) → IsOn e.map c → IsNumberOf e c n → IsMinded e waiting i others goal c n

-- from one state to the next
pub record Goes (e : Exploration) (waiting : OpenList) (f : Exploration)
    (opened : OpenList) : Type 0 where
  pub advances : Advances e f
  pub sound : IsSoundList e waiting → IsSoundList f opened
  pub kept : (i : ℕ) (others : List Open) (goal c : Cell) (n : ℕ)
      → AreMindedBut e waiting i others goal c n → AreMindedBut f opened i others goal c n

-- a search that has begun, and has places of these others before it, from an index on
pub record IsSearchFrom (e : Exploration) (waiting : OpenList) (i : ℕ) (others : List Open)
    (goal : Cell) : Type 0 where
  pub begins : Has e e.start 6625109
  pub sound : IsSoundList e waiting
  pub kept : AreMinded e waiting i others goal

abbrev pub IsSearch : Exploration → OpenList → Cell → Type 0
IsSearch e waiting goal = IsSearchFrom e waiting 0 [] goal

-- where the place still has its number, it is too far
abbrev pub IsBehind : Exploration → Cell → Open → Type 0
IsBehind e goal p = IsNumberOf e p.cell p.number → IsFar e goal p.cell p.number

abbrev pub AreBehind : Exploration → Cell → List Open → Type 0
AreBehind e goal places = (p : Open) → IsPlaceAmong places p → IsBehind e goal p
