-- Cells by their numbers, and those beside one.
use Rattle.std.proofs.Common.{◌≡◌, ◌∙◌, ℕ, ◌+◌, ◌-◌, ◌*◌, ◌/◌, ◌%◌, ◌<◌, ◌⊎◌, ltb, inl, inr, arith, sym, ap, subst}
use Rattle.std.specs.Prelude.{◌&&◌, None, Some, Option, slice_get}
use Rattle.std.proofs.lemmas.Bool.{cases_Bool, cases_order, and_parts, cond-false, ltb-true}
use Rattle.std.proofs.lemmas.Nat.{div-mul-add, mod-mul-add}
use Rattle.grid.specs.declared.cell.Cell.{Cell}
use Rattle.grid.specs.declared.terrain.Terrain.{Terrain}
use Rattle.grid.specs.Map.{AreJoined, Grid, terrain_at}
use Rattle.least_costs.specs.declared.sides.Sides.{Sides}

pub same_cells : (u v : Cell) → u.x ≡ v.x → u.y ≡ v.y → u ≡ v
same_cells u v e f = ap {A = ℕ} {B = Cell} (λ x. record { x = x; y = u.y }) e ∙ ap {A = ℕ} {B = Cell} (λ y. record { x = v.x; y = y }) f

not_joined : (from : Option Terrain) → AreJoined from None → ⊥
not_joined None h = h
not_joined (Some t) h = h

-- what is joined is on the map
pub on_map : (m : Grid) (from : Option Terrain) (v : Cell) → AreJoined from (terrain_at m v) → (v.x < m.width) × (v.y < m.height)
on_map m from v joined = elim (cases_Bool (ltb v.x m.width && ltb v.y m.height)) [
  | inl both ↦ let parts = and_parts (ltb v.x m.width) (ltb v.y m.height) both in (ltb-true v.x m.width parts.0, ltb-true v.y m.height parts.1)
  | inr off ↦ absurd (not_joined from
      (subst (AreJoined from) (cond-false (ltb v.x m.width && ltb v.y m.height) (slice_get m.terrain (v.y * m.width + v.x)) None off) joined))
]

pub from_map : (m : Grid) (u : Cell) (to : Option Terrain) → AreJoined (terrain_at m u) to → (u.x < m.width) × (u.y < m.height)
from_map m u to joined = elim (cases_Bool (ltb u.x m.width && ltb u.y m.height)) [
  | inl both ↦ let parts = and_parts (ltb u.x m.width) (ltb u.y m.height) both in (ltb-true u.x m.width parts.0, ltb-true u.y m.height parts.1)
  | inr off ↦ absurd (subst (λ o. AreJoined o to) (cond-false (ltb u.x m.width && ltb u.y m.height) (slice_get m.terrain (u.y * m.width + u.x)) None off) joined)
]

-- what the four cells beside one are
pub record AreSides (u : Cell) (sides : Sides) : Type 0 where
  pub north : sides.north ≡ record { x = u.x; y = u.y - 1 }
  pub west : sides.west ≡ record { x = u.x - 1; y = u.y }
  pub south : u.y < 65535 → sides.south ≡ record { x = u.x; y = u.y + 1 }
  pub east : u.x < 65535 → sides.east ≡ record { x = u.x + 1; y = u.y }

-- no two cells of a map have one number
pub same_number : (width : ℕ) (c d : Cell) → c.x < width → d.x < width → c.y * width + c.x ≡ d.y * width + d.x → c ≡ d
same_number width c d left right same = same_cells c d
    (sym (mod-mul-add c.y width c.x left) ∙ ap (λ n. n % width) same ∙ mod-mul-add d.y width d.x right)
    (sym (div-mul-add c.y width c.x left) ∙ ap (λ n. n / width) same ∙ div-mul-add d.y width d.x right)

pub same_or_other : (c d : Cell) → (c ≡ d) ⊎ (c ≡ d → ⊥)
same_or_other c d = elim (cases_order c.x d.x) [
  | inl x ↦ elim (cases_order c.y d.y) [
    | inl y ↦ inl (same_cells c d x y)
    | inr y ↦ inr (λ same. apart c.y d.y y (ap (λ (e : Cell). e.y) same))
  ]
  | inr x ↦ inr (λ same. apart c.x d.x x (ap (λ (e : Cell). e.x) same))
]
  where
    apart : (i j : ℕ) → (i < j) ⊎ (j < i) → i ≡ j → ⊥
    apart i j (inl less) same = omega (arith, less, same)
    apart i j (inr more) same = omega (arith, more, same)
