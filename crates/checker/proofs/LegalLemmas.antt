-- Legal steps lead between cells of the map.
use Rattle.std.proofs.Common.{◌≡◌, ◌≢◌, ℕ, ◌+◌, ◌<◌, ◌^◌, List, get_or, None, Some, arith, refl, sym, ap, subst, ◌∙◌}
use Rattle.std.specs.Prelude.{Option, MatchOption, slice_get, unwrap_or}
use Rattle.std.proofs.lemmas.Option.{unwrap_or-slice_get}
use Rattle.grid.specs.declared.cell.Cell.{Cell}
use Rattle.grid.specs.declared.terrain.Terrain.{Terrain}
use Rattle.grid.specs.Map.{Grid, IsMap, terrain_at}
use Rattle.model.specs.declared.act.Act.{Act}
use Rattle.model.specs.declared.act.Act.TheVariants.{Wait}
use Rattle.model.specs.Plan.{Position, Course, position_at, IsLegal, IsBadMove}
use Rattle.checker.specs.Code.Places.{IsNamedCell}
use Rattle.checker.specs.Laws.Walking.{on_map_from_terrain, joined_to}

-- the column and the row are below 2^16
abbrev IsLow : Cell → Type 0
IsLow c = (c.x < 2 ^ 16) × (c.y < 2 ^ 16)

-- what has a terrain is a cell of the map
low-cell : (m : Grid) (c : Cell) (P : Terrain → Type 0) → IsMap m → MatchOption (terrain_at m c) ⊥ P → IsLow c
low-cell m c P is_map h =
    let on = on_map_from_terrain m c P h in
    let column = on.column in
    let row = on.row in
    let wide = is_map.size.width_limit in
    let high = is_map.size.height_limit in
    (omega (arith, column, wide), omega (arith, row, high))

pub illegal-from : (m : Grid) (from to : Position) → IsMap m → IsNamedCell from None → IsLegal m from to → ⊥
illegal-from m from to is_map none h = let low = low-cell m h.u _ is_map h.step.joined in none h.u h.is_from low.0 low.1

pub illegal-to : (m : Grid) (from to : Position) → IsMap m → IsNamedCell to None → IsLegal m from to → ⊥
illegal-to m from to is_map none h =
    let low = low-cell m h.v (λ t. Unit {0}) is_map (joined_to (terrain_at m h.u) (terrain_at m h.v) h.step.joined) in none h.v h.is_to low.0 low.1

-- ---- bad moves

bad_parts : (o : Option Act) (P : Type 0) → MatchOption o ⊥ (λ act. (act ≢ Wait) × P) → (unwrap_or o Wait ≢ Wait) × P
bad_parts None P h = absurd h
bad_parts (Some act) P h = h

bad_from : (o : Option Act) (P : Type 0) → unwrap_or o Wait ≢ Wait → P → MatchOption o ⊥ (λ act. (act ≢ Wait) × P)
bad_from None P other h = absurd (other refl)
bad_from (Some act) P other h = (other, h)

module _ (m : Grid) (course : Course) (n : ℕ) (from to : Position) (act : Act) (acts : List Act) (same : acts ≡ course.acts) (is : act ≡ get_or acts n Wait)
    (at : from ≡ position_at course n) (next : to ≡ position_at course (n + 1)) where
  act-is : unwrap_or (slice_get course.acts n) Wait ≡ act
  act-is = unwrap_or-slice_get course.acts n Wait ∙ ap (λ l. get_or l n Wait) (sym same) ∙ sym is

  pub bad-move-parts : IsBadMove m course n → (act ≢ Wait) × (IsLegal m from to → ⊥)
  bad-move-parts bad =
      let parts = bad_parts (slice_get course.acts n) (IsLegal m (position_at course n) (position_at course (n + 1)) → ⊥) bad in
      (λ e. parts.0 (act-is ∙ e), λ legal. parts.1 (subst (IsLegal m (position_at course n)) next (subst (λ q. IsLegal m q to) at legal)))

  pub bad-move-from : act ≢ Wait → (IsLegal m from to → ⊥) → IsBadMove m course n
  bad-move-from other illegal =
      bad_from (slice_get course.acts n) (IsLegal m (position_at course n) (position_at course (n + 1)) → ⊥) (λ e. other (sym act-is ∙ e))
      (λ legal. illegal (subst (λ q. IsLegal m q to) (sym at) (subst (IsLegal m (position_at course n)) (sym next) legal)))
