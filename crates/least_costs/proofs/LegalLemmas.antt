-- Each legal step leads to a cell to which there is a way, and back.
use Rattle.std.proofs.Common.{◌≡◌, ◌∙◌, ℕ, ◌+◌, ◌-◌, ◌*◌, ◌<◌, ◌≤◌, ◌⊎◌, ◌↔◌, true, List, [], ◌∷◌, ◌++◌, length, Some, None, inl, inr, arith, refl, sym, ap, subst}
use Rattle.std.specs.Prelude.{Option, slice_get}
use Rattle.std.proofs.lemmas.Bool.{cases_lt}
use Rattle.std.proofs.lemmas.List.{get_or_append_left, length-append}
use Rattle.std.proofs.lemmas.Option.{get_or_from_slice_get, same_Some, slice_get-get_or, slice_get_within}
use Rattle.grid.specs.declared.cell.Cell.{Cell}
use Rattle.grid.specs.declared.terrain.Terrain.{Terrain}
use Rattle.grid.specs.Terrain.{Class, class_of, joins}
use Rattle.grid.specs.Terrain.Class.{land, swamp, water, blocked}
use Rattle.grid.specs.Map.{AreJoined, AreNext, Grid, IsMap, IsStraightStep, ShareSide, terrain_at}
use Rattle.least_costs.specs.declared.legal_steps.Ways.{Ways}
use Rattle.least_costs.specs.declared.sides.Sides.{Sides}
use Rattle.least_costs.specs.Code.Ways.{AreAllWays, AreWays}
use Rattle.least_costs.proofs.ListLemmas.{get-last}
use Rattle.least_costs.proofs.SideLemmas.{AreSides, from_map, on_map, same_cells, same_number}

-- ---- a step, and the way for it

module _ (m : Grid) (u : Cell) (sides : Sides) (ways : Ways) (are : AreSides u sides) where
  -- the way for each step to one of the sides
  ways_hold : IsMap m → (IsStraightStep m u sides.north → ways.north ≡ true) → (IsStraightStep m u sides.south → ways.south ≡ true)
      → (IsStraightStep m u sides.west → ways.west ≡ true) → (IsStraightStep m u sides.east → ways.east ≡ true) → (v : Cell) → IsStraightStep m u v
      → ((v ≡ record { x = u.x; y = u.y - 1 }) × (ways.north ≡ true)) ⊎ ((v ≡ record { x = u.x; y = u.y + 1 }) × (u.y < 65535) × (ways.south ≡ true))
      ⊎ ((v ≡ record { x = u.x - 1; y = u.y }) × (ways.west ≡ true)) ⊎ ((v ≡ record { x = u.x + 1; y = u.y }) × (u.x < 65535) × (ways.east ≡ true))
  ways_hold is_map north south west east v step = by_side step.side
    where
      on : (v.x < m.width) × (v.y < m.height)
      on = on_map m (terrain_at m u) v step.joined

      wide : m.width ≤ 65535
      wide = is_map.size.width_limit

      high : m.height ≤ 65535
      high = is_map.size.height_limit

      to : (w : Cell) → v ≡ w → IsStraightStep m u w
      to w same = subst (IsStraightStep m u) same step

      by_side : ShareSide u v
          → ((v ≡ record { x = u.x; y = u.y - 1 }) × (ways.north ≡ true)) ⊎ ((v ≡ record { x = u.x; y = u.y + 1 }) × (u.y < 65535) × (ways.south ≡ true))
          ⊎ ((v ≡ record { x = u.x - 1; y = u.y }) × (ways.west ≡ true)) ⊎ ((v ≡ record { x = u.x + 1; y = u.y }) × (u.x < 65535) × (ways.east ≡ true))
      by_side (inl column) = elim column.1 [
        | inl above ↦
            let same : v ≡ record { x = u.x; y = u.y - 1 } = same_cells v (record { x = u.x; y = u.y - 1 }) (sym column.0) (omega (arith, above)) in
            inl (same, north (to sides.north (same ∙ sym are.north)))
        | inr below ↦
            let room : u.y < 65535 = omega (arith, on.1, high, below) in
            let same : v ≡ record { x = u.x; y = u.y + 1 } = same_cells v (record { x = u.x; y = u.y + 1 }) (sym column.0) below in
            inr (inl (same, room, south (to sides.south (same ∙ sym (are.south room)))))
      ]
      by_side (inr row) = elim row.1 [
        | inl left ↦
            let same : v ≡ record { x = u.x - 1; y = u.y } = same_cells v (record { x = u.x - 1; y = u.y }) (omega (arith, left)) (sym row.0) in
            inr (inr (inl (same, west (to sides.west (same ∙ sym are.west)))))
        | inr right ↦
            let room : u.x < 65535 = omega (arith, on.0, wide, right) in
            let same : v ≡ record { x = u.x + 1; y = u.y } = same_cells v (record { x = u.x + 1; y = u.y }) right (sym row.0) in
            inr (inr (inr (same, room, east (to sides.east (same ∙ sym (are.east room))))))
      ]

  -- and each way is a step
  pub are_ways : IsMap m → (IsStraightStep m u sides.north ↔ (ways.north ≡ true)) → (IsStraightStep m u sides.south ↔ (ways.south ≡ true))
      → (IsStraightStep m u sides.west ↔ (ways.west ≡ true)) → (IsStraightStep m u sides.east ↔ (ways.east ≡ true)) → AreWays m u ways
  are_ways is_map north south west east = record {
    hold = ways_hold is_map north.0 south.0 west.0 east.0;
    north = λ is. subst (IsStraightStep m u) are.north (north.1 is);
    south = λ is. (let room = low (south.1 is) in (room, subst (IsStraightStep m u) (are.south room) (south.1 is)));
    west = λ is. subst (IsStraightStep m u) are.west (west.1 is);
    east = λ is. (let room = left (east.1 is) in (room, subst (IsStraightStep m u) (are.east room) (east.1 is)));
  }
    where
      low : IsStraightStep m u sides.south → u.y < 65535
      low step =
          let on = from_map m u (terrain_at m sides.south) step.joined in
          let high = is_map.size.height_limit in omega (arith, on.1, high)

      left : IsStraightStep m u sides.east → u.x < 65535
      left step =
          let on = from_map m u (terrain_at m sides.east) step.joined in
          let wide = is_map.size.width_limit in omega (arith, on.0, wide)

  -- each legal step leads to a side to which there is a way
  pub way_of : AreWays m u ways → (v : Cell) → IsStraightStep m u v
      → ((v ≡ sides.north) × (ways.north ≡ true)) ⊎ ((v ≡ sides.south) × (ways.south ≡ true)) ⊎ ((v ≡ sides.west) × (ways.west ≡ true)) ⊎ ((v ≡ sides.east) × (ways.east ≡ true))
  way_of legal v step = elim (legal.hold v step) [
    | inl north ↦ inl (north.0 ∙ sym are.north, north.1)
    | inr (inl south) ↦ inr (inl (south.0 ∙ sym (are.south south.1), south.2))
    | inr (inr (inl west)) ↦ inr (inr (inl (west.0 ∙ sym are.west, west.1)))
    | inr (inr (inr east)) ↦ inr (inr (inr (east.0 ∙ sym (are.east east.1), east.2)))
  ]

-- ---- steps lead back

joins_back : (c d : Class) → joins c d ≡ true → joins d c ≡ true
joins_back land land h = refl
joins_back land swamp h = refl
joins_back land water h = cc
joins_back land blocked h = cc
joins_back swamp land h = refl
joins_back swamp swamp h = refl
joins_back swamp water h = cc
joins_back swamp blocked h = cc
joins_back water land h = cc
joins_back water swamp h = cc
joins_back water water h = refl
joins_back water blocked h = cc
joins_back blocked land h = cc
joins_back blocked swamp h = cc
joins_back blocked water h = cc
joins_back blocked blocked h = cc

joined_back : (from to : Option Terrain) → AreJoined from to → AreJoined to from
joined_back None to h = absurd h
joined_back (Some t) None h = absurd h
joined_back (Some t) (Some u) h = joins_back (class_of t) (class_of u) h

next_back : (a b : ℕ) → AreNext a b → AreNext b a
next_back a b (inl more) = inr more
next_back a b (inr less) = inl less

side_back : (u v : Cell) → ShareSide u v → ShareSide v u
side_back u v (inl column) = inl (sym column.0, next_back u.y v.y column.1)
side_back u v (inr row) = inr (sym row.0, next_back u.x v.x row.1)

pub step_back : (m : Grid) (u v : Cell) → IsStraightStep m u v → IsStraightStep m v u
step_back m u v step = record {
  side = side_back u v step.side;
  joined = joined_back (terrain_at m u) (terrain_at m v) step.joined;
}

-- ---- the list of all

-- one cell more
pub legal_more : (m : Grid) (all : List Ways) (c : Cell) (ways : Ways) → AreAllWays m all → length all ≡ c.y * m.width + c.x → c.x < m.width → AreWays m c ways
    → AreAllWays m (all ++ ways ∷ [])
legal_more m all c ways legal count wide own u w within is = elim (cases_lt (u.y * m.width + u.x) (length all)) [
  | inl old ↦ legal u w within
      (slice_get-get_or all (u.y * m.width + u.x) w old
      ∙ ap Some (sym (get_or_append_left all (ways ∷ []) w (u.y * m.width + u.x) old) ∙ get_or_from_slice_get (all ++ ways ∷ []) (u.y * m.width + u.x) w w is))
  | inr past ↦
      let inside = slice_get_within (all ++ ways ∷ []) (u.y * m.width + u.x) w is in
      let last : length all ≡ u.y * m.width + u.x = at_end (u.y * m.width + u.x) (length all) (length (all ++ ways ∷ [])) inside past (length-append all (ways ∷ [])) in
      let same : c ≡ u = same_number m.width c u wide within (sym count ∙ last) in
      let own_is : ways ≡ w = same_Some ways w (sym (get-last all ways) ∙ ap (slice_get (all ++ ways ∷ [])) last ∙ is) in
      subst (λ d. AreWays m d w) same (subst (AreWays m c) own_is own)
]
  where
    at_end : (i n k : ℕ) → i < k → n ≤ i → k ≡ n + 1 → n ≡ i
    at_end i n k h j e = omega (arith, h, j, e)
