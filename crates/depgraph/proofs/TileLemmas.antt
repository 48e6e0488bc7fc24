-- Cells with numbers in tiles: different cells have different places.
use Rattle.std.proofs.Common.{◌≡◌, ◌≢◌, ℕ, ◌+◌, ◌/◌, ◌%◌, ◌<◌, ◌⊎◌, List, [], ◌∷◌, ◌++◌, length, Some, inl, inr, arith, refl, sym, ap, subst, ◌∙◌}
use Rattle.std.specs.Prelude.{slice_get}
use Rattle.std.proofs.lemmas.Bool.{cases_lt, cases_Bool, false≢true}
use Rattle.std.proofs.lemmas.List.{get_or_append_left, get_or_push, length-append}
use Rattle.std.proofs.lemmas.Nat.{div-mul-add, mod-mul-add}
use Rattle.std.proofs.lemmas.Option.{slice_get-get_or, slice_get_within, slice_get_read}
use Rattle.grid.specs.declared.cell.Cell.{Cell}
use Rattle.model.specs.Timetable.{same_cell}
use Rattle.model.specs.Laws.Tracks.{same_cell-same, same_cell-true}
use Rattle.depgraph.specs.declared.tiles.Tiles.{Tiles}
use Rattle.depgraph.specs.Code.Numbers.{AreDistinct, HasNumber}
use Rattle.depgraph.specs.Code.Tiles.{tile_of, offset_of, tile_part, place_of, number_held, IsCovered, AreTiles, IsSameMap, AreHeld}

-- ---- places

offset-less : (c : Cell) → offset_of c < 256
offset-less c = omega arith

-- a cell is known by its tile and its place there
same_cells : (across : ℕ) (c d : Cell) → c.x / 16 < across → d.x / 16 < across → tile_of across c ≡ tile_of across d → offset_of c ≡ offset_of d → c ≡ d
same_cells across c d in_c in_d tile offset =
    let row : c.y / 16 ≡ d.y / 16 = sym (div-mul-add (c.y / 16) across (c.x / 16) in_c) ∙ ap (λ n. n / across) tile ∙ div-mul-add (d.y / 16) across (d.x / 16) in_d in
    let column : c.x / 16 ≡ d.x / 16 = sym (mod-mul-add (c.y / 16) across (c.x / 16) in_c) ∙ ap (λ n. n % across) tile ∙ mod-mul-add (d.y / 16) across (d.x / 16) in_d in
    let x : c.x ≡ d.x = omega (arith, column, offset) in
    let y : c.y ≡ d.y = omega (arith, row, offset) in
    ap {A = ℕ} {B = Cell} (λ n. record { x = n; y = c.y }) x ∙ ap {A = ℕ} {B = Cell} (λ n. record { x = d.x; y = n }) y

pub places_apart : (t : Tiles) (c d : Cell) → AreTiles t → IsCovered t c → IsCovered t d → 0 < tile_part t c → place_of t c ≡ place_of t d → c ≡ d
places_apart t c d h in_c in_d own same =
    let less = offset-less c in
    let also = offset-less d in
    let part : tile_part t c ≡ tile_part t d = omega (arith, same, less, also) in
    let offset : offset_of c ≡ offset_of d = omega (arith, same, part) in
    same_cells t.across c d in_c.column in_d.column (h.apart (tile_of t.across c) (tile_of t.across d) own part) offset

pub still_covered : (old new : Tiles) (c : Cell) → IsSameMap old new → IsCovered old c → IsCovered new c
still_covered old new c h covered = record {
  column = subst (λ n. c.x / 16 < n) (sym h.across) covered.column;
  tile = (
      let was = covered.tile in
      let count = h.count in
      let same : tile_of new.across c ≡ tile_of old.across c = ap (λ n. tile_of n c) h.across in
      omega (arith, was, count, same)
      );
}

pub still_same : (old now new : Tiles) → IsSameMap old now → IsSameMap now new → IsSameMap old new
still_same old now new first then = record { across = then.across ∙ first.across; count = then.count ∙ first.count }

-- ---- numbers

pub held_distinct : (t : Tiles) (names : List Cell) → AreHeld t names → AreDistinct names
held_distinct t names h a b c at_a at_b = let first = h.named a c at_a in let second = h.named b c at_b in omega (arith, first, second)

module _ (old new : Tiles) (names : List Cell) (cell : Cell) (n : ℕ) (h : AreHeld old names) (map : IsSameMap old new) (covered : IsCovered old cell) (now : number_held new cell ≡ n + 1)
    (others : (c : Cell) → IsCovered old c → c ≢ cell → number_held new c ≡ number_held old c) where
  same_map : IsSameMap new old
  same_map = record { across = sym map.across; count = sym map.count }

  is_cell : (c : Cell) → (c ≡ cell) ⊎ (c ≢ cell)
  is_cell c = elim (cases_Bool (same_cell c cell)) [
    | inl same ↦ inl (same_cell-same c cell same)
    | inr other ↦ inr (λ same. false≢true (sym other ∙ same_cell-true c cell same))
  ]

  -- a cell that was numbered before
  stays : number_held old cell ≡ n + 1 → AreHeld new names
  stays was = record {
    covered = λ m c at. still_covered old new c map (h.covered m c at);
    named = λ m c at. kept c (h.covered m c at) ∙ h.named m c at;
    known = λ m c in_c is. let there = still_covered new old c same_map in_c in h.known m c there (sym (kept c there) ∙ is);
  } where
    kept : (c : Cell) → IsCovered old c → number_held new c ≡ number_held old c
    kept c there = elim (is_cell c) [ inl same ↦ ap (number_held new) same ∙ now ∙ sym was ∙ ap (number_held old) (sym same) | inr other ↦ others c there other ]

  -- a cell that comes first
  module _ (none : number_held old cell ≡ 0) (next : n ≡ length names) where
    all : List Cell
    all = names ++ cell ∷ []

    last : slice_get all n ≡ Some cell
    unfolding all
    last = slice_get_read all (length all) n cell refl (let long = length-append names (cell ∷ []) in omega (arith, long, next)) (sym (get_or_push names cell cell n (sym next)))

    before : (m : ℕ) → m < length names → slice_get all m ≡ slice_get names m
    unfolding all
    before m less =
        slice_get-get_or all m cell (let long = length-append names (cell ∷ []) in omega (arith, long, less)) ∙ ap Some (get_or_append_left names (cell ∷ []) cell m less)
        ∙ sym (slice_get-get_or names m cell less)

    -- what stands in the longer list is an old name, or the new one
    which : (m : ℕ) (c : Cell) → slice_get all m ≡ Some c → (slice_get names m ≡ Some c) ⊎ ((m ≡ n) × (c ≡ cell))
    unfolding all
    which m c at = elim (cases_lt m (length names)) [
      | inl less ↦ inl (sym (before m less) ∙ at)
      | inr past ↦ (
          let within = slice_get_within all m c at in
          let long = length-append names (cell ∷ []) in
          let one : m ≡ n = omega (arith, within, long, past, next) in
          let both : Some c ≡ Some cell = sym at ∙ ap (slice_get all) one ∙ last in
          inr (one, cc)
          )
    ]

    -- a name isn't the new cell, which had no number
    old_name : (m : ℕ) (c : Cell) → slice_get names m ≡ Some c → number_held new c ≡ number_held old c
    old_name m c at = others c (h.covered m c at) (λ same. let is = h.named m c at in let zero_there = ap (number_held old) same ∙ none in omega (arith, is, zero_there))

    grows : AreHeld new (names ++ cell ∷ [])
    unfolding all
    grows = record {
      covered = λ m c at. elim (which m c at) [
        | inl old_at ↦ still_covered old new c map (h.covered m c old_at)
        | inr own ↦ still_covered old new c map (subst (IsCovered old) (sym own.1) covered)
      ];
      named = λ m c at. elim (which m c at) [
        | inl old_at ↦ old_name m c old_at ∙ h.named m c old_at
        | inr own ↦ (let here = own.0 in ap (number_held new) own.1 ∙ now ∙ ap (λ k. k + 1) (sym here))
      ];
      known = λ m c in_c is. elim (is_cell c) [
        | inl same ↦ (
            let holds = ap (number_held new) (sym same) ∙ is in
            let one : n ≡ m = omega (arith, holds, now) in
            ap (slice_get all) (sym one) ∙ last ∙ ap Some (sym same)
            )
        | inr other ↦ (
            let there = still_covered new old c same_map in_c in
            let at = h.known m c there (sym (others c there other) ∙ is) in
            before m (slice_get_within names m c at) ∙ at
            )
      ];
    }

  -- the names afterwards
  pub held_next : (next : ℕ) → next ≡ length names → ((number_held old cell ≡ 0) × (n ≡ next)) ⊎ (number_held old cell ≡ n + 1) → (all : List Cell) × HasNumber names all cell n × AreHeld new all
  unfolding all
  held_next next count number = elim number [
    | inl fresh ↦ (
        let is : n ≡ length names = fresh.1 ∙ count in
        (names ++ cell ∷ [], record { is_at = last fresh.0 is; grown = inl (is, refl) }, grows fresh.0 is)
        )
    | inr was ↦ (
        let at = h.known n cell covered was in
        (names, record { is_at = at; grown = inr (slice_get_within names n cell at, refl) }, stays was)
        )
  ]
