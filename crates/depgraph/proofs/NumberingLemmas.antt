-- One cell more in a numbering.
use Rattle.std.proofs.Common.{◌≡◌, ◌≢◌, ℕ, ◌+◌, ◌≤◌, List, [], ◌∷◌, ◌++◌, length, inl, inr, arith, sym, subst, ◌∙◌}
use Rattle.std.specs.Prelude.{◌⊎◌}
use Rattle.std.proofs.lemmas.List.{length-append}
use Rattle.grid.specs.declared.cell.Cell.{Cell}
use Rattle.depgraph.specs.declared.tiles.Tiles.{Tiles}
use Rattle.depgraph.specs.Code.Numbering.{AreNumbering}
use Rattle.depgraph.specs.Code.Numbers.{cells_by, HasNumber}
use Rattle.depgraph.specs.Code.Tiles.{number_held, IsCovered, AreTiles, IsSameMap, IsNumbered, AreHeld}
use Rattle.depgraph.proofs.NumberLemmas.{cells-next, numbered-more, names_more, names_same}
use Rattle.depgraph.proofs.TileLemmas.{held_next, held_distinct}

-- The cell has its number in the new tiles, and stands in the new names if the number is the next one.
module _ (old new : Tiles) (names now : List Cell) (numbers : List ℕ) (cell : Cell) (n next : ℕ) (was : AreNumbering old names numbers) (tiles : AreTiles new) (map : IsSameMap old new)
    (covered : IsCovered old cell) (number : IsNumbered old new cell next n) (others : (c : Cell) → IsCovered old c → c ≢ cell → number_held new c ≡ number_held old c) (count : next ≡ length names)
    (size : length new.numbers.items ≤ length old.numbers.items + 256) (added : ((n ≡ next) × (now ≡ names ++ cell ∷ [])) ⊎ ((n ≡ next → ⊥) × (now ≡ names))) where
  named : HasNumber names now cell n × AreHeld new now
  named =
      let found = held_next old new names cell n was.held map covered number.now others next count number.before in
      let same : found.0 ≡ now = (elim added [
        | inl fresh ↦ names_more names found.0 numbers cell n was.numbered found.1 (fresh.0 ∙ count) ∙ sym fresh.1
        | inr known ↦ names_same names found.0 numbers cell n was.numbered found.1 (λ last. known.0 (last ∙ sym count)) ∙ sym known.1
      ]) in
      (subst (λ l. HasNumber names l cell n) same found.1, subst (AreHeld new) same found.2)

  pub cells_more : cells_by now (numbers ++ n ∷ []) ≡ cells_by names numbers ++ cell ∷ []
  cells_more = cells-next names now numbers cell n was.numbered named.0

  pub numbering_more : AreNumbering new now (numbers ++ n ∷ [])
  numbering_more = record {
    tiles = tiles;
    held = named.1;
    numbered = numbered-more names now numbers cell n was.numbered named.0 (held_distinct new now named.1);
    size = (let before = was.size in let longer = length-append numbers (n ∷ []) in omega (arith, size, before, longer));
  }
