-- The rows of a map's characters, one after another.
use Rattle.std.proofs.Common.{◌≡◌, ℕ, ◌+◌, ◌-◌, ◌*◌, ◌<◌, suc, List, [], ◌∷◌, ◌++◌, length, take, drop, map, sym, ap, ◌∙◌, arith, length-drop}
use Rattle.std.proofs.Math.Nat.{mul-suc}
use Rattle.std.proofs.lemmas.Grind.{flat_map-append}
use Rattle.text_io.specs.Text.{line_feed, ended}
use Rattle.grid.specs.Terrain.{character_of}
use Rattle.grid.specs.Map.{Grid}
use Rattle.grid.specs.MapText.{rows_of, header_lines, canonical_map_text}

-- the first of the rows that are left, and the others
pub rows_of-next : (count width i : ℕ) (characters : List ℕ) → i < count
    → rows_of (count - i) width characters ≡ take width characters ∷ rows_of (count - (i + 1)) width (drop width characters)
rows_of-next count width i characters h =
    let next : count - i ≡ suc (count - (i + 1)) = omega arith in ap (λ n. rows_of n width characters) next

-- one row more is as many cells as the width
pub cells_next : (count width i : ℕ) → i < count → width * (count - i) ≡ width * (count - (i + 1)) + width
cells_next count width i h =
    let next : count - i ≡ suc (count - (i + 1)) = omega arith in ap (λ n. width * n) next ∙ mul-suc width (count - (i + 1))

-- the cells that a row leaves
pub length-drop_row : (count width i : ℕ) (characters : List ℕ) → i < count → length characters ≡ width * (count - i)
    → length (drop width characters) ≡ width * (count - (i + 1))
length-drop_row count width i characters h e = omega (arith, length-drop width characters, cells_next count width i h, e)

-- the text of a map is its header and its rows
pub canonical_map_text-parts : (m : Grid) (w h v k : ℕ) (characters : List ℕ) → w ≡ m.width → h ≡ m.height → v ≡ m.width → k ≡ m.height
    → characters ≡ map character_of m.terrain → ended (header_lines w h) ++ ended (rows_of k v characters) ≡ canonical_map_text m
canonical_map_text-parts m w h v k characters ew eh ev ek ec =
    ap (λ x. ended (header_lines x h) ++ ended (rows_of k v characters)) ew
    ∙ ap (λ x. ended (header_lines m.width x) ++ ended (rows_of k v characters)) eh
    ∙ ap (λ x. ended (header_lines m.width m.height) ++ ended (rows_of k x characters)) ev
    ∙ ap (λ x. ended (header_lines m.width m.height) ++ ended (rows_of x m.width characters)) ek
    ∙ ap (λ x. ended (header_lines m.width m.height) ++ ended (rows_of m.height m.width x)) ec
    ∙ sym (flat_map-append (λ line. line ++ line_feed ∷ []) (header_lines m.width m.height) (rows_of m.height m.width (map character_of m.terrain)))
