-- What a table says of each place, and of each cell of a map.
use Rattle.std.specs.Prelude.{◌≡◌, ℕ, ◌+◌, ◌*◌, ◌≤◌, List, map}
use Rattle.std.specs.Prelude.{Option, None, Bool, true, false, nat_eq, slice_index_or}
use Rattle.std.specs.List.{range_with_len}
use Rattle.walks.specs.declared.beyond.Beyond.{Beyond}
use Rattle.scenario.specs.declared.length.Length.{Length}
use Rattle.walks.specs.declared.tiles.Tiles.{Tiles}
use Rattle.walks.specs.declared.length_table.Entries.{Entries}
use Rattle.walks.specs.declared.length_table.Entries.TheVariants.{Listed, Found}
use Rattle.walks.specs.Code.KeyParts.{number_of_entry, length_of_number}
use Rattle.walks.specs.Code.Distances.{beyond_number}
use Rattle.walks.specs.Code.TileKeys.{number_at, place_entry}

-- the entries of all places
unfoldable pub table_entries : Entries → List (Option Length)
table_entries (Listed keys) = map (λ k. length_of_number k.value) keys.items
table_entries (Found t) = map (place_entry t) (range_with_len 0 (t.width * t.height))

-- the number of the entry of a cell
abbrev pub entry_number : List (Option Length) → (width x y : ℕ) → ℕ
entry_number table width x y = number_of_entry (slice_index_or table (y * width + x) None)

-- what tiles of a map say of a cell, or the entries where the map has another width
abbrev pub number_as : Bool → Tiles → List (Option Length) → (width x y : ℕ) → ℕ
number_as true t table width x y = number_at t x y
number_as false t table width x y = entry_number table width x y

-- The number of a cell by which tightness is tested. It may be less than that of its entry, where
-- that was rounded.
abbrev pub number_on : Entries → (width x y : ℕ) → ℕ
number_on (Listed keys) width x y = entry_number (table_entries (Listed keys)) width x y
number_on (Found t) width x y =
    number_as (nat_eq t.width width) t (table_entries (Found t)) width x y

-- in a row and the row below it a search found no key from one column to another
abbrev pub IsBeyond : Entries → (width left right y : ℕ) → Type 0
IsBeyond entries width left right y =
    (b : Option Beyond)
    × ((i j : ℕ) → left ≤ i → i ≤ right → y ≤ j → j ≤ y + 1
    → number_on entries width i j ≡ beyond_number b i j)
