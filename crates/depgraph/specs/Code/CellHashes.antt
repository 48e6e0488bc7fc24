-- A hash of cells.
use Rattle.std.specs.Prelude.{ℕ, ◌+◌, ◌*◌, ◌/◌, ◌%◌, ◌^◌, List, [], ◌∷◌}
use Rattle.depgraph.specs.declared.cell_hash.TheConstants.{SCATTER}
use Rattle.depgraph.specs.declared.cell_hash.CellHashing.{CellHashing}
use Rattle.depgraph.specs.declared.cell_hash.CellHasher.{CellHasher}

abbrev pub new_hasher : CellHashing → CellHasher
new_hasher s = record { x = 0; y = 0 }

-- the last two numbers of 16 bits are kept
abbrev pub written : CellHasher → List ℕ → CellHasher
written h [] = h
written h (low ∷ []) = h
written h (low ∷ high ∷ []) = record { x = h.y; y = low + 256 * high }
written h (low ∷ high ∷ next ∷ bytes) = h

-- the cell's tile among those of 4 x 2, scattered over 64 bits
abbrev pub scattered : CellHasher → ℕ
scattered h = (h.y / 2 * 65536 + h.x / 4) * SCATTER % 2 ^ 64

-- the cell's tile, some more of it, and the place in it
abbrev pub finished : CellHasher → ℕ
finished h =
    scattered h / 2 ^ 40 + scattered h / 2 ^ 32 % 32 * 2 ^ 24 + (h.y % 2 * 4 + h.x % 4) * 2 ^ 29
