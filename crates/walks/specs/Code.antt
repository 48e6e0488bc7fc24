-- The code's own words: what bodies and proofs speak of, and no promise.

-- lengths as single numbers
pub mod KeyParts
-- how far apart two cells are, and what stands for the keys that a search didn't find
pub mod Distances
-- the least length that is not below a number
pub mod Rounding
-- what the tiles of a search say of each cell
pub mod TileKeys
-- what a table says of each place, and of each cell
pub mod TableEntries
-- which steps each block of four cells tests
pub mod Tightness
