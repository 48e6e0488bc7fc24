-- The code's own words: what bodies and proofs speak of, and no promise.

-- how far a line of a map's header has come
pub mod HeaderLine
-- what the reader of a map has taken of its source
pub mod Following
-- which terrains a straight step joins, by their characters
pub mod Joining
