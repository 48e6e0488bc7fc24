-- The code's own words: what bodies and proofs speak of, and no promise.

-- verdicts, as JSON values too
pub mod Verdicts
-- what is put of faults, one after another
pub mod Listing
-- a plan that was read and checked on its map
pub mod OnMap
-- what is put of agents, with what they cost and at least
pub mod Bounds
