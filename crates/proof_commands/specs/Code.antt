-- The code's own words: what bodies and proofs speak of, and no promise.

-- what a proof shows
pub mod Showing
