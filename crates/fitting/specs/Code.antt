-- The code's own words: what bodies and proofs speak of, and no promise.

-- what is answered of an agent and the row of its number
pub mod Rows
