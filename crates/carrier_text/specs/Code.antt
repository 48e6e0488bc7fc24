-- The code's own words: what bodies and proofs speak of, and no promise.

-- numbers and cells in the words of a report
pub mod Coordinates
