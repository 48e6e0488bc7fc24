-- The code's own words: what bodies and proofs speak of, and no promise.

-- what the parts of the reading of the command line owe each other
pub mod Parts
