-- The code's own words: what bodies and proofs speak of, and no promise.

-- how the reader of a plan goes from line to line
pub mod PlanLines
