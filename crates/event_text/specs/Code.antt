-- The code's own words: what bodies and proofs speak of, and no promise.

-- how an event is told from its line
pub mod EventLines
