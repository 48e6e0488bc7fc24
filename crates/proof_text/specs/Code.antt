-- The code's own words: what bodies and proofs speak of, and no promise.

-- how the line of a node is cut, and what its parts are
pub mod NodeParts
-- why the reader of a proof refuses a line
pub mod ProofReading
