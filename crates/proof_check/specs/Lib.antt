-- What has to be believed, beside the words of `optimality` and `proof_text`.

-- what a leaf asks of the agents, and what they cost at least under that
pub mod Leaf
-- The code's own words, of which no promise speaks.
pub mod Code
