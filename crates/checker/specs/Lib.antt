-- What has to be believed, in the order in which to read it: each promise of the crate is made in
-- these words, and in those of `model` and `plan_text`.

-- what a checked plan is, and what a checker answers
pub mod Checking
-- where agents may start, and where an act leads
pub mod Moving
-- the one list of all faults of a plan, and the first of them
pub mod AllFaults
-- The code's own words, of which no promise speaks.
pub mod Code
-- What follows from these definitions, each with its proof: proofs of other crates cite it, and
-- nothing of it has to be believed.
pub mod Laws
