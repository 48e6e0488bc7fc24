-- What has to be believed, in the order in which to read it: each promise of the crate is made in
-- these words, and in those of `scen`.

-- the least number of straight steps
pub mod LeastSteps
-- the words in which a fault is told
pub mod FaultWords
-- The code's own words, of which no promise speaks.
pub mod Code
-- What follows from these definitions, each with its proof: proofs of other crates cite it, and
-- nothing of it has to be believed.
pub mod Laws
