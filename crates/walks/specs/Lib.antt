-- What has to be believed, in the order in which to read it: each promise of the crate is made in
-- these words, and in those of `scenario`.

-- walks on a map, and which are shortest
pub mod Walk
-- which certificates are accepted, and what an accepted one proves
pub mod Certificate
-- when a search refuses its cells
pub mod Search
-- the words in which a fault is told
pub mod FaultWords
-- The code's own words, of which no promise speaks.
pub mod Code
-- What follows from these definitions, each with its proof: proofs of other crates cite it, and
-- nothing of it has to be believed.
pub mod Laws
