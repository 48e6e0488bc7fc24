-- What has to be believed of the crate, beside the definitions of `model`.

-- when a plan goes on from another
pub mod Continuing
-- what is answered where one is asked to
pub mod Departing
-- and in which words
pub mod FaultWords
-- how many moves a plan adds
pub mod Adding
-- What contracts of private functions say, and only their proofs need.
pub mod Code
-- What follows from these definitions, each with its proof: proofs of other crates cite it, and
-- nothing of it has to be believed.
pub mod Laws
