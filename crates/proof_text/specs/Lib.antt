-- What has to be believed, in the order in which to read it: each promise of the crate is made in
-- these words, and in those of
-- `optimality` and `model`.

-- the grammar of a proof's lines
pub mod ProofLines
-- which lines are right, one after another, and which text is a proof that holds
pub mod ProofText
-- the faults of a proof, and where each stands
pub mod ProofFault
-- the words in which a fault is told
pub mod FaultWords
-- The code's own words, of which no promise speaks.
pub mod Code
-- What follows from the definitions.
pub mod Laws
