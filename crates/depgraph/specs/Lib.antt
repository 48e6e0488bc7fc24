-- What has to be believed of the crate, beside the definitions of `model`, in the order in which to
-- read it.

-- what a graph says of an agent: its path, and the step and the need of each of its moves
pub mod Routes
-- all visits, by cells in order of first visit
pub mod Visits
-- all rotations, in order
pub mod Rotations
-- what every graph keeps
pub mod Graphs
-- what one agent needs of a graph
pub mod AgentParts
-- the code's own words
pub mod Code
-- What follows from these definitions, each with its proof: proofs of other crates cite it, and
-- nothing of it has to be believed.
pub mod Laws
