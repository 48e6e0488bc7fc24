-- What has to be believed of the crate, beside the definitions of `model` and `agent`, in the order
-- in which to read it.

-- what an agent of a fleet was asked and answered, and what befell it
pub mod Deeds
-- what a whole fleet did
pub mod Fleets
-- what was refused, and nobody of the fleet had said
pub mod Unsaid
-- when a fleet is safe
pub mod FleetSafety
-- what a fleet did as a run
pub mod Retelling
-- where one agent stands at a run
pub mod Members
-- what has to happen so that a fleet comes on
pub mod Rounds
-- what a fleet did whose processes run by plans of their own
pub mod OwnPlans
-- where drives may be that go ahead of their agents' tapes
pub mod Ahead
-- What follows from these definitions, each with its proof: proofs of other crates cite it, and
-- nothing of it has to be believed.
pub mod Laws
