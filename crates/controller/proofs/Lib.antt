-- Lemmas that several proofs share.

-- places on a path
pub mod PlaceLemmas
-- what an agent's calls come to for its loop
pub mod StepLemmas
-- when what is due
pub mod DueLemmas
-- what a loop does, and its agent's deeds
pub mod DeedLemmas
-- in which place a drive is
pub mod DriveLemmas
-- what a loop does of itself
pub mod OrderLemmas
-- a fleet goes on as one
pub mod FleetLemmas
-- a turn stores something
pub mod TurnLemmas
