-- What has to be believed of the crate, beside the definitions of the crates below it, in the order
-- in which to read it.

-- what a map, a plan and events come to, as texts
pub mod Replaying
-- and how the run ends
pub mod Completing
-- the words of why a run is not replayed to its end
pub mod FaultWords
-- The code's own words, of which no promise speaks.
pub mod Code
