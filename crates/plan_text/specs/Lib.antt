-- What has to be believed, in the order in which to read it: each promise of the crate is made in
-- these words, and in those of `model`.

-- the limits that every plan keeps
pub mod Limits
-- the grammar of a plan's text, and the one text that is written
pub mod PlanText
-- the faults of a plan's text, and where each stands
pub mod PlanTextFault
-- the words in which a fault is told
pub mod FaultWords
-- The code's own words, of which no promise speaks.
pub mod Code
