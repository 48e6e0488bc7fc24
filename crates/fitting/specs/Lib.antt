-- What has to be believed, in the order in which to read it: each promise of the crate is made in
-- these words, and in those of `model`,
-- `scenario` and `checker`.

-- when a plan solves the first rows of a scenario, and why not
pub mod Fitting
-- the words of why not
pub mod FaultWords
-- The code's own words, of which no promise speaks.
pub mod Code
