-- What has to be believed: each promise of the crate is made in these words, and in those of
-- `model` and `least_steps`.

-- what plans cost at least
pub mod Bounding
-- The code's own words, of which no promise speaks.
pub mod Code
