-- What has to be believed, in the order in which to read it: each promise of the crate is made in
-- these words, and in those of `optimality`.

-- what a caller sees of a table of steps to a goal
pub mod GoalView
-- The code's own words, of which no promise speaks.
pub mod Code
