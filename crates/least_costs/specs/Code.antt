-- The code's own words, of which no promise speaks.

-- how far two cells are apart
pub mod Places
-- how far a cell is from a goal, at least
pub mod Tables
-- which straight steps are legal from each cell of a map
pub mod Ways
-- what a search knows of each cell
pub mod Marks
-- how far a search from a goal toward a start has come
pub mod GoalSearches
-- where walks may be at a time
pub mod States
-- the slots by which each state is closed once
pub mod Slots
-- what is asked of a walk, by times
pub mod Ruling
-- how far a search has come, and what its steps come to
pub mod Searching
