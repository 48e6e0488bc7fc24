-- The code's own words, of which no promise speaks.

-- what was found for one agent
pub mod Searching
