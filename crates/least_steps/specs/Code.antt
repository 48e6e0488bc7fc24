-- The code's own words, of which no promise speaks.

-- what a walk takes at least
pub mod Estimate
-- the eight steps by their numbers
pub mod Steps
-- walks by their numbers, and the cells that a search has reached
pub mod Reaching
-- what it keeps while it goes on
pub mod Exploring
-- and the places where it is to go on
pub mod Waiting
