-- The code's own words: what bodies and proofs speak of, and no promise.

-- what the parts of `mapf deps` owe each other
pub mod Dependencies
-- the cells of all agents, time by time, as the code goes through them
pub mod Rows
-- agents on their way, with their acts in blocks of steps
pub mod Walks
-- the numbers of cells as they are written
pub mod Numerals
-- the first bad move of an agent, and of all agents
pub mod Straying
