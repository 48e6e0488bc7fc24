-- The code's own words, of which no promise speaks.

-- numbers that rise
pub mod Rising
-- what is asked, and what was found under it
pub mod Trails
-- the nodes that are due
pub mod Stack
-- what the lines so far said
pub mod Progressing
-- what was read of a proof, line by line
pub mod LinesRead
-- what is asked of each agent, beside what it costs at least
pub mod AgentsAsked
