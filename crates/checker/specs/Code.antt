-- The code's own words: what bodies and proofs speak of, and no promise.

-- the track of an agent, by its acts
pub mod Tracks
-- where agents stand, as a list of cells
pub mod Standing
-- where the acts of a step lead, and which agents have one
pub mod Walking
-- a course without what the agent waits at its end
pub mod Resting
-- the squares of a board: the cells of a map, and a rim around them
pub mod Squares
-- what a step does to walkers, and to the squares among which they go
pub mod Crowd
-- which agents of a plan are under way, and where
pub mod UnderWay
-- blocks of steps, and who is under way in them
pub mod Blocks
-- what a checker has seen up to a time
pub mod Watching
-- where agents are, on the map or off it, and where their steps take them
pub mod Places
-- which agents take the same step, and which the opposite one
pub mod Links
-- the faults that were found up to a key
pub mod Known
-- the conflicts of one agent with those after it
pub mod Rows
-- marks of agents
pub mod Marks
