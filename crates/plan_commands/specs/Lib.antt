-- What has to be believed, in the order in which to read it: each promise of the crate is made in
-- these words, and in those of
-- `model`, `planned` and `text_commands`.

-- the words of why no positions are written, or a plan continues no other
pub mod FaultWords
-- what is written of a timetable's dependencies
pub mod DepsText
-- what is written of the visits of a cell
pub mod CellVisitsText
-- which plans can be walked, agent by agent, and what is wrong with the others
pub mod Walkable
-- where the agents are at each time, and what is written of it
pub mod PathText
-- what the commands over a map and a plan alone do and answer
pub mod PlanQueries
-- what `mapf continues` does and answers
pub mod ContinuesCommand
-- The code's own words, of which no promise speaks.
pub mod Code
