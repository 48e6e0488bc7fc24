-- What follows from the definitions.
-- what an option that is some has
pub mod Options
-- tracks: their cells, moves and paths
pub mod Tracks
-- positions and cells
pub mod Places
-- who stood last in a cell, and what that asks
pub mod Needs
-- the entries of agents
pub mod Entries
-- what a later history has of an earlier one
pub mod Histories
-- how far agents have come in a run
pub mod Runs
-- what an event of one agent leaves of the others
pub mod Others
-- steps that lead round
pub mod Rounds
-- who waits for whom leads to a rotation
pub mod Waits
-- somebody can move, or there is a rotation
pub mod Stuck
-- a rotation never begins
pub mod Rotations
-- agents that are ready come on
pub mod Ready
-- events behind a history
pub mod After
