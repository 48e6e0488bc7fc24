-- The code's own words: what bodies and proofs speak of, and no promise.

-- when an agent comes into the cells of its path
pub mod Arrivals
-- the paths of all agents in one list
pub mod Paths
-- the track that a path and its times tell
pub mod Tracks
-- places of elements that are sorted by a key
pub mod Ranks
-- where the cells of paths stand
pub mod Entries
-- all of them by time
pub mod Schedules
-- numbers of cells
pub mod Numbers
-- how they are hashed
pub mod CellHashes
-- where they stand
pub mod Tiles
-- cells that are kept as numbers
pub mod Numbering
-- their order of first visit
pub mod Orders
-- visits in their places
pub mod Placing
-- what the moves wait for
pub mod Waits
-- the same, along the times
pub mod Following
-- who comes into shared cells, and when
pub mod Meetings
-- visits that are sorted part after part
pub mod Parts
-- what a graph keeps
pub mod Keeping
-- what is kept of it for one agent
pub mod Shares
-- the cycles of entries that follow one another
pub mod Cycles
-- what leads from one entry to the next
pub mod Links
-- who moves into whose cell in a step
pub mod Turning
-- what is made of a plan before its rotations are sought
pub mod Laying
