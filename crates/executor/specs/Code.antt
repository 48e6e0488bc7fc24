-- The code's own words: what bodies and proofs speak of, and no promise.

-- an agent whose own tape was opened again
pub mod Reopening
-- which entries notes name
pub mod Notes
-- what an agent tells
pub mod Telling
-- where events lead that bring agents to their ends
pub mod Leading
-- agents that wait for one another meanwhile
pub mod Waiting
