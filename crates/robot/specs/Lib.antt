-- What has to be believed of the crate, beside the definitions of the crates below it, in the order
-- in which to read it.

-- what a file takes
pub mod Stored
-- the tape in a file
pub mod FileTape
-- and one that a guard watches
pub mod GuardedTape
-- what an input line asks of an agent
pub mod Requests
-- when a message shows that a tape is an older one
pub mod Stale
-- how an agent answers a line
pub mod Turns
-- what a whole dialogue comes to
pub mod Dialogue
-- the words in which it is told that there is no tape, or that a dialogue ended early
pub mod FaultWords
-- the code's own words
pub mod Code
-- What follows from these definitions, each with its proof: proofs of other crates cite it, and
-- nothing of it has to be believed.
pub mod Laws
