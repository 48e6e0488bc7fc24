-- What has to be believed, in the order in which to read it: each promise of the crate is made in
-- these words, and in those of the crates below.

-- the words of why an agent does not answer its input to the end
pub mod FaultWords
-- what is done to files
pub mod FileDeeds
-- the plan beside a tape
pub mod KeptPlan
-- what `mapf agent` does and answers
pub mod AgentCommand
-- what `mapf tape` does and answers
pub mod TapeCommand
-- The code's own words, of which no promise speaks.
pub mod Code
