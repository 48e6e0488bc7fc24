-- What has to be believed, in the order in which to read it: each promise of the crate is made in
-- these words, and in those of `planned`, `checker`, `bounding` and `text_commands`.

-- the words of why a plan is not accepted
pub mod FaultWords
-- what is written for a plan that was checked
pub mod VerdictText
-- what is written for all of its faults
pub mod FaultsText
-- what `mapf check` does and answers
pub mod CheckCommand
-- what `mapf bound` does and answers
pub mod BoundCommand
-- The code's own words, of which no promise speaks.
pub mod Code
