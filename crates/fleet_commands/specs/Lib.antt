-- What has to be believed, in the order in which to read it: each promise of the crate is made in
-- these words, and in those of
-- `planned`, `agent_commands` and `text_commands`.

-- what the tapes of all agents were found to have
pub mod FoundTapes
-- what keeps each agent by that, and who keeps whom
pub mod Standing
-- who waits for whom, directly or through others
pub mod Waiting
-- what is made of numbers in turn
pub mod Turns
-- what is left of a plan
pub mod LeftPlan
-- what that has of the old one
pub mod LeftWays
-- what shows that the tapes are not those of one run
pub mod OneRun
-- in which cells a robot may be that is lost
pub mod LostPlaces
-- what the plans beside them come to
pub mod PlansBeside
-- what is written of it
pub mod StatusText
-- what `mapf status` does and answers
pub mod StatusCommand
-- at which time a plan may be cut by that
pub mod CutTimes
-- why it isn't handed over, in words
pub mod FaultWords
-- what `mapf handover` does and answers
pub mod HandoverCommand
-- what `mapf lost` does and answers
pub mod LostCommand
-- what `mapf anew` does and answers
pub mod AnewCommand
-- What contracts of private functions say.
pub mod Code
