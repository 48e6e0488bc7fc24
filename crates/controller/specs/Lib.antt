-- What has to be believed, in the order in which to read it: each promise of the crate is made in
-- these words.

-- places on an agent's path, and which of them a report fits
pub mod Places
-- what a control loop keeps beside its agent, and what it does next
pub mod Controls
-- a robot: its agent, and what its control loop keeps
pub mod Robots
-- what a control loop does of itself, and what it answers
pub mod Steps
-- what happens to a robot, one thing after another
pub mod Loops
-- what has to happen to robots so that a fleet comes on
pub mod Turns
