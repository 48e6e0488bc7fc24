-- What has to be believed, in the order in which to read it: each law of the crate, and each
-- promise of the crates above that speaks of plans and runs, is made in these words.

-- who stands where and when: tracks, paths, moves and their steps
pub mod Timetable
-- what a plan costs, when its tracks end at rest, and when it solves given tasks
pub mod Costs
-- what a plan is, which faults it has, and when it is valid
pub mod Plan
-- which move waits for which: needs, visits and rotations
pub mod Dependency
-- what a message tells, and its bytes
pub mod Messages
-- what has happened in a run, and what follows from it
pub mod History
-- a reply as the answer that it gives
pub mod Replies
-- what each event is answered with, and what a run is
pub mod Rules
-- what every message of a run tells
pub mod Speech
-- what an agent holds and where it walked, and when a run is safe
pub mod Safety
-- what completes a run, and what blocks it
pub mod Completion
-- what brings agents on that are ready for it
pub mod Ready
-- the words of the faults of plans and of messages
pub mod FaultWords
-- small plans and runs, and what has to come out
pub mod Examples
-- What follows from these definitions, each with its proof: proofs of other crates cite it, and
-- nothing of it has to be believed.
pub mod Laws
