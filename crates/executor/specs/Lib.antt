-- What has to be believed of the crate, beside the definitions of `model` and `agent`, in the order
-- in which to read it.

-- the tape that tears where it is told to
pub mod SimTape
-- messages as they are kept
pub mod SaidMessages
-- of whom an agent has heard
pub mod Hearing
-- what a runner is, and at which history it stands
pub mod Standing
-- what is promised of every run
pub mod SafeRuns
-- how a run ends, or what blocks it
pub mod Endings
-- the words of why a run is not completed
pub mod FaultWords
-- the code's own words
pub mod Code
-- What follows from these definitions, each with its proof: proofs of other crates cite it, and
-- nothing of it has to be believed.
pub mod Laws
