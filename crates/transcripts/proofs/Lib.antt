-- Lemmas that several proofs share.

-- what a deed leaves on its agent's tape
pub mod Growing
-- what lines say of messages
pub mod Spelling
-- what is seen of an agent as steps
pub mod Stepping
-- what processes did, as steps
pub mod ProcessLemmas
-- what is seen of all agents, as what their fleet did
pub mod FleetLemmas
-- dialogues as processes, and processes that end sooner
pub mod DialogueLemmas
-- what processes of a chain were told to be free
pub mod FreeLemmas
-- what was seen up to a moment
pub mod MomentLemmas
