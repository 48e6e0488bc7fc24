-- Lemmas that several proofs share.

-- a fleet before its last deed, and after one more
pub mod FleetLemmas
-- no deed goes past the end of the plan by which it is done
pub mod WithinLemmas
-- doings one behind the other, and which timetables fit them
pub mod LeadingOn
-- what was refused, and whether somebody had said it
pub mod UnsaidLemmas
-- what a fleet said, beside the messages of its run
pub mod SpelledLemmas
-- what agents begin, know and say, by their deeds alone
pub mod KnowsLemmas
-- where an agent's drive went, by the agent's deeds
pub mod WalkLemmas
-- a fleet is safe
pub mod SafeLemmas
-- nobody begins a move of a rotation
pub mod TurningLemmas
-- the messages of a plan that the checker accepts can tell its numbers
pub mod TellableLemmas
-- where one deed of an agent leads the run of its fleet
pub mod StepLemmas
-- what a fleet of one version did is a run
pub mod RunLemmas
-- rounds
pub mod RoundLemmas
-- a deed by one timetable as one by another that shares what is begun
pub mod SharedMoves
-- what a fleet did whose processes ran by plans of their own, as a fleet of the last one
pub mod OwnPlanLemmas
-- what was told to be free has its need met
pub mod AheadLemmas
