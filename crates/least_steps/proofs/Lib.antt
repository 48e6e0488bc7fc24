-- diagonal steps, by the straight ones beside them
mod DiagonalLemmas
-- the eight steps by their numbers, and sets of them
mod StepLemmas
-- lists in which one is added or replaced
mod ListLemmas
-- what a search knows
mod ExplorationLemmas
-- and what waits
mod WaitingLemmas
-- that no step from a cell is forgotten
mod LeavingLemmas
-- behind each step
mod OnwardLemmas
-- that the answer is the least
mod AnswerLemmas
-- whose number is that of the fewest steps, or of the shortest length
mod LeastLemmas
