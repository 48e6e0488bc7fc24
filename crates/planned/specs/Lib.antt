-- What has to be believed, in the order in which to read it: each promise of the crate is made in
-- these words, and in those of `model`, `grid`,
-- `plan_text` and `plan`.

-- what is read of a map and a plan
pub mod Planned
-- the words of why there is no checked plan
pub mod FaultWords
