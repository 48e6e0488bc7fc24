-- The code's own words: what bodies and proofs speak of, and no promise.

-- what is read for one agent
pub mod Reading
-- what the parts of the opening of a tape file owe each other
pub mod Parts
-- and those that keep a plan beside it
pub mod Plans
-- and of `mapf tape`
pub mod Reports
