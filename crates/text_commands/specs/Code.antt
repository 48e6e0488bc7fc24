-- The code's own words: what bodies and proofs speak of, and no promise.

-- how many rows there are of each kind, as they are counted
pub mod Tallies
-- what judging rows owes, one after another
pub mod Judging
-- how the command ends by what came of them
pub mod RowsEnding
