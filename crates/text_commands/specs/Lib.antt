-- What has to be believed, in the order in which to read it: each promise of the crate is made in
-- these words, and in those of `ending`,
-- `grid` and `scen`.

-- the words of why a row has no answer
pub mod FaultWords
-- `mapf map` and `mapf scen`: what a command does that reads a text and writes it in canonical
-- form, or a map with a cell out of bounds
pub mod TextQueries
-- which exit status the verdict on a row ends with
pub mod RowStatus
-- what `mapf row` does and answers
pub mod RowCommand
-- what `mapf rows` does and answers
pub mod RowsCommand
-- The code's own words, of which no promise speaks.
pub mod Code
-- What follows from these definitions, each with its proof: proofs of other crates cite it, and
-- nothing of it has to be believed.
pub mod Laws
