-- What has to be believed, in the order in which to read it: each promise of the crate is made in
-- these words.

-- the grammar of an input line
pub mod CarrierLines
-- the lines of an answer
pub mod AnswerLines
-- The code's own words, of which no promise speaks.
pub mod Code
