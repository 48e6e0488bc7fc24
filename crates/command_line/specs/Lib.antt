-- What has to be believed: each promise of the crate is made in these words, and in those of clap.

-- the command line: which words are which command
pub mod Words
-- The code's own words, of which no promise speaks.
pub mod Code
