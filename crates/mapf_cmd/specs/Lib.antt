-- What has to be believed: each promise of the crate is made in these words, and in those of
-- `command_line`, `explain` and the crates of the commands.

-- what the program does with its words
pub mod Program
