-- What has to be believed: each promise of the crate is made in these words, and in those of
-- `runner` and `text_commands`.

-- what `mapf run` does and answers
pub mod RunCommand
