-- What has to be believed, in the order in which to read it: each promise of the crate is made in
-- these words, and in those of
-- `planned`, `optimality`, `proof_text` and `text_commands`.

-- what is written of a proof
pub mod ShownText
-- what `mapf optimal` does and answers
pub mod OptimalCommand
-- what is shown of a leaf for which a proof is refused
pub mod LeafShown
-- The code's own words, of which no promise speaks.
pub mod Code
