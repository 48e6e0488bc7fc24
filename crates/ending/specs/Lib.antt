-- What has to be believed, in the order in which to read it: each promise of the crate is made in
-- these words, and in those of `text_io`.

-- the exit statuses, and which one a fault ends with
pub mod Status
-- what a command says of a fault
pub mod Telling
-- how a command ends, and what of that is told
pub mod Ending
-- how a command ends that wrote a text
pub mod Finishing
-- what a command does that reads a text and writes it in canonical form
pub mod Rewriting
-- texts of words and numbers
pub mod Pieces
-- What follows from these definitions, each with its proof: proofs of other crates cite it, and
-- nothing of it has to be believed.
pub mod Laws
