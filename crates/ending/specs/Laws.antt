-- What follows from the definitions.
-- how a command ends that writes a text
pub mod Ending
-- what is put of pieces
pub mod Pieces
