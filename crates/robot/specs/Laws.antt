-- What follows from the definitions.
-- what is read piece by piece
pub mod Pieces
