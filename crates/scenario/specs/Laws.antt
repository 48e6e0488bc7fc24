-- What follows from the definitions.
-- the same added to two lengths
pub mod LengthSums
