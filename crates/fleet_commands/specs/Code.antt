-- What contracts of private functions say, and only their proofs need.

-- what is read
pub mod Reading
-- when moves have ended
pub mod Ends
