-- What follows from the definitions.
-- a line spells one node
pub mod NodeSpelling
-- a right line is short, is right in one way, and has no fault
pub mod RightLines
-- no fault is decided among right lines
pub mod Decided
-- what a reader of a proof answers, by the lines that it took
pub mod Reading
