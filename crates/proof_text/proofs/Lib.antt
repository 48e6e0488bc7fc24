-- how the line of a node is cut at its spaces
pub mod PartLemmas
-- what a proof's tree covers, line by line
pub mod ClaimLemmas
