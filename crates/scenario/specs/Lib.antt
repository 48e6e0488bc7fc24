-- What has to be believed, in the order in which to read it: each promise of the crate is made in
-- these words.

-- the order of lengths, and when a listed one agrees
pub mod Length
-- the content of a line, and its fields
pub mod Fields
-- a row as its nine parts, its limits, and the text that is written
pub mod Query
-- the grammar of a scenario's text
pub mod ScenText
-- the faults of a scenario's text, and where each stands
pub mod ScenFault
-- the words in which a fault is told
pub mod FaultWords
-- The code's own words, of which no promise speaks.
pub mod Code
-- What follows from these definitions, each with its proof: proofs of other crates cite it, and
-- nothing of it has to be believed.
pub mod Laws
