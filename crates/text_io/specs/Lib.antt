-- What has to be believed, in the order in which to read it: each promise of the crate is made in
-- these words.

-- LF, CR, blanks, digits, and the lines of a text
pub mod Text
-- numbers as they are written
pub mod Numerals
-- places in a text, what a fault at a place is, and what a reader of any format owes
pub mod Reading
-- the names of all faults, and the words in which a fault is told
pub mod FaultName
pub mod FaultWords
-- what a writer of any format owes
pub mod Writing
-- what is counted of a reader or a writer
pub mod Counted
-- what a source has at hand, and what a call takes of it
pub mod Source
-- what taking a source line by line leaves
pub mod Lines
-- what a sink holds back, and what a call hands on
pub mod Sink
-- What follows from these definitions, each with its proof: proofs of other crates cite it, and
-- nothing of it has to be believed.
pub mod Laws
