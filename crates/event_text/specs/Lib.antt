-- What has to be believed, in the order in which to read it: each promise of the crate is made in
-- these words, and in those of `model`.

-- the grammar of a text of events, and which headers are taken
pub mod EventText
-- the faults of a text of events, and where each stands
pub mod EventFault
-- the words in which a fault is told
pub mod FaultWords
-- the version of a text, and its events up to its first fault
pub mod FirstEvents
-- what reading a text event by event leaves
pub mod Taking
-- the text that is written for replies
pub mod ReplyText
-- the text that is written for events
pub mod EventLine
-- The code's own words, of which no promise speaks.
pub mod Code
-- What follows from these definitions, each with its proof: proofs of other crates cite it, and
-- nothing of it has to be believed.
pub mod Laws
