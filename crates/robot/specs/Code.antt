-- The code's own words: what bodies and proofs speak of, and no promise.

-- what was taken of the input, and what it asks for
pub mod Reading
-- what a message tells its hearer of itself
pub mod Telling
-- one line that is answered, and one after another
pub mod Turning
-- the line of an answer, and sending it
pub mod Answering
