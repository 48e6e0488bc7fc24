-- What has to be believed of the crate, beside the definitions of `model` and `depgraph`, in the
-- order in which to read it.

-- which bytes are no message, and why
pub mod Decoding
-- what bytes tell, at either version
pub mod Tellings
-- what bytes are read as
pub mod Reading
-- what a tape is, and what its reads and writes may come to
pub mod Tape
-- the records of a tape
pub mod Records
-- the tape in memory
pub mod MemTape
-- the records that an agent writes
pub mod DueRecords
-- the tape that counts them
pub mod CountedTape
-- what an agent has heard
pub mod Counters
-- what an agent's state is, and what each call answers and leaves
pub mod States
-- what the tape of an agent keeps
pub mod Owning
-- an agent over a tape
pub mod Agents
-- how far ahead its way is free
pub mod Ahead
-- which tapes are opened, and why the others are not
pub mod Opening
-- the words in which the refusal of a tape is told
pub mod FaultWords
-- what an agent answers, as replies to events
pub mod Replies
-- the code's own words
pub mod Code
