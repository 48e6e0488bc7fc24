-- The code's own words: what bodies and proofs speak of, and no promise.

-- how a record differs from the one that is due
pub mod Differences
-- entries as bytes spell them, or as a list
pub mod Listing
-- counters raised by entries, both going forward
pub mod Merging
-- where the counter of an agent is, or would go
pub mod Places
-- a reading of records that stopped
pub mod Stops
-- what an agent takes of a message
pub mod Taking
-- the entries that counters tell
pub mod Told
