-- What has to be believed, in the order in which to read it: each promise of the crate is made in
-- these words.

-- the tag of a text by a key
pub mod Hmac
-- what is sent of a message
pub mod Letters
-- which letters are taken, and why others are dropped
pub mod Verifying
-- what one process takes of letters, one after another
pub mod Hearing
-- how a sender counts, through kills and power cuts
pub mod Counting
-- what a sender seals
pub mod Sealing
