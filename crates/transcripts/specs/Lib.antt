-- What has to be believed of the crate, beside the definitions of `fleet` and `robot`, in the order
-- in which to read it.

-- what one process of an agent did
pub mod Processes
-- what all processes of a fleet read and wrote, in one order in time
pub mod Transcripts
