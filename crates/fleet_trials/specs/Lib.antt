-- Examples of what `fleet` defines.
pub mod Examples
-- Lines that were read and written, as `transcripts` has them.
pub mod ReadAndWritten
