-- What follows from the definitions.
-- no more events came, whatever the version is called
pub mod Stopping
