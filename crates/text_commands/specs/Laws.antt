-- What follows from the definitions.
-- progress that says nothing
pub mod Progress
