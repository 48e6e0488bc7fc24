-- What follows from the definitions.
-- timetables that agree up to a time
pub mod Agreeing
