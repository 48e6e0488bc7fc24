-- What follows from the definitions.
-- where an agent is along its acts
pub mod Walking
-- the cells along the acts of a valid course
pub mod Courses
-- an agent that kept to its ground up to a time
pub mod Keeping
