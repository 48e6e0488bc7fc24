-- What follows from the definitions.
-- the numbers of lengths are ordered as the lengths are
pub mod KeyOrder
-- a step changes the distance to a goal by no more than its length
pub mod OctileSteps
