-- What follows from the definitions.
-- what one agent needs of a graph is what the timetable tells of it
pub mod AgentParts
-- two lists in one strict order that have the same elements are one
pub mod Rising
