-- What follows from the definitions.
-- walks by their numbers, step by step, and what they take at least
pub mod Ways
