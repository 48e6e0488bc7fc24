-- a valid plan leads by walks
mod LeadingLemmas
-- and the bounds of all its agents hold together
mod BoundLemmas
