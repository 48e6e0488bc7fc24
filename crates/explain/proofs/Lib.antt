-- what calls on a sink leave of what was written
pub mod GoingOn
