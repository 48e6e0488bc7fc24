-- What contracts of private functions say.
pub mod Apart
