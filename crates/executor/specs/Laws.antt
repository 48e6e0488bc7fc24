-- What follows from the definitions.
-- every run at which a runner stands is safe
pub mod Safe
