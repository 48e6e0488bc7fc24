-- The code's own words: what bodies and proofs speak of, and no promise.

-- where a runner stands behind the events of a text
pub mod Standing
-- how the end of a run is put
pub mod Ending
-- how what was put is handed on
pub mod HandingOn
