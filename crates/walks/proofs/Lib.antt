-- Lemmas that several proofs share.
pub mod KeyLemmas
pub mod KeyNumbers
pub mod RoundingLemmas
pub mod DistanceLemmas
pub mod TileLemmas
pub mod TightTables
pub mod TableLemmas
pub mod WalkLemmas
