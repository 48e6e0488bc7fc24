-- Lemmas that several proofs share.
pub mod TrimLemmas
pub mod FieldLemmas
pub mod NumberLemmas
pub mod ShortLemmas
pub mod ListedLemmas
pub mod OrderLemmas
pub mod RowLemmas
pub mod ReadRowLemmas
pub mod VersionLemmas
pub mod JudgedLines
pub mod TextScanned
pub mod TextFaults
pub mod AtHandLemmas
pub mod LinesRead
pub mod DigitLemmas
pub mod LinePuts
pub mod WrittenLemmas
