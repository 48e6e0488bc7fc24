-- Lemmas that several proofs share.
pub mod LimitLemmas
pub mod SpellingLemmas
pub mod WrittenLemmas
pub mod LineDecisions
pub mod JudgedLines
pub mod TextScanned
pub mod LineSays
pub mod TextRead
pub mod CoursePuts
pub mod PartLemmas
pub mod AgentAdded
pub mod LinesRead
