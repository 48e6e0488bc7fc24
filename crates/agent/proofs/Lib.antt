-- Lemmas that several proofs share.
pub mod RecordLemmas
pub mod CountedLemmas
pub mod CounterLemmas
pub mod MergeLemmas
pub mod OwnLemmas
pub mod AheadLemmas
pub mod SpellingLemmas
pub mod ToldLemmas
pub mod TakingLemmas
pub mod TellLemmas
pub mod PutLemmas
