-- Lemmas that several proofs share.
pub mod CostLemmas
pub mod Visited
pub mod WalkedLemmas
pub mod CompletionLemmas
pub mod ExampleFaults
