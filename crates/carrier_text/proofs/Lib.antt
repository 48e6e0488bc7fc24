-- Lemmas that several proofs share.
pub mod CoordinateLemmas
pub mod OneEvent
pub mod WayLemmas
