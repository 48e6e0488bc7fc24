-- Lemmas of several files.
pub mod ReadLemmas
mod DialogueLemmas
mod InputLemmas
mod StaleLemmas
mod TurnLemmas
