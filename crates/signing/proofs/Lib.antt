-- Lemmas that several proofs share.
pub mod HearingLemmas
pub mod CountLemmas
