-- Lemmas that several proofs share.
pub mod AnswerLemmas
pub mod ReplyLemmas
pub mod HandingLemmas
pub mod EndingLemmas
