-- Lemmas that several proofs share.
pub mod CourseLemmas
pub mod ApartLemmas
pub mod ElsewhereLemmas
pub mod CutLemmas
pub mod TrackedLemmas
pub mod AddingLemmas
pub mod CopyLemmas
