-- Lemmas that several proofs share.
pub mod EventLemmas
pub mod LineLemmas
pub mod LeadingLemmas
pub mod HeaderLemmas
pub mod FirstLemmas
pub mod TextScanned
pub mod TextRead
pub mod OneReading
pub mod OneText
pub mod EventsRead
pub mod ReplyLemmas
