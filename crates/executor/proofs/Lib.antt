-- Lemmas that several proofs share.
pub mod SimLemmas
pub mod OtherLemmas
pub mod StoreLemmas
pub mod RestartLemmas
pub mod MessageLemmas
pub mod GoesLemmas
pub mod SayLemmas
pub mod DeliverLemmas
pub mod CrewLemmas
pub mod SaidLemmas
pub mod BlockLemmas
pub mod NeedLemmas
pub mod LeadLemmas
pub mod EndingLemmas
pub mod ChainLemmas
pub mod ArrivalLemmas
