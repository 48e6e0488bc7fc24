-- Lemmas on what is written for plans.
mod PlainText
mod ToldLemmas
mod FaultsLemmas
mod BoundLemmas
mod EndingLemmas
