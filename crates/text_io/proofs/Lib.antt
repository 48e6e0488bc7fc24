-- Lemmas that several proofs share.
mod SinkLemmas
mod LineTaking
mod PairLemmas
mod NumeralLemmas
