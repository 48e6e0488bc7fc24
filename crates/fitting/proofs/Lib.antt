-- Lemmas on agents and the rows of their numbers.
mod FitLemmas
