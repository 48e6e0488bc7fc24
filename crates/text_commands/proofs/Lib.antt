-- Lemmas on commands that write a text.
mod RowVerdictPuts
mod RowAnswers
mod Refusals
mod RowsLemmas
mod RowsEndings
