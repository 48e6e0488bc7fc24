-- Lemmas on what is written for plans, and on walks and their text.
mod DepsLemmas
mod DepsPuts
mod VisitLines
mod StrayLemmas
mod RowLemmas
mod WalkLemmas
mod CellLemmas
mod ContinuesLemmas
mod PathLines
mod NumeralLemmas
mod AskedLemmas
