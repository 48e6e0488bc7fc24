-- Lemmas on texts that are put.
mod LineParts
