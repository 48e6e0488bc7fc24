-- Lemmas on the command line.
mod Stops
mod Filled
mod RequiredWords
mod Taken
mod Named
