-- What follows from the definitions.
-- what the lines of a text are, from how it is put together, and back
pub mod Lines
-- a place in a text is told by its lines
pub mod Places
-- what calls on a source take, one after another
pub mod Taking
-- how far the calls on a sink have come with a text
pub mod Putting
-- words as one text
pub mod Words
-- the bytes at the front of some that pass a test
pub mod Runs
-- numbers as they are written: each has one spelling
pub mod Numerals
-- parts of a line, between its spaces
pub mod Parts
-- a list with one element in the place of another
pub mod Lists
