-- What has to be believed, in the order in which to read it: each promise of the crate is made in
-- these words.

-- the kinds of terrain, their characters, and which a straight step joins
pub mod Terrain
-- a map as its width, height and terrain, its limits, and the legal steps
pub mod Map
-- the grammar of a map's text, and the one text that is written
pub mod MapText
-- the faults of a map's text, where each stands, and the words in which it is told
pub mod MapFault
-- The code's own words, of which no promise speaks.
pub mod Code
