-- The code's own words: what bodies and proofs speak of, and no promise. Squares, OrderLaws and
-- ComparisonLaws are the proofs of the laws of `Ord` and `PartialOrd`: an `impl` names them, and
-- may name nothing of proofs/.

-- the order of lengths as a comparison that computes; the law `comparison_of_lengths` says what it
-- means
pub mod Comparison
pub mod Squares
pub mod OrderLaws
pub mod ComparisonLaws
-- what the parts of a line are seen as
pub mod Parsing
-- a line that is at hand
pub mod AtHand
