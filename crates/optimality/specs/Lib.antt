-- What has to be believed, in the order in which to read it: each promise of the crate is made in
-- these words, and in those of `model`.

-- what is asked of the agents' walks
pub mod Constraints
-- what an agent costs at least under what is asked of it
pub mod Walkers
-- how a node splits the valid plans
pub mod Splitting
-- which plans are still to be judged while a tree is read, and when a leaf stands
pub mod Judging
