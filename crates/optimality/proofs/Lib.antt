-- which child a plan falls under
mod SplittingLemmas
-- each agent of a valid plan walks by itself
mod WalkerLemmas
-- which plans are still to be judged
mod CoverLemmas
