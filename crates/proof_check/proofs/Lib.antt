-- numbers that rise
mod RisingLemmas
-- what is asked, and what was found under it
mod TrailLemmas
-- what numbers come to
mod TotalLemmas
-- one thing after another
mod PushLemmas
-- the nodes that are due
mod StackLemmas
-- what a line adds
mod LineLemmas
-- what was read holds
mod ReadingLemmas
-- the agents at a leaf
mod LeafLemmas
