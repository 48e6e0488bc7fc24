-- Lemmas that several proofs share.

-- ---- faults, and what is listed of them

-- keys in their order
pub mod KeyLemmas
-- faults by their keys
pub mod SameFaults
-- faults of a time, and plans without any
pub mod FaultLemmas
-- items of lists
pub mod ItemLemmas
-- what is listed up to a key, and one fault more
pub mod KnownLemmas
-- which faults there are at one time and of one rank
pub mod RankLemmas
-- the faults of one agent
pub mod SingleLemmas
-- legal steps lead between cells of the map
pub mod LegalLemmas
-- where agents are, and where steps take them
pub mod PlaceLemmas
-- links of one agent more
pub mod LinkLemmas
-- the conflicts of one agent, followed along its links
pub mod FollowLemmas
-- which conflicts an agent has by its step
pub mod ConflictLemmas
-- how many agents are named
pub mod NameLemmas
-- whether there is a fault with a key
pub mod DecideLemmas
-- the list of all faults from a beginning of it
pub mod ExtendLemmas
-- the least fault of a time, by what is listed of it
pub mod TimeLemmas
-- ---- agents under way, and their board

pub mod StretchLemmas
pub mod RestingLemmas
pub mod TimetableLemmas
pub mod KeptLemmas
pub mod CrowdLemmas
pub mod MarkLemmas
pub mod BoardLemmas
pub mod SquareLemmas
pub mod RowLemmas
pub mod GroundLemmas
pub mod UnderWayLemmas
pub mod UnderWayStarts
pub mod BlockLemmas
pub mod StrayLemmas
