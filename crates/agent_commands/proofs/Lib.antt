-- Lemmas on agents over files.
mod TapeLemmas
-- and of what their tapes keep
mod ReportLemmas
-- a tape with a guard, and without
mod GuardLemmas
-- the plan beside a tape
mod PlanLemmas
-- and whether two are one
mod SameLemmas
-- and the terms on which it is compared
mod TermsLemmas
