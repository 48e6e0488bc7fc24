-- What has to be believed of what is said to people: it is safe, it ends, and what was written
-- before stays.

-- that a writer has what it had, and something behind it
pub mod Explaining
