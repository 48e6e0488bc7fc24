-- where the agents of a plan go, one after another
mod EndsLemmas
mod Unproved
