-- What follows from the definitions.
-- deeds one behind the other
pub mod Leading
-- what an agent refuses and answers is what the rules say
pub mod Rules
-- a start or a finish, and its write
pub mod Storing
-- messages, tears and restarts
pub mod Speaking
-- what was said is heard
pub mod Telling
