-- Sites, demands and matching of typed rules.
pub mod Matching
-- What sites are and hold, and the sites of rules.
pub mod Sites
-- The plain run of a call is its meaning.
pub mod Calls
-- Meanings at other depths, chains of asking, and what a call means.
pub mod Chains
-- A machine's run of a call is its meaning.
pub mod Machine
-- What typing gives of a program's rules.
pub mod SoundPrograms
-- Where definitions stand, and in which order rules do, means nothing.
pub mod Spelling
-- Worked cases.
pub mod Cases
