-- Calls that a world answers.
pub mod Telling
-- Effects made one after another.
pub mod Made
-- Frames that wait, one for the other.
pub mod Stacked
-- A call that runs.
pub mod Running
-- A call of which no rule is left.
pub mod Unmatched
