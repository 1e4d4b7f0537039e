-- What demands of rules mean for matching.
pub mod Matching
-- What sites are and hold.
pub mod Sites
-- What calls mean, and where chains of asking end.
pub mod Calls
-- What a plain run means.
pub mod Plain
-- What a machine's run means.
pub mod Machine
-- The order of rules.
pub mod Order
-- Positions of definitions and rules.
pub mod Spelling
-- What holds of each rule that elaboration makes.
pub mod Elaborated
