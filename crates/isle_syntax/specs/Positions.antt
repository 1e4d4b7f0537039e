-- How positions of a text stand to each other.
-- The order in which the rules of a text stand.
pub mod RuleOrder
