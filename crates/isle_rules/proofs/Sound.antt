-- Variables of a rule keep their places and types, and names stand for them.
pub mod GrowingVariables
-- Patterns stand for well-typed ones.
pub mod PatternTypes
-- Expressions stand for well-typed ones.
pub mod ExprTypes
-- Rules stand for well-typed ones.
pub mod RuleTypes
-- Patterns stand for ones that bind variables in order.
pub mod PatternScopes
-- Expressions stand for ones that use and bind variables in order.
pub mod ExprScopes
-- Rules stand for ones that bind variables in order.
pub mod RuleScopes
