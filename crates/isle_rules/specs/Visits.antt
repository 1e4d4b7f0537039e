-- What a visitor of a typed rule is told, and in which order.
-- Runs of a visitor, one call after another.
pub mod Runs
-- What the variables of a rule have been given.
pub mod VisitScopes
-- Typed patterns and expressions whose constants are symbols.
pub mod InternedTrees
-- What visitors of patterns and expressions are told.
pub mod VisitorCalls
-- The events of typed patterns and expressions.
pub mod Events
-- What visitors of rules are told, and visitors that they hand out.
pub mod RuleSteps
-- The events of typed rules.
pub mod RuleEvents
-- Visitors that never answer by themselves that something isn't defined.
pub mod OwnFaults
