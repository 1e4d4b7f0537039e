-- Worked cases.
-- Rules that may match together, and rules that may not.
pub mod OverlappingRules
-- The errors of rules that never match and of rules that are too large, and lists of numbers.
pub mod SizesAndErrors
-- The rule (f x x): its arguments must be equal.
pub mod ClosedCase
-- The sites of two rules, in the order in which they are first needed.
pub mod NumberedSites
-- The same sites in another order.
pub mod SwappedSites
-- Fields that an equal site lacks.
pub mod MissingFields
-- Such fields behind a rule's other sites.
pub mod NumberedFields
-- What follows from an equality of such sites.
pub mod EqualFields
-- The closure that has them.
pub mod ClosedFields
-- A value that is a field of itself.
pub mod EndlessValues
-- A rule's sites put behind those of a table.
pub mod PutSites
-- Which rule heads an error, and what it lists.
pub mod OverlapReports
-- The same where a rule shadows others.
pub mod ShadowReports
-- One rule that heads an overlap and a shadowing.
pub mod SharedHeads
-- The errors of three rules.
pub mod RuleErrors
-- Which rule shadows another.
pub mod ShadowedRules
-- What the nodes of a block show, and where their pieces end.
pub mod ShownBlocks
-- Two rules over a multi call of two values.
pub mod TwoValues
-- One rule over a multi call of three items.
pub mod ThreeItems
-- Three rules without multi calls.
pub mod ThreeRules
-- A rule over a multi call that nothing opens.
pub mod UnopenedLoops
