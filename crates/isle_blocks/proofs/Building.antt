-- What a rule's visit gathers.
-- A walk down a table.
pub mod Walking
-- Runs that lack memory at once.
pub mod Waiting
-- Tables as they grow.
pub mod Entries
-- What a step adds.
pub mod Told
-- What a call of a term's pattern adds.
pub mod Openings
-- What the visit of a pattern gathers.
pub mod Patterns
-- What the visit of an expression gathers.
pub mod Exprs
-- The visit of an expression goes the road that is written down of it.
pub mod ExprVisits
-- What the visits of a rule's arguments gather.
pub mod RuleVisits
-- The contents that a site is made of, by numbers and by sites.
pub mod Asking
-- The table that is left.
pub mod Tables
-- What is demanded of the contents that a site is made of.
pub mod Contents
-- What the visits of a rule's conditions gather.
pub mod IfLets
-- Well typed rules have what the visit asks.
pub mod WellTyped
-- What the visit of a rule gathers.
pub mod Rules
-- Shown rules are named rules.
pub mod Naming
-- What is built of a rule of definitions.
pub mod Defined
-- Runs that go on past the limit of the table.
pub mod GoingOn
-- Rules that need more sites than there are numbers.
pub mod Overfull
-- What stands behind a rule's own sites are fields that its demands open.
pub mod OpenedFields
-- A visit of a rule may lack memory before anything is told.
pub mod Refused
