-- What is said of sites: their parts, kinds and calls, and what they hold.
-- What a site is made of.
pub mod Parts
-- Sites whose parts are of the kinds that they take.
pub mod Kinds
-- Completions whose calls are functions into finite lists.
pub mod Functions
-- The impure calls that a site has.
pub mod ImpureCalls
-- The calls that a rule's patterns and if-lets have.
pub mod RuleCalls
-- Completions that agree where both answer.
pub mod Agreeing
-- What a site holds, by what its parts hold.
pub mod Making
-- A right side by its sites.
pub mod RightSites
