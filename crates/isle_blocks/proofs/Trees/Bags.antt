-- Rule sets of `multi` terms, whose walks answer bags.
-- Those of `multi` terms are as the bag asks.
pub mod Many
-- Whether a rule matches is decided.
pub mod Decided
-- Calls are functions as the bag asks, and walks answer bags.
pub mod Functional
-- Rules match as what they demand holds.
pub mod MatchedByNumbers
-- Sites are what they hold where items are taken at places.
pub mod AtPlaces
-- Each way takes items.
pub mod Ways
-- The impure calls of what a rule needs.
pub mod ImpureSites
-- What functions answer to them.
pub mod ImpureAnswers
-- Those of definitions.
pub mod DefinedMany
-- Ways with the places of the items that they take.
pub mod Placed
-- Whether two sites are one, and a site's number.
pub mod SameSites
-- Places in a completion say nothing where items are taken.
pub mod AnyPlaces
-- A rule in a way to take items.
pub mod Taken
-- Walks answer the bags of rules.
pub mod RuleBags
