-- What the steps of a rule set's tree read, and what its arms bind.
pub mod Reads
-- Rules of equal priority never both match.
pub mod Ties
-- The sites of a sound rule are typed.
pub mod TypedSites
-- What typed sites hold is typed.
pub mod TypedHeld
-- The calls of a rule set's sites take values of their types.
pub mod TypedCalls
-- Sites of whose impure calls those that were answered none may fail.
pub mod AllowedAnswers
-- The impure calls of what a rule's right side has are its own.
pub mod RightCalls
-- Answers that keep to a rule set under answers to one rule's impure calls.
pub mod OwnAnswers
-- A right side by its sites, from what is bound of it.
pub mod RightSteps
-- Walks under answers to impure calls do as the rules.
pub mod RightSides
-- Worked cases.
mod Cases
-- Worked cases: a tree that chooses as its rules, and one that doesn't.
mod ChoiceCases
