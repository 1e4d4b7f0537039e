-- Marks of the types that have values.
pub mod InhabitedMarks
-- Whether each type has a value is decided.
pub mod InhabitedTypes
-- The terms that expressions make values by.
pub mod MadeTerms
-- Marks of the terms of rules.
pub mod MarkedTerms
-- Lists of the terms whose rules make values by a term.
pub mod Callers
-- Terms that reach hindered ones.
pub mod Reaching
-- The steps of rules.
pub mod Steps
-- Where the rule sets of terms stand, and what stands there.
pub mod Places
-- A term is the root of a rule where some are tried for it.
pub mod RootedTerms
-- The terms with rules as a list.
pub mod ListedTerms
-- What the numbers of a program tell.
pub mod Told
-- Marks that spread over lists.
pub mod Spreading
