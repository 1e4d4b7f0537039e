-- Where definitions stand, and in which order rules do, means nothing.
-- Lists whose items are mapped.
pub mod Zips
-- What definitions make, without positions.
pub mod Bare
-- Patterns.
pub mod Patterns
-- Expressions.
pub mod Exprs
-- Rules.
pub mod Rules
-- Types and constants.
pub mod Types
-- Definitions of one kind, and what is said of names.
pub mod Lists
-- Terms, converters and typed rules.
pub mod Terms
-- What terms and values of definitions are.
pub mod Programs
-- What calls mean.
pub mod Meanings
-- The order of rules.
pub mod Ordered
