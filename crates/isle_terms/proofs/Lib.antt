-- Worked cases: what patterns and expressions stand for, and where they are ill typed or too large.
mod TypingCases
-- Reading a pattern or an expression only adds nodes.
pub mod Growing
-- Where reading comes to a node at which it can't go on, the whole stands for nothing.
pub mod Refuting
-- What is ill typed at some position stands for nothing; what is too large stands for nothing within the sizes.
pub mod Impossible
-- An ill-typed rule stands for nothing; a rule that is too large stands for nothing within the sizes.
pub mod RuleFaults
-- Reading comes to exactly what the judgement and the faults say.
pub mod Exact
-- Definitions that break a rule of terms, extractors, constructors or converters make no environment.
pub mod BrokenTerms
-- Definitions that break a rule of roots or external constructors make no environment.
pub mod BrokenConstructors
-- Definitions that break a rule of typing make no environment; those that exceed a size make none within the sizes.
pub mod BrokenTyping
-- What is collected and checked of definitions.
pub mod Collections
-- The reading of patterns and expressions, step by step.
pub mod Steps
-- What is shown stays shown, and where faults stand.
pub mod Showing
-- What texts spell has plain templates.
pub mod PlainTemplates
-- Worked cases with literal values.
pub mod Cases
-- Every typed rule is well typed, and keeps scopes.
pub mod Sound
-- The sizes of what trees stand for, and how rules fit their terms.
pub mod Sizes
-- The `==` of typed patterns and expressions holds exactly where the two are the same.
pub mod EqualTrees
-- So does that of terms, and of what they are made of.
pub mod EqualTerms
