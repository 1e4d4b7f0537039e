-- What a part of a template stands for, and how many arguments a template needs.
pub mod Frames
-- The innermost name is taken away.
pub mod Leaving
-- The symbol of an interned name.
pub mod SymNames
-- The steps of a reading of expressions.
pub mod ExprSteps
-- What a built call and a built `let` show.
pub mod BuiltShown
-- The steps of reading a pattern.
pub mod PatternSteps
-- The steps of reading conditions.
pub mod ConditionSteps
