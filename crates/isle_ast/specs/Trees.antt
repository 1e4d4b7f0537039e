-- Trees of definitions, patterns, expressions and kept items, and what is computed of them, in reading order.
-- Patterns as contracts see them.
pub mod PatternTree
-- Expressions as contracts see them.
pub mod ExprTree
-- Items of kept definitions as contracts see them.
pub mod ItemTree
-- A pattern as a tree: its children are trees already.
pub mod PatternShape
-- An expression as a tree: its children are trees already.
pub mod ExprShape
-- A kept item as a tree: its children are trees already.
pub mod ItemShape
-- What is read off names and patterns.
pub mod TreeCalls
-- The chain of names that a pattern is bound to.
pub mod Chain
-- Templates of patterns, and what a template stands for at given patterns.
pub mod Templates
-- Patterns put in for names, all at once, and what a template then is.
pub mod Substitution
-- Definitions in whose patterns no numbered argument of a template occurs.
pub mod MacroArgs
-- The terms of patterns and expressions, in the order in which they are written.
pub mod Terms
-- Trees without positions: each position is that of file 0 and offset 0.
pub mod WithoutPos
-- What comparisons and hashes tell of the values that they are of.
pub mod Comparisons
-- Positions and names as values that a proof tells apart.
pub mod Coded
-- A tree of patterns as a value that a proof tells apart.
pub mod PatternCode
-- A tree of expressions as a value that a proof tells apart.
pub mod ExprCode
-- A tree of kept items as a value that a proof tells apart.
pub mod ItemCode
-- Whether two trees are the same, as a truth value.
pub mod Equality
-- Whether two definitions are the same, as a truth value.
pub mod DefEquality
-- Children are lower than their pattern.
pub mod PatternDecreases
-- Children are lower than their expression.
pub mod ExprDecreases
-- Children are lower than their item.
pub mod ItemDecreases
