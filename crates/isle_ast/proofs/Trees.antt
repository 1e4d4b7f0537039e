-- Lemmas on trees, in reading order.
-- A recursion over patterns ends: those of a list are no larger than what holds them.
pub mod PatternSizes
-- A recursion over expressions ends: those of a list are no larger than what holds them.
pub mod ExprSizes
-- A recursion over kept items ends: those of a list are no larger than what holds them.
pub mod ItemSizes
-- A tree is of one pattern, expression or item alone, and as many as the trees are the things.
pub mod TreeShapes
-- Bindings around bindings.
pub mod Chains
-- What holds of a chain of bindings follows from its names and its innermost pattern.
pub mod Innermost
-- The steps of a loop that makes templates of patterns, or fills them.
pub mod Templates
-- A template of a chain, filled, is the chain around its filled innermost pattern; the template of a chain changes it only inside.
pub mod TemplateChains
-- A template filled with patterns is the pattern with them put in for the names, and there is none only where a name
pub mod Substitution
-- Calls at the terms of one after another are calls at the terms of all.
pub mod Terms
-- What adds one at each of its calls, up to a greatest number, tells how many there were.
pub mod Counts
-- Different positions and names are hashed differently.
pub mod Hashes
-- What is done to each tree of a list is done to all, and a pattern without positions has the tree without them.
pub mod WithoutPos
-- What answers whether two trees are the same answers as equality does, and equality is that of the values.
pub mod Equality
-- The `==` of a definition, and of each of its parts, holds exactly where the two are the same value.
pub mod DefEquality
-- Worked cases: patterns put in for names, templates, and the order of positions and names.
mod TreeCases
