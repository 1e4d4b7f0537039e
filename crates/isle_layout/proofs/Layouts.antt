-- Lemmas on S-expressions and their layout, in reading order.
-- A recursion over S-expressions ends: those of a list are no larger than what holds them.
pub mod SExprSizes
-- What holds of a chain of bindings follows from its names and its innermost pattern.
pub mod SExprInnermost
-- The S-expressions of the first trees of a list, one by one, are those of the list where none is left.
pub mod Spellings
-- The test for numbered arguments of templates finds none exactly where a definition has none.
pub mod MacroArgs
-- Texts are joined one after another.
pub mod Joined
-- How many characters texts have.
pub mod Lengths
-- Which lists fit on one line: of a list those of its items, and its items are left from one place on.
pub mod Fits
-- A list is written on one line or on several, as `fit` says.
pub mod ListLayouts
-- The layout of some S-expressions.
pub mod LayoutCases
-- How a definition is printed doesn't turn on its positions.
pub mod SameSpelling
