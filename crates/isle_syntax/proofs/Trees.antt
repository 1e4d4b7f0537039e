-- Lemmas on trees that are spelt, in reading order.
-- Patterns and expressions are their trees.
pub mod TreeForms
-- No numbered argument of a template is spelt.
pub mod MacroArgs
