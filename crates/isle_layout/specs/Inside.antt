-- An S-expression as a value that a proof tells apart.
pub mod SExprCode
-- What a chain of bindings `x @ y @ ..` binds, and the text before it.
pub mod SExprInnermost
-- Rows of pieces as the program finds them.
pub mod RowsSeen
-- Tokens as they stand in texts.
pub mod TextTokens
-- Which tokens an S-expression's text has.
pub mod SExprTokens
-- Lines and scripts of a unified diff as the program has them.
pub mod Changes
