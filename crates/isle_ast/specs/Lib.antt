-- trees of definitions, patterns, expressions and kept items, and what is computed of them
pub mod Trees
-- files, lines and positions
pub mod Positions
-- what errors name of source files, and what is known of refusals
pub mod Errors
-- `Seq`, `Boxed` and `Shared` as types that may hold the type that holds them
pub mod formers
-- What no public contract cites.
pub mod Inside
