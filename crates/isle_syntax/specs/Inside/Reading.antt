-- Reading tokens from left to right, as the private calls of the parser do, in reading order.
-- Reading tokens from left to right, up to the first fault that is met.
pub mod Readers
-- Reading patterns, expressions and the items of kept lists.
pub mod TreeReading
-- Reading definitions.
pub mod DefReading
-- The kind of the next token.
pub mod KindOf
-- Reading items, patterns and expressions by the kind of the next token.
pub mod KindReading
-- The variables of a `let` as they are read.
pub mod Bindings
-- What a call that reads from a lexer gives.
pub mod Parsing
