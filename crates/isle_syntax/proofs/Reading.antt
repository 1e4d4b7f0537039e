-- When reading follows a grammar, and the combinators that keep it so, in reading order.
-- What it takes for reading to follow what is spelt: on success the tokens before are the only ones that spell
pub mod Follows
-- Productions that the next token chooses.
pub mod Cases
-- Single tokens, names and what stands in parentheses.
pub mod Basics
-- A flag word in its place.
pub mod Flags
-- A part that may be absent, which the next token shows.
pub mod Options
-- The words of the language by which the next token chooses.
pub mod Keywords
-- What a symbol of a kind is, and the kinds of words, constants and names.
pub mod SymbolKinds
-- Names that there are.
pub mod Words
-- Reading a constant where one stands next, where reading stops, and how much shorter one token leaves what is to read.
pub mod Leaves
-- What may follow a pattern.
pub mod PatternEnds
-- Reading a pattern by the kind of the next token, and a list of patterns part by part.
pub mod PatternKinds
-- Reading an expression by the kind of the next token, and what stands in parentheses part by part.
pub mod ExprKinds
-- Reading a `let` and its bindings, part by part.
pub mod Lets
-- Reading a pattern up to an `@`, and what follows from it for all of the pattern.
pub mod Unbound
-- Fields counted from a number.
pub mod Numbers
-- Reading step by step.
pub mod ReadSteps
-- Reading that begins with a parenthesis, step by step.
pub mod Opening
-- Taking a token whose kind is known.
pub mod Taking
-- A loop that reads one after another, a turn at a time.
pub mod Loops
-- Reading leaves fewer tokens than there were.
pub mod Shorter
-- Where a phrase that was read begins, and the words and names before it.
pub mod Beginnings
