-- Lemmas on texts and their tokens, in reading order.
-- What the first byte of a text tells.
pub mod Leads
-- The longest run of bytes of one kind, and what follows it.
pub mod Runs
-- Where a text may be cut: beside an ASCII byte.
pub mod Cuts
-- Comments, which nest: a step of the program's loop, and what it finds.
pub mod Comments
-- Gaps between tokens: a step of the program's loop, and what it finds.
pub mod Gaps
-- What follows a gap is an end of the text, where the text may be cut.
pub mod GapCuts
-- The number that digits spell.
pub mod Digits
-- What follows an integer is an end of the text, where the text may be cut.
pub mod IntegerCuts
-- Identifiers, character by character.
pub mod Identifiers
-- The tokens that are found are the tokens of the text, and its only ones.
pub mod Findings
-- What a lexer finds next, against the tokens of what it reads.
pub mod Looks
-- What is true of every lexer.
pub mod Remaining
-- The tokens of a text stand one behind the other.
pub mod TokenOrder
