-- Which tokens a text has, and what a lexer answers, in reading order.
-- Tokens in their places.
pub mod PlacedTokens
-- The classes of symbols.
pub mod Names
-- The end of a text.
pub mod Ends
-- What stands at the front of a text: white space, a comment, or a token of some kind.
pub mod Gaps
-- Integers as they are spelt.
pub mod Integers
-- The tokens of a text.
pub mod TokensOf
-- What a lexer hasn't given yet.
pub mod RemainingTokens
-- What a lexer answers.
pub mod LexerCalls
-- The tokens of a text as they are found, one after another.
pub mod Finding
-- What stands next in a text.
pub mod Lookahead
