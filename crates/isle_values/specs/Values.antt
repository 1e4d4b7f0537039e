-- Values laid out node by node.
pub mod Nodes
-- A value as something that a proof tells apart.
pub mod Code
-- The tokens that spell values.
pub mod Tokens
-- Values as they are read at a type.
pub mod Settled
-- In which order the text of a value is checked.
pub mod Faults
-- The values that a program can hold.
pub mod Held
-- What is printed of a value.
pub mod Text
-- The tokens of a text of its own.
pub mod TextTokens
-- Lists of tokens whose parentheses match.
pub mod Lists
-- Values that are laid out from the last to the first.
pub mod Laying
-- Values of a type, node by node.
pub mod TypedNodes
