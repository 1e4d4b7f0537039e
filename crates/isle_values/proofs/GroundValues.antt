-- Where lists that are open close.
pub mod ClosedLists
-- The `==` of nodes.
pub mod EqualNodes
-- Values of which each node can be held.
pub mod HeldNodes
-- What a value's nodes stand for.
pub mod Laying
-- Tokens spell one value.
pub mod OneSpelling
-- A value's text has the value's tokens.
pub mod Printed
-- What is printed of a value, node by node.
pub mod Printing
-- A text is one query.
pub mod QueryTexts
-- Values that are read one behind the other.
pub mod ReadValues
-- Reading a value from tokens.
pub mod Reading
-- Values are settled at types one after the other.
pub mod SettledValues
-- A value is settled at a type, and found to be of it, node by node.
pub mod Settling
-- A value is of a type where each of its nodes fits.
pub mod TypedNodes
-- Values that are laid out from the last to the first.
pub mod LaidValues
