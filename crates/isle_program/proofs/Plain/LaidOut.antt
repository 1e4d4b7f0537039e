-- What variables stand for as a `let` is entered and left.
pub mod Bound
-- Impure calls, each one part, in order.
pub mod Calls
-- Expressions laid out, node by node.
pub mod Exprs
-- What is laid out stays laid out.
pub mod Kept
-- The places of each term's rules, as they are listed one by one.
pub mod Lists
-- The places of rules sorted by priority.
pub mod Order
-- Parts that come behind others, and calls on parts.
pub mod Parts
-- Terms on parts.
pub mod Terms
-- What is known of a program's ghost fields.
pub mod Told
-- A program's rules as they are tried and laid out, by what is meant by its calls.
pub mod Tried
-- Expressions as they are shown and written out.
pub mod Words
