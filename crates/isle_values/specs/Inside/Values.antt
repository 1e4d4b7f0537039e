-- Values that are settled node by node.
pub mod SettledNodes
-- A value that is read token by token.
pub mod Reading
