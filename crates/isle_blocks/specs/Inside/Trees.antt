-- Blocks as values that a proof tells apart.
pub mod ShownCode
-- What is marked from step to step, as tests pass.
pub mod Marking
-- What the builder of trees knows, seen as the scopes and tests of the theory.
pub mod Builder
-- Lists that are kept in rows.
pub mod Tables
-- How the best test is found.
pub mod Best
-- What is still to be laid out of a tree, and what laying out one node does to it.
pub mod Work
-- Where the pieces of a block end.
pub mod Ends
