-- What is printed of rule sets and trees, piece by piece.
-- Texts of items in turn.
pub mod Joined
-- The entries of a sorted map in turn, and what is printed of them.
pub mod Entries
-- What is printed of what is left of a tree.
pub mod Left
-- The rule sets of a program of files beside the trees that it has of them.
pub mod KeptTrees
-- What is drawn of what is left of a tree.
pub mod DotLeft
-- What trees are drawn from, part by part.
pub mod DotScenes
-- What sites are of others, level by level.
pub mod DotWays
