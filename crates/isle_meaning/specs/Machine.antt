-- What a term has for the machine, and its run of a call.
pub mod Runs
-- The effects with which one begins.
pub mod Beginnings
-- What trees owe to the rules of a checked program.
pub mod Trees
-- Which call a run asks.
pub mod Asking
-- A program of one term with one rule, and its tree.
pub mod Sample
-- Trees that a machine can walk.
pub mod Walkable
