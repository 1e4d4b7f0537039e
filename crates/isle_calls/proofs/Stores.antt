-- What the numbers of a store are printed to.
pub mod Printing
-- Values put into a store node by node.
pub mod Sharing
-- The steps in which the value of a number is printed.
pub mod Steps
-- The sorted table of a store's nodes.
pub mod Tables
-- What numbers stand for in a store.
pub mod Values
