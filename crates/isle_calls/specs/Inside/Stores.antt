-- The values that the numbers of a store are printed to.
pub mod Printing
-- What a store keeps of a value, node by node.
pub mod Sharing
