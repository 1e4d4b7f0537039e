-- lemmas on trees
pub mod Trees
-- lemmas on positions, orders and lines
pub mod Positions
