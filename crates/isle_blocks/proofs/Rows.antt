-- Tables of sites, and what is moved between them.
-- What is moved into another table.
pub mod MovedTables
-- The entries of moved sites.
pub mod MovedRows
-- One more site moved.
pub mod MovingTurns
-- Sites and tests are told apart by their entries.
pub mod RowsInjective
-- A full table has no room.
pub mod FullTables
-- A rule's own sites in its rule set's table.
pub mod Placed
-- What there is no room for.
pub mod PlacedRoom
