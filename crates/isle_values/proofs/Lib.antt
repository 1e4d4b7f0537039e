-- Values read, settled at types and printed.
pub mod GroundValues
-- Worked cases.
pub mod Cases
-- Table worlds.
pub mod TableWorlds
