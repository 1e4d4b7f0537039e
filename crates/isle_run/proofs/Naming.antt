-- Names in compiled programs are spelt as names.
-- Symbols.
pub mod Symbols
-- Definitions.
pub mod Definitions
-- Values.
pub mod Values
