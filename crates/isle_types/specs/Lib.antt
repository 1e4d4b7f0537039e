-- Ids as the numbers that they stand for.
pub mod Ids
-- The integer types, and which numbers they have.
pub mod IntTypes
-- What is asked of a type.
pub mod Types
-- Names by their places in a list.
pub mod Names
-- The types and constants that definitions make, by name. Types are counted: the builtin ones from 0, the defined ones after them.
pub mod Environment
-- Where definitions break a rule of types or constants.
pub mod TypeFaults
-- The value of an environment of types: its tables, by name.
pub mod TypeTables
-- What an environment of types shows: types by name, and constants.
pub mod TypeEnvs
-- The positions in types.
pub mod TypePositions
-- A list of names and the table from a name to its place.
pub mod Interned
-- What no public contract cites.
pub mod Inside
