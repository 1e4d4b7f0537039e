-- Lists whose items are related in pairs, by their places.
pub mod Zipped
-- A table of names when a name gets an entry.
pub mod Naming
-- Names and their places.
pub mod NamePlaces
-- Tables from symbols, seen by the symbols' names.
pub mod NamedTables
-- An environment's tables when names are interned.
pub mod Tables
-- A symbol that stands twice in a list.
pub mod Duplicates
-- Items of trees, and what is made of them under symbols of their names.
pub mod NamedItems
-- A name is interned: it goes behind the others, and into the table.
pub mod Interning
-- The numbers of members in an order that is level exactly at the same.
pub mod LevelMembers
-- Where definitions stand, their faults and their types do.
pub mod TypePositions
-- What an environment shows stays so when names are interned.
pub mod ShownTypes
-- Fields as they are read one after another.
pub mod FieldReadings
-- Fields, variants and types as they are read of their trees.
pub mod TypeReadings
-- Definitions of one kind, as a loop over definitions comes to them.
pub mod DefinitionTurns
-- The builtin types, as a loop puts them into an environment.
pub mod BuiltinTurns
-- The types' names, as a loop over definitions puts them into an environment.
pub mod NamingTurns
-- The types, as a loop over definitions makes them.
pub mod MakingTurns
-- The constants, as a loop over definitions keeps them.
pub mod ConstantTurns
-- Faults of refusals.
pub mod ReportedFaults
-- Lists of errors that stand where rules are broken.
pub mod FaultLists
-- What is read of all definitions is the environment that they make.
pub mod Reading
-- Definitions make one environment at most.
pub mod OneEnvironment
-- Definitions that are refused make no environment.
pub mod Refusals
-- Worked cases.
pub mod Cases
