-- Compiled programs are sound.
-- What the tables of types say of fields and names is what the definitions say.
pub mod TypeTables
-- What the tables say of terms and rules is what the definitions say.
pub mod Agreeing
-- What is said of data by name.
pub mod NamedData
-- What the tables say is what the definitions say.
pub mod Defined
-- Integers of the rules of texts have 128 bits.
pub mod FittingTexts
-- So have those of typed rules.
pub mod FittingRules
-- Literals and constants of rules are values of their types.
pub mod Literals
-- The rules of terms that can be run are sound.
pub mod Runnable
-- Tables that show what files define are sound.
pub mod Whole
-- What is known of each program.
pub mod Known
