-- What is known of a program before it is run.
pub mod Facts
-- Rules laid out, in the order in which they are tried.
pub mod Plain
-- What typing gives of tables.
pub mod SoundTables
-- What typing gives of a program.
pub mod Sound
