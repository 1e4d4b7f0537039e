-- How many arguments the use of a term must give.
pub mod Needs
