mod Completeness
mod Covering
mod Fronts
mod Gathering
mod Growing
mod Integers
mod Knowing
mod Lists
mod Numbers
mod Plain
mod Standing
-- Marks that rules keep cover what is reached.
pub mod Reached
