mod Basics
mod Cases
mod Choosing
mod Resting
mod Samples
mod Steps
mod Tables
pub mod Trees
mod Worlds
