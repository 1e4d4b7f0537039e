-- Frames that wait.
pub mod Stacks
