-- Sites with what they are made of, gathered by marks.
pub mod Gathering
