-- Values and their texts.
pub mod Values
