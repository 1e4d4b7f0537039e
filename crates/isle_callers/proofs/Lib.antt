-- What the text of a value is read as.
pub mod ByteLemmas
-- What is written of a call's parts.
pub mod LineLemmas
