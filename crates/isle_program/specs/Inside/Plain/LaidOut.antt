-- An expression while it is laid out.
pub mod Expressions
