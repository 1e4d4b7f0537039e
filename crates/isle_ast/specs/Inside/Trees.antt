-- What a chain of bindings `x @ y @ ..` binds, and the names that it binds to it.
pub mod Innermost
