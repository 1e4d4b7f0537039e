-- Worked cases: literal rules that are well typed and keep scopes, and some that don't.
mod Cases
