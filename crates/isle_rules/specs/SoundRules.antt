-- What holds of every typed rule, as what stands on the rules needs it.
-- Types: each term, literal, constant and variable is used at its own type.
pub mod WellTyped
-- Scopes: variables are numbered in the order in which they are bound, and used where they can be.
pub mod KeptScopes
