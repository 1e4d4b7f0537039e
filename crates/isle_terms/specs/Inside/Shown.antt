-- The roots of rules, and what is read of rules.
pub mod RootsShown
-- Below what the symbols of terms are.
pub mod TermLimits
-- What tables of types and terms make known of names.
pub mod KnownNames
-- What the parts of a rule show, and below what their symbols are.
pub mod PartsShown
