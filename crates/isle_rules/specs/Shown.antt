-- The value of an environment of terms, and what it shows and makes known.
pub mod TermTables
pub mod ShownTerms
-- What typed trees show.
pub mod ShownRules
-- What typed rules show.
pub mod RulesShown
-- What a rule is called.
pub mod RuleIdentifiers
