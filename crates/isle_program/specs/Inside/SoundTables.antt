-- What typing gives of tables: their rules and data are sound, and their data is named by its type.
use Rattle.std.specs.Prelude.{◌≡◌, ℕ, Some, slice_get}
use Rattle.isle_types.specs.TypeTables.{TypeTables}
use Rattle.isle_rules.specs.TypedRules.{TypedRule}
use Rattle.isle_rules.specs.Shown.TermTables.{TermTables}
use Rattle.isle_meaning.specs.Typing.{RuleIsTyped}
use Rattle.isle_meaning.specs.Inside.Variables.{var_type}
use Rattle.isle_meaning.specs.SoundPrograms.{IsSound}
use Rattle.isle_program.specs.Laws.Terms.{term_facts}
use Rattle.isle_program.specs.Facts.Reach.{IsRunnable}
use Rattle.isle_program.specs.Tables.{checked_by, IsDataNamed}

-- a rule is typed at its term's types, where each of its variables has its own type
abbrev pub IsTypedAtRoot : TypeTables → TermTables → TypedRule → Type 0
IsTypedAtRoot tyenv env rule =
    RuleIsTyped (term_facts tyenv env) ((term_facts tyenv env).inputs rule.root) ((term_facts tyenv env).type_of rule.root)
    (var_type rule.variables) rule

-- rules and data are sound, for the terms that can be run
pub record AreSound (tyenv : TypeTables) (env : TermTables) : Type 0 where
  pub sound : IsSound (checked_by tyenv env) (IsRunnable tyenv env)
  pub typed : (i : ℕ) (rule : TypedRule) → slice_get (checked_by tyenv env).rules i ≡ Some rule → IsRunnable tyenv env rule.root
      → IsTypedAtRoot tyenv env rule
  pub named : IsDataNamed tyenv env
