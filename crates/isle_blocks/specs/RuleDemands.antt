-- What a rule demands by itself.
use Rattle.std.specs.Prelude.{ℕ, List, []}
use Rattle.isle_types.specs.declared.ids.Sym.{Sym}
use Rattle.isle_meaning.specs.Demands.{demands_of}
use Rattle.isle_meaning.specs.Facts.{TermFacts}
use Rattle.isle_meaning.specs.Needs.{needs_of}
use Rattle.isle_meaning.specs.Numbered.{AreRecorded}
use Rattle.isle_rules.specs.Shown.TermTables.{TermTables}
use Rattle.isle_rules.specs.TypedRules.{TypedRule}
use Rattle.isle_rules.specs.declared.rules.Rule as source
use Rattle.isle_blocks.specs.declared.demands.Demands.{Demands}
use Rattle.isle_blocks.specs.AddedRules.{IsDefinedRule, facts_in, name_in}
use Rattle.isle_blocks.specs.Building.Standing.{Adds}
use Rattle.isle_blocks.specs.Rows.{rows_of, constraints_of, pairs_of}

-- The sites are those that a rule needs, each once, in the order in which it first needs them; the tests and equalities are those that it
-- demands.
pub record AreDemandsOf (name : Sym → List ℕ) (facts : TermFacts) (typed : TypedRule) (made : Demands) : Type 0 where
  pub sites : Adds [] (needs_of facts typed) (rows_of name made.sites.items)
  pub recorded : AreRecorded (rows_of name made.sites.items) (constraints_of name made.tests.items) (pairs_of made.equals.items)
      (demands_of facts typed)

-- they are those of a rule of definitions
abbrev pub HasDemands : TermTables → source.Rule → Demands → Type 0
HasDemands env rule made = (d : IsDefinedRule env rule) → AreDemandsOf (name_in env rule d) (facts_in env rule d) d.typed made
