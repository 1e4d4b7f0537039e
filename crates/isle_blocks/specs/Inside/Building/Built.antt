-- What the visit of a rule leaves: the sites that the rule needs, what it demands of them, its value and its impure calls.
use Rattle.std.specs.Prelude.{ℕ, List, []}
use Rattle.isle_types.specs.declared.ids.Sym.{Sym}
use Rattle.isle_rules.specs.TypedRules.{TypedRule}
use Rattle.isle_meaning.specs.Facts.{TermFacts}
use Rattle.isle_meaning.specs.Words.{word_of}
use Rattle.isle_meaning.specs.Sites.{site_of}
use Rattle.isle_meaning.specs.Demands.{vars_of, demands_of, impure_of}
use Rattle.isle_meaning.specs.Needs.{needs_of}
use Rattle.isle_meaning.specs.Numbered.{At, AreRecorded}
use Rattle.isle_blocks.specs.declared.ids.BindingId.{BindingId}
use Rattle.isle_blocks.specs.Rows.{rows_of, constraints_of, pairs_of}
use Rattle.isle_blocks.specs.Inside.Building.Gathering.{Gathered}
use Rattle.isle_blocks.specs.Building.Standing.{Adds, StandEach}

pub record IsBuiltOf (name : Sym → List ℕ) (facts : TermFacts) (rule : TypedRule) (left : Gathered) (value : BindingId) : Type 0 where
  -- each site that the rule needs, once, and no other
  pub sites : Adds [] (needs_of facts rule) (rows_of name left.sites)
  -- all that the rule demands, and nothing else
  pub demands : AreRecorded (rows_of name left.sites) (constraints_of name left.has) (pairs_of left.same) (demands_of facts rule)
  -- the right side's site
  pub result : At (rows_of name left.sites) (site_of facts (vars_of facts rule) (word_of facts rule.right)) value.0
  -- what the right side's impure calls give, in order
  pub impure : StandEach (rows_of name left.sites) left.impure (impure_of facts rule)
