-- Rule sets as contracts see them.
use Rattle.std.specs.Prelude.{List, [], ◌≡◌}
use Rattle.isle_blocks.specs.declared.binding.Binding.{Binding}
use Rattle.isle_blocks.specs.declared.rule.Rule.{Rule}
use Rattle.isle_rules.specs.declared.rules.Rule as source

-- the rules of a term, and the sites that they speak of, each at its number
pub record RulesOverSites : Type 0 where
  pub rules : List Rule
  pub sites : List Binding

abbrev pub no_rules : RulesOverSites
no_rules = record { rules = []; sites = [] }

-- what is told of a rule as it is written: its number, position, priority and name
pub record IsToldOf (source : source.Rule) (made : Rule) : Type 0 where
  pub id : made.id ≡ source.id
  pub pos : made.pos ≡ source.pos
  pub prio : made.prio ≡ source.prio
  pub name : made.name ≡ source.name
