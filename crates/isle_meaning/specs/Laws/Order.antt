-- The order of a program's rules.
use Rattle.std.specs.Prelude.{◌≡◌, ℕ, List, Option, Some, None, slice_get}
use Rattle.std.specs.List.{filter_map}
use Rattle.isle_ast.specs.declared.ast.Rule.{Rule as RuleTree}
use Rattle.isle_ast.specs.declared.ast.Def.{Def}
use Rattle.isle_ast.specs.declared.ast.Def.TheVariants.{TypeDef, Decl, Rule, Extractor, Extern, Converter, Pragma, Kept}
use Rattle.isle_rules.specs.TypedRules.{TypedRule}
use Rattle.isle_rules.specs.Definitions.{IsAmong, rules_in}
use Rattle.isle_meaning.specs.Values.{Value, Values}
use Rattle.isle_meaning.specs.Worlds.{CheckedProgram, Answers, Event}
use Rattle.isle_meaning.specs.Calls.{Means}

-- each of these rules is one of the others
abbrev pub AreAmong : List TypedRule → List TypedRule → Type 0
AreAmong rules others = (i : ℕ) (rule : TypedRule) → slice_get rules i ≡ Some rule → (j : ℕ) × (slice_get others j ≡ Some rule)

-- a program with these rules in place of its own
abbrev pub with_rules : CheckedProgram → List TypedRule → CheckedProgram
with_rules p rules = record { terms = p.terms; values = p.values; has_rules = p.has_rules; rules = rules }

-- The same rules in another order give a call the same meaning.
abbrev pub OrderMeansNothing : Type 0
OrderMeansNothing = (p : CheckedProgram) (rules : List TypedRule) → AreAmong p.rules rules → AreAmong rules p.rules
    → (w : Answers) (n t : ℕ) (args : Values) (trace : List Event) (answer : Option Value)
    → Means p w n t args trace answer → Means (with_rules p rules) w n t args trace answer

-- a definition that is no rule
abbrev pub as_other : Def → Option Def
as_other (TypeDef type) = Some (TypeDef type)
as_other (Decl decl) = Some (Decl decl)
as_other (Rule _) = None
as_other (Extractor extractor) = Some (Extractor extractor)
as_other (Extern external) = Some (Extern external)
as_other (Converter converter) = Some (Converter converter)
as_other (Pragma pragma) = Some (Pragma pragma)
as_other (Kept kept) = Some (Kept kept)

-- the definitions that are no rules, in order
abbrev pub others_in : List Def → List Def
others_in defs = filter_map as_other defs

-- definitions that differ in the order of their rules alone: their other definitions are the same, and each rule of the ones is one of
-- the others
pub record AreReordered (defs those : List Def) : Type 0 where
  pub others : others_in defs ≡ others_in those
  pub there : (rule : RuleTree) → IsAmong (rules_in defs) rule → IsAmong (rules_in those) rule
  pub back : (rule : RuleTree) → IsAmong (rules_in those) rule → IsAmong (rules_in defs) rule
