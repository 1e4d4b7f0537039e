-- The order in which the rules of a text stand.
use Rattle.std.specs.Prelude.{◌<◌, List, [], ◌∷◌}
use Rattle.std.specs.List.{AllPairs}
use Rattle.isle_ast.specs.declared.pos.Pos.{Pos}
use Rattle.isle_ast.specs.declared.ast.Def.{Def}
use Rattle.isle_ast.specs.declared.ast.Def.TheVariants.{Rule}

-- where the rules among some definitions stand
abbrev pub rule_places : List Def → List Pos
rule_places [] = []
rule_places (Rule rule ∷ defs) = rule.pos ∷ rule_places defs
rule_places (_ ∷ defs) = rule_places defs

-- each rule stands before all later ones
abbrev pub RulesAscend : List Def → Type 0
RulesAscend defs = AllPairs (λ p q. p.offset < q.offset) (rule_places defs)
