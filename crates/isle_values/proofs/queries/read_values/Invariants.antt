use Rattle.std.proofs.Common.{◌≡◌, ◌≤◌, ◌++◌, ◌-◌, [], ◌∷◌, length, take, drop}
use Rattle.isle_syntax.specs.declared.lexer.Token.TheVariants.{RParen}
use Rattle.isle_rules.specs.Values.{ValueTrees, value_list}
use Rattle.isle_values.specs.Values.Tokens.{tokens_all, AreSpellable, SpellArguments}
use Rattle.isle_values.proofs.queries.read_values.Given as goal

-- the values that are read are spelt so far, and what spells all spells these and others behind
abbrev pub invariant-loop-at : goal.invariant-loop-at
invariant-loop-at l = (l.at ≤ length l.tokens) × AreSpellable (value_list l.values.items)
    × (take l.at l.tokens ≡ tokens_all (value_list l.values.items))
    × ((all : ValueTrees) → SpellArguments l.tokens all → (others : ValueTrees) × AreSpellable others
    × (drop l.at l.tokens ≡ tokens_all others ++ RParen ∷ []))

abbrev pub decreases-loop-at : goal.decreases-loop-at
decreases-loop-at l = length l.tokens - l.at
