use Rattle.std.proofs.Common.{◌≡◌, ◌≤◌, ◌++◌, ◌-◌, List, ◌∷◌, length, take, drop}
use Rattle.isle_syntax.specs.declared.lexer.Token.{Token}
use Rattle.isle_syntax.specs.declared.lexer.Token.TheVariants.{RParen}
use Rattle.isle_rules.specs.Values.{ValueTrees, value_list}
use Rattle.isle_values.specs.Values.Tokens.{tokens_all, AreSpellable}
use Rattle.isle_values.proofs.TableWorlds.EntryParts.{LeftTo}
use Rattle.isle_values.proofs.worlds.entry.read_list.Given as goal

-- the values that are read are spelt so far, and what spells all spells these and others behind
abbrev pub invariant-loop-at : goal.invariant-loop-at
invariant-loop-at l = (l.at ≤ length l.tokens) × AreSpellable (value_list l.values.items)
    × (take l.at l.tokens ≡ tokens_all (value_list l.values.items))
    × ((all : ValueTrees) (rest : List Token) → AreSpellable all → l.tokens ≡ tokens_all all ++ (RParen ∷ rest) → LeftTo rest (drop l.at l.tokens))

abbrev pub decreases-loop-at : goal.decreases-loop-at
decreases-loop-at l = length l.tokens - l.at
