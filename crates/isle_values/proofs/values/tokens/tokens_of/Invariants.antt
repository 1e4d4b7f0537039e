use Rattle.std.proofs.Common.{◌≡◌, ◌++◌, List, map, length}
use Rattle.isle_syntax.specs.Tokens.PlacedTokens.{Placed}
use Rattle.isle_values.specs.Values.TextTokens.{bare}
use Rattle.isle_values.proofs.values.tokens.tokens_of.Given as goal

-- the tokens that were given are the first of those of the text
abbrev pub invariant-tokens : goal.invariant-tokens
invariant-tokens l = (before : List Placed) × (l.initial.lexer.left ≡ before ++ l.lexer.left) × (l.tokens.items ≡ map bare before)
    × (l.lexer.end ≡ l.initial.lexer.end) × (l.lexer.clean ≡ l.initial.lexer.clean)

abbrev pub decreases-tokens : goal.decreases-tokens
decreases-tokens l = length l.lexer.left
