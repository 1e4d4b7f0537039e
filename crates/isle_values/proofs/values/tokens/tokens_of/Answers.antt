use Rattle.std.proofs.Common.{◌≡◌, ◌++◌, List, [], ◌∷◌, Option, map, refl, sym, ◌∙◌, ap, subst, append_assoc}
use Rattle.std.specs.Prelude.{MatchOption}
use Rattle.std.proofs.lemmas.List.{map-append}
use Rattle.isle_ast.specs.declared.pos.Pos.{Pos}
use Rattle.isle_syntax.specs.declared.lexer.Token.{Token}
use Rattle.isle_syntax.specs.declared.lexer.Token.TheVariants.{LParen, RParen, At, Symbol, Int, Big}
use Rattle.isle_syntax.specs.Tokens.LexerCalls.{GivesToken, AnswersEnd}
use Rattle.isle_syntax.specs.Tokens.PlacedTokens.{Placed, placed_at}
use Rattle.isle_values.specs.Values.TextTokens.{bare}
use Rattle.isle_values.proofs.values.tokens.tokens_of.Goals as goal

-- a token is itself, wherever it is placed
bare_placed : (pos : Pos) (token : Token) → bare (placed_at pos token) ≡ token
bare_placed pos LParen = refl
bare_placed pos RParen = refl
bare_placed pos At = refl
bare_placed pos (Symbol s) = refl
bare_placed pos (Int n) = refl
bare_placed pos (Big n) = refl

pub tokens-preserved : goal.tokens-preserved
tokens-preserved c =
    let (before, all, these, end, clean) = c.tokens.invariant in
    let pos = c.in-Some.field-0-0 in let token = c.in-Some.token in
    let gives : GivesToken c.tokens.lexer c.next.new.self (pos, token) =
    subst (λ (o : Option (Pos × Token)). MatchOption o (AnswersEnd c.tokens.lexer c.next.new.self) (GivesToken c.tokens.lexer c.next.new.self))
    c.in-Some.is
    c.in_ok-token.ensures.gives in
    let one = placed_at pos token in (
      before ++ one ∷ [],
      all ∙ ap (λ (l : List Placed). before ++ l) gives.first ∙ sym (append_assoc before (one ∷ []) c.next.new.self.left),
      c.in_ok-push.ensures.items ∙ ap (λ (l : List Token). l ++ token ∷ []) these
          ∙ ap (λ (t : Token). map bare before ++ t ∷ []) (sym (bare_placed pos token)) ∙ sym (map-append bare before (one ∷ [])),
      gives.same_end ∙ end,
      gives.same_clean ∙ clean,
    )
