use Rattle.std.proofs.Common.{◌≡◌, ◌++◌, ℕ, List, [], ◌∷◌, Option, map, refl, sym, ◌∙◌, ap, subst, append_assoc}
use Rattle.std.specs.Prelude.{MatchOption}
use Rattle.std.proofs.lemmas.List.{map-append}
use Rattle.std.proofs.lemmas.Result.{err_from_is_err_and}
use Rattle.isle_ast.specs.declared.pos.Pos.{Pos}
use Rattle.isle_syntax.specs.declared.lexer.Token.{Token}
use Rattle.isle_syntax.specs.declared.lexer.Token.TheVariants.{LParen, RParen, At, Symbol, Int, Big}
use Rattle.isle_syntax.specs.Tokens.LexerCalls.{GivesToken, AnswersEnd}
use Rattle.isle_syntax.specs.Tokens.PlacedTokens.{Placed, placed_at}
use Rattle.isle_syntax.specs.Tokens.TokensOf.{TokensOf}
use Rattle.isle_values.specs.Values.TextTokens.{alone, bare}
use Rattle.isle_values.specs.Worlds.Texts.{offset_of}
use Rattle.isle_values.proofs.TableWorlds.Refusals.{token_refused}
use Rattle.isle_values.proofs.worlds.reading.placed_tokens.Goals as goal

-- a token is itself, wherever it is placed, and stands there
bare_placed : (pos : Pos) (token : Token) → bare (placed_at pos token) ≡ token
bare_placed pos LParen = refl
bare_placed pos RParen = refl
bare_placed pos At = refl
bare_placed pos (Symbol s) = refl
bare_placed pos (Int n) = refl
bare_placed pos (Big n) = refl

offset_placed : (pos : Pos) (token : Token) → offset_of (placed_at pos token) ≡ pos.offset
offset_placed pos LParen = refl
offset_placed pos RParen = refl
offset_placed pos At = refl
offset_placed pos (Symbol s) = refl
offset_placed pos (Int n) = refl
offset_placed pos (Big n) = refl

pub tokens-preserved : goal.tokens-preserved
tokens-preserved c =
    let (before, all, these, places, end, clean) = c.tokens.invariant in
    let pos = c.in-Some.pos in let token = c.in-Some.token in
    let gives : GivesToken c.tokens.lexer c.next_token.new.lexer (pos, token) =
    subst (λ (o : Option (Pos × Token)). MatchOption o (AnswersEnd c.tokens.lexer c.next_token.new.lexer)
    (GivesToken c.tokens.lexer c.next_token.new.lexer)) c.in-Some.is
    c.in_ok-pos.ensures.gives in
    let one = placed_at pos token in (
      before ++ one ∷ [],
      all ∙ ap (λ (l : List Placed). before ++ l) gives.first ∙ sym (append_assoc before (one ∷ []) c.next_token.new.lexer.left),
      c.in_ok-push.ensures.items ∙ ap (λ (l : List Token). l ++ token ∷ []) these
          ∙ ap (λ (t : Token). map bare before ++ t ∷ []) (sym (bare_placed pos token)) ∙ sym (map-append bare before (one ∷ [])),
      c.in_ok-push-2.ensures.items ∙ ap (λ (l : List ℕ). l ++ pos.offset ∷ []) places
          ∙ ap (λ (n : ℕ). map offset_of before ++ n ∷ []) (sym (offset_placed pos token)) ∙ sym (map-append offset_of before (one ∷ [])),
      gives.same_end ∙ end,
      gives.same_clean ∙ clean,
    )

pub returns-in_err-pos-clause-fault : goal.returns-in_err-pos-clause-fault
returns-in_err-pos-clause-fault c =
    let (before, all, these, places, end, clean) = c.tokens.invariant in
    let made = c.new-lexer.result in
    let text = c.args.text.now in
    let of_text : TokensOf (alone text) text made.left made.end made.clean = subst (λ s. TokensOf s text made.left made.end made.clean)
    c.new-lexer.ensures.source c.new-lexer.ensures.tokens in
    let now : TokensOf (alone text) text (before ++ c.tokens.lexer.left) c.tokens.lexer.end c.tokens.lexer.clean =
    subst (λ b. TokensOf (alone text) text (before ++ c.tokens.lexer.left) c.tokens.lexer.end b) (sym clean)
    (subst (λ n. TokensOf (alone text) text (before ++ c.tokens.lexer.left) n made.clean) (sym end)
    (subst (λ l. TokensOf (alone text) text l made.end made.clean) all of_text)) in
    let e = err_from_is_err_and c.from_residual.result c.from_residual.ensures.1 in
    rw (e.1, e.2) (λ program. token_refused c.args.text.now before c.tokens.lexer now program c.in_err-pos.field-0.0 c.in_err-pos.ensures.fault)
