use Rattle.std.proofs.Common.{◌≡◌, ◌<◌, ◌≤◌, ◌++◌, ℕ, List, [], length, take, drop, sym, ◌∙◌, ap, subst, arith}
use Rattle.std.specs.Prelude.{Option, Some, IfSome}
use Rattle.std.proofs.lemmas.List.{length-drop, take-append-drop}
use Rattle.isle_syntax.specs.declared.lexer.Token.{Token}
use Rattle.isle_rules.specs.Values.{ValueTree}
use Rattle.isle_values.specs.Values.TextTokens.{AreTokensOf}
use Rattle.isle_values.specs.Values.Tokens.{tokens_of, SpellValue}
use Rattle.isle_values.proofs.values.Value.read.Goals as goal

-- the value at the front of tokens
abbrev IsReadFrom : List Token → Option (ValueTree × ℕ) → Type 0
IsReadFrom tokens r = IfSome r (λ p. (p.1 ≤ length tokens) × SpellValue (take p.1 tokens) p.0)

-- some are left behind it
behind : (tokens : List Token) (count : ℕ) → count < length tokens → drop count tokens ≡ [] → ⊥
behind tokens count more none = let left = ap length none in let len = length-drop count tokens in omega (arith, left, len, more)

pub returns-then-count-len-clause-refused : goal.returns-then-count-len-clause-refused
returns-then-count-len-clause-refused c =
    let tokens = c.in-Ok.tokens.items in let count = c.in-Some.count in let v = c.in-Some.value in
    let read : IsReadFrom c.as_slice.result.now (Some (v, count)) = subst (IsReadFrom c.as_slice.result.now)
    c.in-Some.is c.in_ok-value.ensures.some in
    let (spellable, spelt) = subst (λ l. SpellValue (take count l) v) c.as_slice.ensures.value read.1 in
    let split : tokens ≡ tokens_of v ++ drop count tokens = sym (take-append-drop count tokens) ∙ ap (λ l. l ++ drop count tokens) spelt in (
      v,
      drop count tokens,
      spellable,
      subst (AreTokensOf c.args.text.now) split c.in-Ok.ensures.tokens,
      behind tokens count (let more = c.if-count-len.true in let len = c.len.ensures in let ok = c.in-Ok.tokens.ok.0 in
          omega (arith, more, len, ok)),
    )
