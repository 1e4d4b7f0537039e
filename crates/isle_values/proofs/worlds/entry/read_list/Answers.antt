use Rattle.std.proofs.Common.{◌≤◌, ℕ, List, Option, Some, length, take, drop, sym, ◌∙◌, ap, subst, arith}
use Rattle.std.specs.Prelude.{IfSome, IfNone}
use Rattle.std.proofs.lemmas.List.{length-drop, take_rest}
use Rattle.isle_syntax.specs.declared.lexer.Token.{Token}
use Rattle.isle_rules.specs.Values.{ValueTree, value_list}
use Rattle.isle_values.specs.Values.Tokens.{tokens_all, AreSpellable, SpellValue, HaveNoValue}
use Rattle.isle_values.proofs.GroundValues.ReadValues.{some_count, spelt_behind, pushed_spellable}
use Rattle.isle_values.proofs.TableWorlds.EntryParts.{closing_at, left_past, none_left, none_at_end}
use Rattle.isle_values.proofs.worlds.entry.read_list.Goals as goal

-- the value at the front of tokens
abbrev IsReadFrom : List Token → Option (ValueTree × ℕ) → Type 0
IsReadFrom tokens r = IfSome r (λ p. (p.1 ≤ length tokens) × SpellValue (take p.1 tokens) p.0)

pub loop-at-smaller : goal.loop-at-smaller
loop-at-smaller c =
    let tokens = c.args.tokens.now in let at = c.loop-at.at in
    let read : IsReadFrom (drop at tokens) (Some (c.in-Some.value, c.in-Some.count)) =
    subst (IsReadFrom (drop at tokens)) c.in-Some.is (subst (λ l. IsReadFrom l c.in_ok-value.field-0)
    (take_rest tokens at) c.in_ok-value.ensures.some) in
    let some = some_count (drop at tokens) c.in-Some.count c.in-Some.value read.1.1 in
    let more = c.loop-at-test.true in omega (arith, some, more)

pub loop-at-preserved : goal.loop-at-preserved
loop-at-preserved c =
    let tokens = c.args.tokens.now in let at = c.loop-at.at in let vs = c.loop-at.values.items in let v = c.in-Some.value in
    let count = c.in-Some.count in
    let (within, spellable, so_far, left) = c.loop-at.invariant in
    let read : IsReadFrom (drop at tokens) (Some (c.in-Some.value, c.in-Some.count)) =
    subst (IsReadFrom (drop at tokens)) c.in-Some.is (subst (λ l. IsReadFrom l c.in_ok-value.field-0)
    (take_rest tokens at) c.in_ok-value.ensures.some) in
    let items = c.in_ok-push.ensures.items in
    let len = length-drop at tokens in let more = c.loop-at-test.true in let fits = read.0 in (
      omega (arith, len, more, fits),
      subst (λ l. AreSpellable (value_list l)) (sym items) (pushed_spellable vs v spellable read.1.0),
      spelt_behind tokens at count vs v so_far read.1.1 ∙ ap (λ l. tokens_all (value_list l)) (sym items),
      λ all rest fine spelt. left_past tokens at count v rest read.1.0 read.1.1 (left all rest fine spelt),
    )

pub returns-in_default-clause-none : goal.returns-in_default-clause-none
returns-in_default-clause-none c = λ vs rest fine spelt.
    let tokens = c.args.tokens.now in let at = c.loop-at.at in
    let (within, spellable, so_far, left) = c.loop-at.invariant in
    let never : HaveNoValue (drop at tokens) =
    subst (λ (o : Option (ValueTree × ℕ)). IfNone o (HaveNoValue (drop at tokens))) c.in_default.is
    (subst (λ l. IfNone c.in_ok-value.field-0 (HaveNoValue l)) (take_rest tokens at) c.in_ok-value.ensures.none) in
    none_left (drop at tokens) rest (λ more e. let yes = c.is_closing.ensures.no
    (c.index-tokens-at.is ∙ closing_at tokens at c.index-tokens-at.result more c.loop-at-test.true e) in
    let no = c.if-is_closing.false in absurd cc) never (left vs rest fine spelt)

pub returns-clause-none : goal.returns-clause-none
returns-clause-none c = λ vs rest fine spelt.
    let (within, spellable, so_far, left) = c.loop-at.invariant in
    none_at_end c.args.tokens.now rest c.loop-at.at c.loop-at-test.false (left vs rest fine spelt)
