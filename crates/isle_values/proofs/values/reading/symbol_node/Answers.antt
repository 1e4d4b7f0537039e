use Rattle.std.proofs.Common.{◌≡◌, ◌<◌, ℕ, List, [], ◌∷◌, sym, refl, ◌∙◌, ap, subst, IfSome, IfNone, MatchOption, true, false, arith, rules}
use Rattle.std.specs.Prelude.{codes}
use Rattle.std.specs.Fmt.{decimal}
use Rattle.std.specs.Str.{bytes_eq}
use Rattle.std.proofs.lemmas.Slice.Eq.{bytes_eq-Decides}
use Rattle.std.proofs.lemmas.Bool.Decides.{not_from_Decides}
use Rattle.std.proofs.lemmas.Str.Pattern.{strip_prefix_char}
use Rattle.isle_syntax.specs.Tokens.Names.{is_const_name}
use Rattle.isle_syntax.specs.declared.lexer.Token.TheVariants.{Symbol}
use Rattle.isle_rules.specs.Values.{bool_tree, const_tree, opaque_tree}
use Rattle.isle_values.specs.declared.values.Node.TheVariants.{Const}
use Rattle.isle_values.proofs.GroundValues.Reading.{unknown_symbol, front_of}
use Rattle.isle_values.proofs.values.reading.symbol_node.Goals as goal

pub returns-then-eq-clause-some : goal.returns-then-eq-clause-some
returns-then-eq-clause-some c =
    let same = (bytes_eq-Decides c.args.symbol.now (codes "true")).0 (sym c.if-eq.ensures) in
    (bool_tree true, tt, ap (λ s. Symbol s ∷ []) (sym same), refl)

pub returns-then-eq-2-clause-some : goal.returns-then-eq-2-clause-some
returns-then-eq-2-clause-some c =
    let same = (bytes_eq-Decides c.args.symbol.now (codes "false")).0 (sym c.if-eq-2.ensures) in
    (bool_tree false, tt, ap (λ s. Symbol s ∷ []) (sym same), refl)

-- another symbol than a word
other : (symbol word : List ℕ) → bytes_eq symbol word ≡ false → symbol ≡ word → ⊥
other symbol word e = not_from_Decides (bytes_eq symbol word) (bytes_eq-Decides symbol word) e

pub returns-in_ok-from_str-clause-some : goal.returns-in_ok-from_str-clause-some
returns-in_ok-from_str-clause-some c =
    let found = subst (λ r. MatchOption r ((rest : List ℕ) → c.args.symbol.now ≡ 36 ∷ rest → ⊥) (λ x. c.args.symbol.now ≡ 36 ∷ x.now)) c.in-Some.is
    (strip_prefix_char 36 c.args.symbol.now c.strip_prefix.result c.strip_prefix.ensures.cases (omega arith)) in (
      const_tree c.in-Some.name.now,
      sym c.if-is_const_name.ensures,
      ap (λ s. Symbol s ∷ []) (sym found),
      ap (λ s. Const s ∷ []) (sym c.in_ok-from_str.ensures),
    )

pub returns-else-is_const_name-clause-none : goal.returns-else-is_const_name-clause-none
returns-else-is_const_name-clause-none c =
    let found = subst (λ r. MatchOption r ((rest : List ℕ) → c.args.symbol.now ≡ 36 ∷ rest → ⊥) (λ x. c.args.symbol.now ≡ 36 ∷ x.now)) c.in-Some.is
    (strip_prefix_char 36 c.args.symbol.now c.strip_prefix.result c.strip_prefix.ensures.cases (omega arith)) in
    unknown_symbol c.args.symbol.now (other c.args.symbol.now (codes "true") (sym c.if-eq.ensures))
    (other c.args.symbol.now (codes "false") (sym c.if-eq-2.ensures))
    (λ name is e. let both : 36 ∷ c.in-Some.name.now ≡ 36 ∷ name = sym found ∙ e in
    let same : c.in-Some.name.now ≡ name = cc in
    let no : false ≡ is_const_name name = c.if-is_const_name.ensures ∙ ap is_const_name same in
    let never : false ≡ true = no ∙ is in absurd cc)
    (λ n p e. let both : 36 ≡ 118 = ap front_of (sym found ∙ e) in omega (arith, both))

pub returns-in-Some-2-clause-some : goal.returns-in-Some-2-clause-some
returns-in-Some-2-clause-some c =
    let found = subst (λ r. MatchOption r ((rest : List ℕ) → c.args.symbol.now ≡ 118 ∷ rest → ⊥) (λ x. c.args.symbol.now ≡ 118 ∷ x.now))
    c.in-Some-strip_prefix.is
    (strip_prefix_char 118 c.args.symbol.now c.strip_prefix-2.result c.strip_prefix-2.ensures.cases (omega arith)) in
    let digits = subst (λ r. IfSome r (λ n. decimal n ≡ c.in-Some-strip_prefix.digits.now)) c.in-Some-2.is c.in_ok-number.ensures.some in
    (opaque_tree c.in-Some-2.number, search rules, ap (λ s. Symbol (118 ∷ s) ∷ []) digits ∙ ap (λ s. Symbol s ∷ []) (sym found), refl)

pub returns-in-None-clause-none : goal.returns-in-None-clause-none
returns-in-None-clause-none c =
    let found = subst (λ r. MatchOption r ((rest : List ℕ) → c.args.symbol.now ≡ 118 ∷ rest → ⊥) (λ x. c.args.symbol.now ≡ 118 ∷ x.now))
    c.in-Some-strip_prefix.is
    (strip_prefix_char 118 c.args.symbol.now c.strip_prefix-2.result c.strip_prefix-2.ensures.cases (omega arith)) in
    let never = subst (λ r. IfNone r ((n : ℕ) → n < 18446744073709551616 → decimal n ≡ c.in-Some-strip_prefix.digits.now → ⊥))
    c.in-None.is c.in_ok-number.ensures.none in
    unknown_symbol c.args.symbol.now (other c.args.symbol.now (codes "true") (sym c.if-eq.ensures))
    (other c.args.symbol.now (codes "false") (sym c.if-eq-2.ensures))
    (λ name is e. let both : 118 ≡ 36 = ap front_of (sym found ∙ e) in omega (arith, both))
    (λ n p e. never n p (sym (let both : 118 ∷ c.in-Some-strip_prefix.digits.now ≡ 118 ∷ decimal n = sym found ∙ e in
    let same : c.in-Some-strip_prefix.digits.now ≡ decimal n = cc in same)))

pub returns-clause-none : goal.returns-clause-none
unfolding lib.Utf8.encode
returns-clause-none c =
    unknown_symbol c.args.symbol.now (other c.args.symbol.now (codes "true") (sym c.if-eq.ensures))
    (other c.args.symbol.now (codes "false") (sym c.if-eq-2.ensures))
    (λ name is e. c.in_default.ensures.cases name e) (λ n p e. c.in_default-strip_prefix.ensures.cases (decimal n) e)
