-- The errors of rules that never match, rule after rule.
use Rattle.std.proofs.Common.{◌≡◌, ◌<◌, ◌+◌, ◌↔◌, inl, inr, arith, ◌∷◌, [], ◌++◌, ℕ, suc, Bool, List, Some, length, take, slice_get, refl, sym, ◌∙◌, ap, subst}
use Rattle.std.specs.List.{AllZip}
use Rattle.isle_ast.specs.declared.error.Error.{Error}
use Rattle.std.proofs.lemmas.Option.{same_Some, slice_get_cases}
use Rattle.isle_containers.proofs.Lists.{taken_more}
use Rattle.isle_rules.specs.declared.rules.Rule.{Rule}
use Rattle.isle_rules.specs.TypedRules.{TypedRule}
use Rattle.isle_meaning.specs.Facts.{TermFacts}
use Rattle.isle_blocks.specs.Inside.Building.Contents.{Marked}
use Rattle.isle_blocks.specs.RuleFaults.{NeverMatches, IsUnreachableAt, TellUnreachable, one_may_match, one_never_matches, unreachable_error}
use Rattle.isle_blocks.proofs.Sets.GatheredRules.{zipped_back}

-- the marks say which rules never match
pub record Tells (facts : TermFacts) (typed : List TypedRule) (rules : List Rule) (lost : List Bool) : Type 0 where
  pub positions : AllZip (λ made rule. rule.pos ≡ made.pos) typed rules
  pub marks : (i : ℕ) → Marked lost i ↔ IsUnreachableAt facts typed i

-- as many rules as typed rules
pub as_long : (facts : TermFacts) (typed : List TypedRule) (rules : List Rule) → AllZip (λ made rule. rule.pos ≡ made.pos) typed rules
    → length typed ≡ length rules
as_long facts [] [] each = refl
as_long facts [] (r ∷ rules) each = absurd each
as_long facts (t ∷ typed) [] each = absurd each
as_long facts (t ∷ typed) (r ∷ rules) each = ap suc (as_long facts typed rules each.1)

module _ (facts : TermFacts) (typed : List TypedRule) (rules : List Rule) (lost : List Bool) (tells : Tells facts typed rules lost) where
  -- a rule that is not marked
  pub next_may : (place : ℕ) (errors : List Error) → place < length rules → (Marked lost place → ⊥)
      → TellUnreachable facts (take place typed) errors → TellUnreachable facts (take (place + 1) typed) errors
  next_may place errors within free told = elim ((slice_get_cases typed place).1) [
    | inl (made, inside, there, same) ↦
        subst (λ (l : List TypedRule). TellUnreachable facts l errors) (sym (taken_more typed place made there))
        (one_may_match made (λ never. free ((tells.marks place).1 (record { rule = made; at = there; never = never }))) told)
    | inr (past, none) ↦ let same = as_long facts typed rules tells.positions in absurd (omega arith)
  ]

  -- one that is
  pub next_never : (place : ℕ) (rule : Rule) (errors : List Error) → slice_get rules place ≡ Some rule → Marked lost place
      → TellUnreachable facts (take place typed) errors
      → TellUnreachable facts (take (place + 1) typed) (errors ++ unreachable_error rule.pos ∷ [])
  next_never place rule errors at marked told =
      let (made, there, same) = zipped_back (λ (made : TypedRule) (rule : Rule). rule.pos ≡ made.pos) typed rules tells.positions place rule at in
      let unreachable = (tells.marks place).0 marked in
      let one : unreachable.rule ≡ made = same_Some unreachable.rule made (sym unreachable.at ∙ there) in
      subst (λ (e : Error). TellUnreachable facts (take (place + 1) typed) (errors ++ e ∷ [])) (ap unreachable_error (sym same))
      (subst (λ (l : List TypedRule). TellUnreachable facts l (errors ++ unreachable_error made.pos ∷ [])) (sym (taken_more typed place made there))
      (one_never_matches made (subst (λ (r : TypedRule). NeverMatches facts r) one unreachable.never) told))
