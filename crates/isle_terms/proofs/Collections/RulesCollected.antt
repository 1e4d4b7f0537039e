-- The typed rules so far, one rule after the other.
use Rattle.std.proofs.Common.{◌≡◌, ◌≢◌, ℕ, ◌+◌, ◌≤◌, List, [], ◌∷◌, ◌++◌, length, take, Some, refl, sym, subst, slice_get}
use Rattle.std.specs.List.{AllZip}
use Rattle.std.specs.Prelude.{Vec}
use Rattle.std.specs.Global.{Global}
use Rattle.std.proofs.Common.{zero-add, ◌∙◌}
use Rattle.std.proofs.lemmas.List.{take_all}
use Rattle.std.proofs.lemmas.Slice.Zip.{all_zipped_more}
use Rattle.isle_ast.specs.declared.ast.Rule.{Rule as RuleTree}
use Rattle.isle_ast.specs.declared.pos.Pos.{Pos}
use Rattle.isle_ast.specs.declared.error.Error.{Error}
use Rattle.isle_ast.specs.declared.error.Span.{Span}
use Rattle.isle_ast.specs.declared.refusal.Refusal.{Refusal}
use Rattle.isle_ast.specs.declared.refusal.Refusal.TheVariants.{Fault, Memory}
use Rattle.isle_ast.specs.Errors.{ErrorKind, parse_error, type_error, unreachable_rule, overlapping_rules, shadowing_rule, size_error}
use Rattle.isle_ast.specs.Errors.{error_kind, spans_of, IfFault, IsFaultAnd}
use Rattle.isle_types.specs.Names.{KeepsNames}
use Rattle.isle_types.specs.TypeFaults.{StartsWhere, IsTypeOrSize, IsTypeFault, IsSizeFault}
use Rattle.isle_types.proofs.FieldReadings.{count_more}
use Rattle.isle_containers.proofs.Lists.{AllZip-weaker, taken_more}
use Rattle.isle_rules.specs.declared.rules.Rule.{Rule}
use Rattle.isle_rules.specs.TypedRules.{TypedRule}
use Rattle.isle_rules.specs.Signatures.{Declared}
use Rattle.isle_rules.specs.Elaboration.{ElaboratesRule}
use Rattle.isle_terms.specs.RuleReaching.{IsIllRule}
use Rattle.isle_terms.proofs.Collections.AddedErrors.{adds_one, adds_checks}
use Rattle.isle_terms.proofs.Collections.Checking.{check_both}
use Rattle.isle_terms.specs.Inside.Collecting.Checks.{Checks}
use Rattle.isle_rules.specs.Shown.RulesShown.{IsShownRule}
use Rattle.isle_terms.specs.TypingFaults.{IsLoneSize}
use Rattle.isle_terms.specs.Inside.Collecting.RuleChecks.{IsLargeAt, IsIllAmong, IsLargeAmong, AreTyped}
use Rattle.isle_terms.proofs.Collections.Checking.{check_same}
use Rattle.isle_terms.proofs.Showing.RulesShown.{rule_kept}

-- where the kind is no size error, what is broken is so
type_fault : (Ill Large Broken : Pos → Type 0) → ((at : Pos) → Ill at → Broken at) → (kind : ErrorKind) (spans : List Span)
    → (kind ≢ size_error) → StartsWhere Ill Large kind spans → StartsWhere Broken (λ _. ⊥) kind spans
type_fault Ill Large Broken weaker parse_error spans other starts = absurd starts
type_fault Ill Large Broken weaker type_error [] other starts = absurd starts
type_fault Ill Large Broken weaker type_error (span ∷ []) other starts = weaker span.from starts
type_fault Ill Large Broken weaker type_error (span ∷ (next ∷ spans)) other starts = absurd starts
type_fault Ill Large Broken weaker unreachable_rule spans other starts = absurd starts
type_fault Ill Large Broken weaker overlapping_rules spans other starts = absurd starts
type_fault Ill Large Broken weaker shadowing_rule spans other starts = absurd starts
type_fault Ill Large Broken weaker size_error spans other starts = absurd (other refl)

-- where the kind is a size error, what is exceeded is so
size_fault : (Ill Large Exceeded : Pos → Type 0) → ((at : Pos) → Large at → Exceeded at) → (kind : ErrorKind) (spans : List Span)
    → (kind ≡ size_error) → StartsWhere Ill Large kind spans → StartsWhere (λ _. ⊥) Exceeded kind spans
size_fault Ill Large Exceeded weaker parse_error spans is starts = absurd starts
size_fault Ill Large Exceeded weaker type_error spans is starts = cc
size_fault Ill Large Exceeded weaker unreachable_rule spans is starts = absurd starts
size_fault Ill Large Exceeded weaker overlapping_rules spans is starts = absurd starts
size_fault Ill Large Exceeded weaker shadowing_rule spans is starts = absurd starts
size_fault Ill Large Exceeded weaker size_error [] is starts = absurd starts
size_fault Ill Large Exceeded weaker size_error (span ∷ []) is starts = weaker span.from starts
size_fault Ill Large Exceeded weaker size_error (span ∷ (next ∷ spans)) is starts = absurd starts

-- a type error is added
check_error : {Broken : Pos → Type 0} {Kept Also : Type 0} {old mid : List Error} (new : List Error) (error : Error) → new ≡ mid ++ error ∷ []
    → IsTypeFault Broken error → Checks Broken Kept old mid → Checks Broken Also old new
check_error {Broken} {Kept} {Also} {old} {mid} new error is broken checks =
    let one = adds_checks Broken Also mid new (adds_one Broken Also mid new error is broken) in
    check_same new refl (λ both. both.1) (check_both checks one)

-- an error alone is a size error, where a size is exceeded
alone_is_lone : (Exceeded : Pos → Type 0) (alone : List Error) (error : Error) → alone ≡ error ∷ [] → IsSizeFault Exceeded error
    → IsLoneSize Exceeded alone
alone_is_lone Exceeded alone error is fault = subst (IsLoneSize Exceeded) (sym is) fault

module _ (declared : Declared) (levels max : ℕ) (trees : List RuleTree) where
  -- an ill-typed rule is reported
  pub rule_reported : {Kept Also : Type 0} {old mid new : List Error} (i : ℕ) (tree : RuleTree) (refusal : Refusal Error)
      → slice_get trees i ≡ Some tree → IfFault refusal (IsTypeOrSize (IsIllRule declared levels tree) (IsLargeAt declared levels max tree))
      → IsFaultAnd refusal (λ error. (¬ (error_kind error ≡ size_error)) × (new ≡ mid ++ error ∷ []))
      → Checks (IsIllAmong declared levels trees) Kept old mid → Checks (IsIllAmong declared levels trees) Also old new
  rule_reported {Kept} {Also} {old} {mid} {new} i tree (Memory e) here fault kept checks = absurd kept
  rule_reported {Kept} {Also} {old} {mid} {new} i tree (Fault error) here fault kept checks =
      check_error new error kept.1
      (type_fault (IsIllRule declared levels tree) (IsLargeAt declared levels max tree) (IsIllAmong declared levels trees)
      (λ at ill. (tree, (i, here), ill)) (error_kind error) (spans_of error) kept.0 fault) checks

  -- a rule that is too large is refused alone
  pub rule_alone : (i : ℕ) (tree : RuleTree) (refusal : Refusal Error) (answer : Refusal (Vec Error Global)) → slice_get trees i ≡ Some tree
      → IfFault refusal (IsTypeOrSize (IsIllRule declared levels tree) (IsLargeAt declared levels max tree))
      → IfFault answer (λ alone. IsFaultAnd refusal (λ error. (error_kind error ≡ size_error) × (alone.items ≡ error ∷ [])))
      → IfFault answer (λ alone. IsLoneSize (IsLargeAmong declared levels max trees) alone.items)
  rule_alone i tree refusal (Memory e) here fault size = tt
  rule_alone i tree (Memory e) (Fault alone) here fault size = absurd size
  rule_alone i tree (Fault error) (Fault alone) here fault size =
      alone_is_lone (IsLargeAmong declared levels max trees) alone.items error size.1
      (size_fault (IsIllRule declared levels tree) (IsLargeAt declared levels max tree) (IsLargeAmong declared levels max trees)
      (λ at large. (tree, (i, here), large)) (error_kind error) (spans_of error) size.0 fault)

  -- the typed rules so far, and one more, whose names are interned behind the others
  typed_more : (names more : List (List ℕ)) (i : ℕ) (made : List Rule) (tree : RuleTree) (typed : TypedRule) (rule : Rule) → KeepsNames names more
      → slice_get trees i ≡ Some tree → ElaboratesRule declared levels max tree typed → IsShownRule more typed rule → rule.id.0 ≡ length made
      → AreTyped declared levels max (take i trees) names made → AreTyped declared levels max (take (i + 1) trees) more (made ++ rule ∷ [])
  typed_more names more i made tree typed rule keeps here stands shown id before = record {
    typed = before.typed ++ typed ∷ [];
    stand = subst (λ ts. AllZip (ElaboratesRule declared levels max) ts (before.typed ++ typed ∷ [])) (sym (taken_more trees i tree here))
        (all_zipped_more (ElaboratesRule declared levels max) (take i trees) before.typed tree typed before.stand stands);
    shown = all_zipped_more (IsShownRule more) before.typed made typed rule
        (AllZip-weaker (IsShownRule names) (IsShownRule more) (rule_kept names more keeps) before.typed made before.shown) shown;
    numbers = count_more (λ (rule : Rule). rule.id.0) 0 made rule before.numbers (id ∙ sym (zero-add (length made)));
  }

  -- a typed rule is added
  pub rule_added : {old mid : List Error} (new : List Error) (names more : List (List ℕ)) (i : ℕ) (made : List Rule) (tree : RuleTree)
      (typed : TypedRule) (rule : Rule) → new ≡ mid → KeepsNames names more → slice_get trees i ≡ Some tree
      → ElaboratesRule declared levels max tree typed → IsShownRule more typed rule → rule.id.0 ≡ length made
      → Checks (IsIllAmong declared levels trees) (AreTyped declared levels max (take i trees) names made) old mid
      → Checks (IsIllAmong declared levels trees) (AreTyped declared levels max (take (i + 1) trees) more (made ++ rule ∷ [])) old new
  rule_added new names more i made tree typed rule same keeps here stands shown id checks =
      check_same new same (typed_more names more i made tree typed rule keeps here stands shown id) checks

  -- all rules were come to
  pub rules_done : {old new : List Error} (names : List (List ℕ)) (i : ℕ) (made : List Rule) → length trees ≤ i
      → Checks (IsIllAmong declared levels trees) (AreTyped declared levels max (take i trees) names made) old new
      → Checks (IsIllAmong declared levels trees) (AreTyped declared levels max trees names made) old new
  rules_done names i made past checks =
      check_same _ refl (λ typed. subst (λ ts. AreTyped declared levels max ts names made) (take_all i trees past) typed) checks
