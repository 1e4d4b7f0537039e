-- Rules are typed one by one under what tables show.
use Rattle.std.proofs.Common.{◌≡◌, ℕ, refl, sym, subst}
use Rattle.isle_ast.specs.declared.ast.Rule.{Rule as RuleTree}
use Rattle.isle_ast.specs.declared.pos.Pos.{Pos}
use Rattle.isle_ast.specs.declared.error.Error.{Error}
use Rattle.isle_ast.specs.declared.refusal.Refusal.{Refusal}
use Rattle.isle_ast.specs.declared.refusal.Refusal.TheVariants.{Fault, Memory}
use Rattle.isle_ast.specs.Errors.{type_error, size_error, error_kind, spans_of, IfFault, IsFaultAnd}
use Rattle.isle_types.specs.TypeFaults.{StartsWhere, IsTypeOrSize}
use Rattle.isle_types.specs.TypeTables.{TypeTables}
use Rattle.isle_types.proofs.Reading.{fault_weaker}
use Rattle.isle_rules.specs.TypedRules.{TypedRule}
use Rattle.isle_rules.specs.Signatures.{Declared}
use Rattle.isle_rules.specs.Elaboration.{State, ElaboratesRule}
use Rattle.isle_terms.specs.RuleReaching.{IsIllRule, IsLargeRule}
use Rattle.isle_terms.specs.Inside.Readings.Outcomes.{Outcome, stands_for, ill_at, exceeds}
use Rattle.isle_terms.specs.Inside.Readings.Telling.{Tells}
use Rattle.isle_rules.specs.Shown.TermTables.{TermTables}
use Rattle.isle_terms.specs.Inside.Shown.KnownNames.{known_of}
use Rattle.isle_rules.specs.Shown.ShownTerms.{ShowsDeclared}
use Rattle.isle_terms.specs.Inside.Collecting.RuleRoots.{read_whole}
use Rattle.isle_terms.specs.Inside.Collecting.RuleChecks.{HasSomeRoot, IsLargeAt}
use Rattle.isle_terms.specs.Inside.Readings.Failures.{IsErrorAt, Fails}
use Rattle.isle_terms.proofs.Exact.KnownSame.{known_same}
use Rattle.isle_terms.proofs.Collections.RuleRoots.{whole_tells}

-- a type error at a position is one where that is broken
broken_at : (Broken Passed : Pos → Type 0) (at : Pos) (error : Error) → IsErrorAt type_error at error → Broken at → IsTypeOrSize Broken Passed error
broken_at Broken Passed at error is broken =
    subst (λ kind. StartsWhere Broken Passed kind (spans_of error)) (sym is.0)
    (subst (StartsWhere Broken Passed type_error) (sym is.1) broken)

-- a size error at a position is one where that is exceeded
passed_at : (Broken Passed : Pos → Type 0) (at : Pos) (error : Error) → IsErrorAt size_error at error → Passed at → IsTypeOrSize Broken Passed error
passed_at Broken Passed at error is passed =
    subst (λ kind. StartsWhere Broken Passed kind (spans_of error)) (sym is.0)
    (subst (StartsWhere Broken Passed size_error) (sym is.1) passed)

-- what is refused is ill or too large, where an outcome tells the truth
refused_so : {A : Type 0} (max : ℕ) (rule : Pos) (Stands : A → State → Type 0) (Ill : Pos → Type 0) (Large : Type 0) (o : Outcome A)
    (e : Refusal Error) → Tells max Stands Ill Large o → Fails rule o e → IfFault e (IsTypeOrSize Ill (λ at. (at ≡ rule) × Large))
refused_so max rule Stands Ill Large (stands_for v s) e tells fails = fault_weaker (λ error. ⊥) _ e (λ error h. absurd h) fails
refused_so max rule Stands Ill Large (ill_at at) e tells fails =
    fault_weaker (IsErrorAt type_error at) _ e (λ error is. broken_at Ill (λ at. (at ≡ rule) × Large) at error is tells) fails
refused_so max rule Stands Ill Large exceeds e tells fails =
    fault_weaker (IsErrorAt size_error rule) _ e (λ error is. passed_at Ill (λ at. (at ≡ rule) × Large) rule error is (refl, tells)) fails

-- what reading a rule comes to under tables is so
told_by_tables : (tyenv : TypeTables) (env : TermTables) (declared : Declared) (max levels : ℕ) (tree : RuleTree) → ShowsDeclared tyenv env declared
    → HasSomeRoot declared tree
    → Tells max (λ typed s. ElaboratesRule declared levels max tree typed) (IsIllRule declared levels tree) (IsLargeRule declared levels max tree)
    (read_whole (known_of tyenv env) max levels tree)
told_by_tables tyenv env declared max levels tree shows root =
    subst (λ known. Tells max (λ typed s. ElaboratesRule declared levels max tree typed) (IsIllRule declared levels tree)
    (IsLargeRule declared levels max tree) (read_whole known max levels tree)) (sym (known_same tyenv env declared shows))
    (whole_tells declared max levels root.term root.flags root.args tree root.root)

-- a rule that is read stands for what it is read as
pub rule_stands : (tyenv : TypeTables) (env : TermTables) (declared : Declared) (max levels : ℕ) (tree : RuleTree) (typed : TypedRule) (s : State)
    → ShowsDeclared tyenv env declared → HasSomeRoot declared tree → read_whole (known_of tyenv env) max levels tree ≡ stands_for typed s
    → ElaboratesRule declared levels max tree typed
rule_stands tyenv env declared max levels tree typed s shows root is =
    let told : Tells max (λ typed s. ElaboratesRule declared levels max tree typed) (IsIllRule declared levels tree)
    (IsLargeRule declared levels max tree) (stands_for typed s) =
    subst (Tells max (λ typed s. ElaboratesRule declared levels max tree typed) (IsIllRule declared levels tree)
    (IsLargeRule declared levels max tree)) is (told_by_tables tyenv env declared max levels tree shows root) in
    told.0

-- a rule that is refused is ill or too large
pub rule_refused : (tyenv : TypeTables) (env : TermTables) (declared : Declared) (max levels : ℕ) (tree : RuleTree) (e : Refusal Error)
    → ShowsDeclared tyenv env declared → HasSomeRoot declared tree → Fails tree.pos (read_whole (known_of tyenv env) max levels tree) e
    → IfFault e (IsTypeOrSize (IsIllRule declared levels tree) (IsLargeAt declared levels max tree))
rule_refused tyenv env declared max levels tree e shows root fails =
    refused_so max tree.pos (λ typed s. ElaboratesRule declared levels max tree typed) (IsIllRule declared levels tree)
    (IsLargeRule declared levels max tree) (read_whole (known_of tyenv env) max levels tree) e
    (told_by_tables tyenv env declared max levels tree shows root) fails

-- a rule's fault that is told in other words is of its kind, where it stood
pub rule_met : (Ill Large : Pos → Type 0) (refusal answer : Refusal Error)
    → IfFault answer (λ told. IsFaultAnd refusal (λ error. (error_kind told ≡ error_kind error) × (spans_of told ≡ spans_of error)))
    → IfFault refusal (IsTypeOrSize Ill Large) → IfFault answer (IsTypeOrSize Ill Large)
rule_met Ill Large refusal (Memory e) met fault = tt
rule_met Ill Large (Memory e) (Fault told) met fault = absurd met
rule_met Ill Large (Fault error) (Fault told) met fault =
    subst (λ kind. StartsWhere Ill Large kind (spans_of told)) (sym met.0) (subst (StartsWhere Ill Large (error_kind error)) (sym met.1) fault)
