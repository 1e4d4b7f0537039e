-- What a refusal lists means that definitions make no environment, and stands where they do.
use Rattle.std.proofs.Common.{ℕ, zero, suc, Bool, inl, inr, List, [], ◌∷◌, arith, refl, sym, subst, ◌∙◌, ap}
use Rattle.std.specs.Prelude.{All}
use Rattle.std.proofs.lemmas.List.Elements.{All-nil, All-cons, All-head, All-weaker}
use Rattle.isle_ast.specs.declared.ast.Def.{Def}
use Rattle.isle_ast.specs.declared.pos.Pos.{Pos}
use Rattle.isle_ast.specs.declared.error.Span.{Span}
use Rattle.isle_ast.specs.declared.error.Error.{Error}
use Rattle.isle_ast.specs.declared.error.Error.TheVariants.{TypeError, SizeError, ParseError, UnreachableError, OverlapError, ShadowedError}
use Rattle.isle_ast.specs.Errors.{ErrorAt}
use Rattle.isle_ast.specs.Positions.DefPositions.{DefAt, RuleAt}
use Rattle.isle_types.specs.Environment.{Environment, Makes}
use Rattle.isle_types.specs.TypeFaults.{IsTypeOrSize, IsTypeFault}
use Rattle.isle_types.proofs.TypeReadings.{reading_then}
use Rattle.isle_types.specs.TypeTables.{TypeTables}
use Rattle.isle_rules.specs.TypedRules.{TypedRule}
use Rattle.isle_rules.specs.TypedTrees.{TypedRuleAt}
use Rattle.isle_rules.specs.Shown.TermTables.{TermTables}
use Rattle.isle_rules.specs.Shown.RulesShown.{IsShownRule}
use Rattle.isle_rules.specs.Shown.RulesShown.{ShowsTerms}
use Rattle.isle_rules.specs.Definitions.{HaveTerms, rules_in, IsRuleOf, declared_by}
use Rattle.isle_terms.specs.TypingFaults.{BreaksTyping, ExceedsTyping, AreTypingFaults}
use Rattle.isle_terms.proofs.BrokenTyping.{broken_typing_makes_none, exceeding_typing_makes_none}
use Rattle.isle_terms.proofs.Showing.TypingPlaces.{breaks_at, exceeds_at, made_types_at, Each, each_related, rules_at}

-- an error that is nowhere is none
nowhere : (error : Error) → IsTypeOrSize (λ _. ⊥) (λ _. ⊥) error → ⊥
nowhere (TypeError _ span) fault = fault
nowhere (SizeError _ span) fault = fault
nowhere (ParseError _ _) fault = fault
nowhere (UnreachableError _ _) fault = fault
nowhere (OverlapError _ _) fault = fault
nowhere (ShadowedError _ _) fault = fault

-- where a refusal lists faults, definitions make no environment
pub faults_make_none : (types : Environment) (expands : Bool) (levels max : ℕ) (defs : List Def) (errors : List Error)
    → AreTypingFaults types expands levels max defs errors → HaveTerms types expands levels max defs → ⊥
faults_make_none types expands levels max defs [] (inl lone) have = absurd lone
faults_make_none types expands levels max defs (error ∷ []) (inl lone) have =
    nowhere error (reading_then (λ _. ⊥) (ExceedsTyping types expands levels max defs) (λ _. ⊥) (λ _. ⊥) (λ _ none. none)
    (exceeding_typing_makes_none types expands levels max defs have.0 have.1) error lone)
faults_make_none types expands levels max defs (error ∷ (other ∷ others)) (inl lone) have = absurd lone
faults_make_none types expands levels max defs [] (inr faults) have = absurd (omega (arith, faults.1))
faults_make_none types expands levels max defs (error ∷ others) (inr faults) have =
    nowhere error (reading_then (BreaksTyping types expands levels defs) (λ _. ⊥) (λ _. ⊥) (λ _. ⊥)
    (broken_typing_makes_none types expands levels max defs have.0 have.1 levels) (λ _ none. none) error
    (All-head (IsTypeFault (BreaksTyping types expands levels defs)) error others faults.0))

one_span : (At : Pos → Type 0) (span : Span) → At span.from → All (λ (s : Span). At s.from) (span ∷ [])
one_span At span at = All-cons (λ (s : Span). At s.from) span [] at (All-nil (λ (s : Span). At s.from))

-- an error stands where all faults do
fault_at : (At Broken Exceeded : Pos → Type 0) → ((at : Pos) → Broken at → At at) → ((at : Pos) → Exceeded at → At at) → (error : Error)
    → IsTypeOrSize Broken Exceeded error → ErrorAt At error
fault_at At Broken Exceeded broken exceeded (TypeError message span) fault =
    record { named = omega arith; placed = one_span At span (broken span.from fault) }
fault_at At Broken Exceeded broken exceeded (SizeError message span) fault =
    record { named = omega arith; placed = one_span At span (exceeded span.from fault) }
fault_at At Broken Exceeded broken exceeded (ParseError _ _) fault = absurd fault
fault_at At Broken Exceeded broken exceeded (UnreachableError _ _) fault = absurd fault
fault_at At Broken Exceeded broken exceeded (OverlapError _ _) fault = absurd fault
fault_at At Broken Exceeded broken exceeded (ShadowedError _ _) fault = absurd fault

-- what a refusal lists stands where the definitions do
pub faults_stand : (At : Pos → Type 0) (types : Environment) (expands : Bool) (levels max : ℕ) (defs : List Def) → All (DefAt At) defs
    → Makes defs types → (errors : List Error) → AreTypingFaults types expands levels max defs errors → All (ErrorAt At) errors
faults_stand At types expands levels max defs all makes [] (inl lone) = absurd lone
faults_stand At types expands levels max defs all makes (error ∷ []) (inl lone) =
    All-cons (ErrorAt At) error []
    (fault_at At (λ _. ⊥) (ExceedsTyping types expands levels max defs) (λ at none. absurd none)
    (exceeds_at At types expands levels defs all max) error lone) (All-nil (ErrorAt At))
faults_stand At types expands levels max defs all makes (error ∷ (other ∷ others)) (inl lone) = absurd lone
faults_stand At types expands levels max defs all makes errors (inr faults) =
    All-weaker (IsTypeFault (BreaksTyping types expands levels defs)) (ErrorAt At)
    (fault_at At (BreaksTyping types expands levels defs) (λ _. ⊥)
    (breaks_at At types expands levels defs all (made_types_at At defs types all makes)) (λ at none. absurd none)) errors faults.0

-- a fact of each item is one of all
all_of_each : {X : Type 0} (P : X → Type 0) (xs : List X) → Each P xs → All P xs
all_of_each P [] each = All-nil P
all_of_each P (x ∷ xs) each = All-cons P x xs (each zero x refl) (all_of_each P xs (λ i y at. each (suc i) y at))

-- typed rules stand where the definitions do
pub rules_stand : (At : Pos → Type 0) (tyenv : TypeTables) (env : TermTables) (types : Environment) (levels max : ℕ) (defs : List Def)
    → All (DefAt At) defs → ShowsTerms tyenv env types levels max defs → All (TypedRuleAt At) env.rules
rules_stand At tyenv env types levels max defs all shows =
    let typed = each_related (IsRuleOf (declared_by types env.expands shows.environment) defs levels max) (RuleAt At)
    (λ (rule : TypedRule). At rule.pos)
    (λ tree rule is at. subst At (sym is.typed.pos ∙ sym (ap (λ (whole : TypedRule). whole.pos) is.same)) at.pos)
    (rules_in defs) shows.environment.rules shows.makes.rules (rules_at At types env.expands levels defs all) in
    all_of_each (TypedRuleAt At) env.rules (each_related (IsShownRule tyenv.names) (λ (rule : TypedRule). At rule.pos) (TypedRuleAt At)
    (λ rule made shown at. subst At (sym shown.pos) at) shows.environment.rules env.rules shows.rules typed)
