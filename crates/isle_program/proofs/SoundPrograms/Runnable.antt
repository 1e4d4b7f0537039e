-- The rules of terms that can be run are sound.
use Rattle.std.proofs.Common.{◌≡◌, ℕ, zero, suc, List, [], ◌∷◌, ◌++◌, map, Bool, true, false, ◌||◌, ◌&&◌, Option, None, Some, slice_get}
use Rattle.std.proofs.Common.{refl, sym, ◌∙◌, ap, subst, unwrap_or}
use Rattle.std.specs.Prelude.{Contains, ◌==◌}
use Rattle.std.specs.List.{list_any}
use Rattle.std.specs.Option.{option_map, option_map_or}
use Rattle.std.proofs.lemmas.Bool.{or_parts, eq-eqb}
use Rattle.std.proofs.lemmas.List.Elements.{Contains-append_left, Contains-append_right}
use Rattle.std.proofs.lemmas.Option.{same_Some, none-some, slice_get-map, slice_get_within, get_or_from_slice_get}
use Rattle.isle_ast.specs.declared.ast.Def.{Def}
use Rattle.isle_types.specs.Environment.{Environment, Makes}
use Rattle.isle_types.specs.TypeTables.{TypeTables}
use Rattle.isle_types.proofs.Zipped.{mapped_at, all_at}
use Rattle.isle_rules.specs.declared.rules.IfLet.{IfLet}
use Rattle.isle_rules.specs.declared.rules.Rule.{Rule}
use Rattle.isle_rules.specs.declared.terms.Term.{Term}
use Rattle.isle_rules.specs.declared.terms.TermKind.{TermKind}
use Rattle.isle_rules.specs.declared.terms.TermKind.TheVariants.{EnumVariant, Struct, Decl}
use Rattle.isle_rules.specs.Signatures.{Flags, Signature, Declared, TermForm, by_rules, declared_form, flags_of}
use Rattle.isle_rules.specs.TypedRules.{TypedPattern, TypedPatterns, typed_bind, typed_var, typed_bool, typed_int, typed_prim, typed_term}
use Rattle.isle_rules.specs.TypedRules.{typed_wildcard, typed_and, no_typed, more_typed, TypedExpr, TypedExprs, TypedBindings, built_term}
use Rattle.isle_rules.specs.TypedRules.{built_var, built_bool, built_int, built_prim, built_let, no_built, more_built, no_typed_bindings, more_typed_bindings}
use Rattle.isle_rules.specs.TypedRules.{built_at, Variable, TypedIfLet, TypedRule}
use Rattle.isle_rules.specs.Elaboration.{IsLiteralOf, on_lhs}
use Rattle.isle_rules.specs.Definitions.{declared_by}
use Rattle.isle_rules.specs.SoundRules.WellTyped.{IsTypedExpr, AreTypedExprs, AreTypedBindings, AreTypedIfLets, IsTypedRule}
use Rattle.isle_rules.specs.Shown.TermTables.{TermTables}
use Rattle.isle_rules.specs.Shown.ShownTerms.{term_shown, form_shown, ShowsDeclared}
use Rattle.isle_rules.specs.Shown.ShownRules.{typed_list, typed_shown, built_shown, iflet_shown}
use Rattle.isle_rules.specs.Shown.RulesShown.{ShowsTerms}
use Rattle.isle_meaning.specs.Facts.{TermFacts, facts_of, signature_numbered, no_term}
use Rattle.isle_meaning.specs.Scopes.{IsWellScopedRule, TakesOne, TakeOneEach, IfLetsTakeOne}
use Rattle.isle_meaning.specs.Typing.{ExprTyped, RuleIsTyped}
use Rattle.isle_meaning.specs.Laws.Matching.{IsRuleOfTypes}
use Rattle.isle_meaning.specs.Inside.Variables.{var_type}
use Rattle.isle_meaning.specs.Words.{steps_of}
use Rattle.isle_rules.proofs.Sound.RuleTypes.{rules_typed}
use Rattle.isle_meaning.proofs.Matching.MadeFields.{rules_of_definitions_fit, made_terms_take_their_fields}
use Rattle.isle_meaning.proofs.Matching.Bridging.{typed_by_variables}
use Rattle.isle_rules.specs.Shown.TermTables.{is_multi_kind, is_multi_in}
use Rattle.isle_program.specs.Facts.Reach.{is_hindering_pattern, are_hindering_patterns, is_hindering_expr, are_hindering_exprs}
use Rattle.isle_program.specs.Facts.Reach.{are_hindering_bindings}
use Rattle.isle_program.specs.Facts.Reach.{is_hindering_iflet, is_hindering_rule, is_hindered, terms_in, terms_in_all, terms_in_bound, terms_in_iflets}
use Rattle.isle_program.specs.Facts.Reach.{terms_made_by, MakesValues, at_once, onwards, IsRunnable}
use Rattle.isle_program.specs.Laws.Terms.{term_facts}
use Rattle.isle_program.specs.Tables.{rule_shown, checked_by}
use Rattle.isle_meaning.specs.SoundPrograms.{IsSoundExpr, AreSoundExprs, AreSoundBindings, AreSoundIfLets, IsSoundRule, AskNothingImpure}
use Rattle.isle_program.proofs.SoundPrograms.Agreeing.{rules_agree, terms_agree}
use Rattle.isle_program.proofs.SoundPrograms.FittingRules.{BuiltFits, AllBuiltFit, BindingsFit, ConditionsFit, TypedRuleFits}
use Rattle.isle_meaning.proofs.SoundPrograms.PureCalls.{steps_pure}
use Rattle.isle_program.proofs.SoundPrograms.Literals.{bool_sound, literal_sound, constant_sound}

-- where no item passes a test, one at a place doesn't
none_passes : {X : Type 0} (test : X → Bool) (xs : List X) (i : ℕ) (x : X) → list_any test xs ≡ false → slice_get xs i ≡ Some x
    → test x ≡ false
none_passes test [] i x none at = absurd (none-some x at)
none_passes test (y ∷ xs) zero x none at =
    ap test (sym (same_Some y x at)) ∙ (or_parts (test y) (list_any test xs) none).0
none_passes test (y ∷ xs) (suc i) x none at = none_passes test xs i x (or_parts (test y) (list_any test xs) none).1 at

-- where one at a place does, some item passes
some_passes : {X : Type 0} (test : X → Bool) (xs : List X) (i : ℕ) (x : X) → slice_get xs i ≡ Some x → test x ≡ true
    → list_any test xs ≡ true
some_passes test [] i x at is = absurd (none-some x at)
some_passes test (y ∷ xs) zero x at is =
    ap (λ (b : Bool). b || list_any test xs) (ap test (same_Some y x at) ∙ is)
some_passes test (y ∷ xs) (suc i) x at is = either (test y) (some_passes test xs i x at is)
  where
    either : (a : Bool) {b : Bool} → b ≡ true → (a || b) ≡ true
    either true e = refl
    either false e = e

-- an item at a place is among the items
among : {X : Type 0} (xs : List X) (i : ℕ) (x : X) → slice_get xs i ≡ Some x → Contains xs x
among xs i x at = (i, slice_get_within xs i x at, get_or_from_slice_get xs i x x at)

first_among : {X : Type 0} (x : X) (xs : List X) → Contains (x ∷ xs) x
first_among x xs = among (x ∷ xs) 0 x refl

-- whether a term gives any number of answers
multi_kind : (names : List (List ℕ)) (kind : TermKind) → is_multi_kind kind ≡ (flags_of (form_shown names kind)).multi
multi_kind names (EnumVariant variant) = refl
multi_kind names Struct = refl
multi_kind names (Decl flags makes takes) = refl

multi_in : (tyenv : TypeTables) (env : TermTables) (declared : Declared) → ShowsDeclared tyenv env declared → (t : ℕ)
    → is_multi_in env t ≡ (facts_of declared).multi t
multi_in tyenv env declared shows t =
    by_term (slice_get env.terms t)
    ∙ ap (λ (o : Option Signature). (flags_of (unwrap_or o no_term).form).multi)
    (sym (slice_get-map (term_shown tyenv.names) env.terms t) ∙ ap (λ (l : List Signature). slice_get l t) shows.terms)
  where
    by_term : (o : Option Term) → option_map_or (λ (term : Term). is_multi_kind term.kind) o false
        ≡ (flags_of (unwrap_or (option_map (term_shown tyenv.names) o) no_term).form).multi
    by_term None = refl
    by_term (Some term) = multi_kind tyenv.names term.kind

-- a rule is typed at the types of its term
abbrev IsTypedAtRoot : TermFacts → (ℕ → ℕ) → TypedRule → Type 0
IsTypedAtRoot facts vars rule = RuleIsTyped facts (facts.inputs rule.root) (facts.type_of rule.root) vars rule

-- the type at which an expression is typed
one_type : (declared : Declared) (facts : TermFacts) (variables : List Variable) (caller : Flags) (vars : ℕ → ℕ) (e : TypedExpr) (ty u : ℕ)
    → IsTypedExpr declared variables caller ty e → ExprTyped facts vars e u → u ≡ ty
one_type declared facts variables caller vars (built_term own t es) ty u h k = sym k.0 ∙ h.0
one_type declared facts variables caller vars (built_var own var) ty u h k = sym k.0 ∙ h.0
one_type declared facts variables caller vars (built_bool own b) ty u h k = sym k ∙ h.0
one_type declared facts variables caller vars (built_int own n) ty u h k = sym k ∙ h.0
one_type declared facts variables caller vars (built_prim own name) ty u h k = sym k.0 ∙ h.0
one_type declared facts variables caller vars (built_let own bs body) ty u h k =
    one_type declared facts variables caller vars body ty u h.2 k.1

module _ (tyenv : TypeTables) (env : TermTables) (defs : List Def) (types : Environment) (made : Makes defs types) (levels max : ℕ)
    (shows : ShowsTerms tyenv env types levels max defs) where
  abbrev names : List (List ℕ)
  names = tyenv.names

  abbrev declared : Declared
  declared = declared_by types env.expands shows.environment

  abbrev agrees : term_facts tyenv env ≡ facts_of declared
  agrees = terms_agree tyenv env declared shows.declared

  -- patterns that don't hinder take values apart by terms with one answer
  mutual
    pattern_takes_one : (p : TypedPattern) → is_hindering_pattern tyenv env p ≡ false
        → TakesOne (facts_of declared) p
    pattern_takes_one (typed_bind ty k p) h = pattern_takes_one p h
    pattern_takes_one (typed_var ty k) h = tt
    pattern_takes_one (typed_bool ty b) h = tt
    pattern_takes_one (typed_int ty n) h = tt
    pattern_takes_one (typed_prim ty name) h = tt
    pattern_takes_one (typed_term ty t ps) h =
        let parts = or_parts (is_multi_in env t) (are_hindering_patterns tyenv env ps) h in
        (sym (multi_in tyenv env declared shows.declared t) ∙ parts.0, patterns_take_one ps parts.1)
    pattern_takes_one (typed_wildcard ty) h = tt
    pattern_takes_one (typed_and ty ps) h = patterns_take_one ps h

    patterns_take_one : (ps : TypedPatterns) → are_hindering_patterns tyenv env ps ≡ false
        → TakeOneEach (facts_of declared) ps
    patterns_take_one no_typed h = tt
    patterns_take_one (more_typed p ps) h =
        let parts = or_parts (is_hindering_pattern tyenv env p)
        (are_hindering_patterns tyenv env ps) h in
        (pattern_takes_one p parts.0, patterns_take_one ps parts.1)

  iflets_take_one : (xs : List IfLet) → list_any (is_hindering_iflet tyenv env) xs ≡ false
      → IfLetsTakeOne (facts_of declared) (map (iflet_shown names) xs)
  iflets_take_one [] h = tt
  iflets_take_one (x ∷ xs) h =
      let parts = or_parts (is_hindering_iflet tyenv env x)
      (list_any (is_hindering_iflet tyenv env) xs) h in
      let own = or_parts (is_hindering_pattern tyenv env (typed_shown names x.lhs))
      (is_hindering_expr tyenv (built_shown names x.rhs)) parts.0 in
      (pattern_takes_one (typed_shown names x.lhs) own.0, iflets_take_one xs parts.1)

  -- ---- expressions

  module _ (variables : List Variable) (caller : Flags) where
    -- the terms with rules among these can be run
    abbrev RunEach : List ℕ → Type 0
    RunEach terms = (t : ℕ) → Contains terms t → (checked_by tyenv env).has_rules t ≡ true → IsRunnable tyenv env t

    front : (xs ys : List ℕ) → RunEach (xs ++ ys) → RunEach xs
    front xs ys run t is = run t (Contains-append_left xs ys t is)

    back : (xs ys : List ℕ) → RunEach (xs ++ ys) → RunEach ys
    back xs ys run t is = run t (Contains-append_right xs ys t is)

    mutual
      expr_sound : (ty : ℕ) (e : TypedExpr) → IsTypedExpr declared variables caller ty e → BuiltFits e
          → is_hindering_expr tyenv e ≡ false → RunEach (terms_in e) → IsSoundExpr (checked_by tyenv env) (IsRunnable tyenv env) e
      expr_sound ty (built_var own k) h fits free run = tt
      expr_sound ty (built_bool own b) h fits free run = bool_sound tyenv env types shows.declared.types b own (h.0 ∙ h.1)
      expr_sound ty (built_int own n) h fits free run =
          let is = subst (λ (u : ℕ). IsLiteralOf types u n h.1.0) (sym h.0) h.1.1 in
          literal_sound tyenv env types shows.declared.types n own (h.1.0, is) fits
      expr_sound ty (built_prim own name) h fits free run =
          constant_sound tyenv env types shows.declared.types defs made name own (h.1 ∙ ap Some (sym h.0)) free
      expr_sound ty (built_term own t es) (e, calls) fits free run = (
        run t (first_among t (terms_in_all es)),
        exprs_sound calls.term.args es calls.args fits free (back (t ∷ []) (terms_in_all es) run),
      )
      expr_sound ty (built_let own bs body) h fits free run =
          let parts = or_parts (are_hindering_bindings tyenv bs) (is_hindering_expr tyenv body) free in (
            bindings_sound bs h.1 fits.0 parts.0 (front (terms_in_bound bs) (terms_in body) run),
            expr_sound ty body h.2 fits.1 parts.1 (back (terms_in_bound bs) (terms_in body) run),
          )

      exprs_sound : (tys : List ℕ) (es : TypedExprs) → AreTypedExprs declared variables caller tys es → AllBuiltFit es
          → are_hindering_exprs tyenv es ≡ false → RunEach (terms_in_all es)
          → AreSoundExprs (checked_by tyenv env) (IsRunnable tyenv env) es
      exprs_sound [] no_built h fits free run = tt
      exprs_sound [] (more_built e es) h fits free run = absurd h
      exprs_sound (ty ∷ tys) no_built h fits free run = absurd h
      exprs_sound (ty ∷ tys) (more_built e es) h fits free run =
          let parts = or_parts (is_hindering_expr tyenv e) (are_hindering_exprs tyenv es) free in (
            expr_sound ty e h.0 fits.0 parts.0 (front (terms_in e) (terms_in_all es) run),
            exprs_sound tys es h.1 fits.1 parts.1 (back (terms_in e) (terms_in_all es) run),
          )

      bindings_sound : (bs : TypedBindings) → AreTypedBindings declared variables caller bs → BindingsFit bs
          → are_hindering_bindings tyenv bs ≡ false → RunEach (terms_in_bound bs)
          → AreSoundBindings (checked_by tyenv env) (IsRunnable tyenv env) bs
      bindings_sound no_typed_bindings h fits free run = tt
      bindings_sound (more_typed_bindings k ty e bs) h fits free run =
          let parts = or_parts (is_hindering_expr tyenv e) (are_hindering_bindings tyenv bs) free in (
            expr_sound ty e h.1 fits.0 parts.0 (front (terms_in e) (terms_in_bound bs) run),
            bindings_sound bs h.2 fits.1 parts.1 (back (terms_in e) (terms_in_bound bs) run),
          )

    iflets_sound : (xs : List IfLet) → AreTypedIfLets declared variables caller (map (iflet_shown names) xs)
        → ConditionsFit (map (iflet_shown names) xs)
        → list_any (is_hindering_iflet tyenv env) xs ≡ false → RunEach (terms_in_iflets names xs)
        → AreSoundIfLets (checked_by tyenv env) (IsRunnable tyenv env) (map (iflet_shown names) xs)
    iflets_sound [] h fits free run = tt
    iflets_sound (x ∷ xs) h fits free run =
        let parts = or_parts (is_hindering_iflet tyenv env x)
        (list_any (is_hindering_iflet tyenv env) xs) free in
        let own = or_parts (is_hindering_pattern tyenv env (typed_shown names x.lhs))
        (is_hindering_expr tyenv (built_shown names x.rhs)) parts.0 in
        let value = built_shown names x.rhs in (
          expr_sound (built_at value) value h.0 fits.0 own.1 (front (terms_in value) (terms_in_iflets names xs) run),
          iflets_sound xs h.2 fits.1 parts.1 (back (terms_in value) (terms_in_iflets names xs) run),
        )

  -- what makes no impure calls by the declarations makes none by the tables
  pure_steps : (e : TypedExpr) → steps_of (facts_of declared) e ≡ [] → steps_of (checked_by tyenv env).terms e ≡ []
  pure_steps e h = ap (λ (f : TermFacts). steps_of f e) agrees ∙ h

  iflets_pure : (variables : List Variable) (flags : Flags) (xs : List TypedIfLet) → AreTypedIfLets declared variables (on_lhs flags) xs
      → AskNothingImpure (checked_by tyenv env) xs
  iflets_pure variables flags [] h = tt
  iflets_pure variables flags (x ∷ xs) h =
      let none = steps_pure declared variables (on_lhs flags) refl (built_at x.value) x.value h.0 in
      (pure_steps x.value none, iflets_pure variables flags xs h.2)

  -- a term that is pure by the tables has pure flags
  pure_flags : (t : ℕ) (term : Signature) (flags : Flags) → signature_numbered declared t ≡ term
      → ((extractor : _) × (term.form ≡ declared_form flags (Some by_rules) extractor)) → (checked_by tyenv env).terms.pure t ≡ true
      → flags.pure ≡ true
  pure_flags t term flags is ruled pure =
      sym (ap (λ (s : Signature). (flags_of s.form).pure) is ∙ ap (λ (f : TermForm). (flags_of f).pure) ruled.1)
      ∙ sym (ap (λ (f : TermFacts). f.pure t) agrees) ∙ pure

  -- ---- rules

  -- a rule of which no part hinders, and whose term gives one answer at most
  record IsFree (rule : Rule) : Type 0 where
    args : are_hindering_patterns tyenv env (typed_list (map (typed_shown names) rule.args)) ≡ false
    iflets : list_any (is_hindering_iflet tyenv env) rule.iflets ≡ false
    right : is_hindering_expr tyenv (built_shown names rule.rhs) ≡ false
    single : is_multi_in env rule.root_term.0 ≡ false

  -- so is a rule of a term that isn't hindered
  rule_free : (i : ℕ) (rule : Rule) → slice_get env.rules i ≡ Some rule
      → is_hindered tyenv env rule.root_term.0 ≡ false → IsFree rule
  rule_free i rule at free =
      let parts = or_parts (is_multi_in env rule.root_term.0)
      (list_any (λ (r : Rule). (r.root_term.0 == rule.root_term.0) && is_hindering_rule tyenv env r) env.rules) free in
      let there = none_passes (λ (r : Rule). (r.root_term.0 == rule.root_term.0) && is_hindering_rule tyenv env r) env.rules i rule
      parts.1 at in
      let own = ap (λ (b : Bool). b && is_hindering_rule tyenv env rule) (sym (eq-eqb rule.root_term.0 rule.root_term.0 refl)) ∙ there in
      let args = or_parts (are_hindering_patterns tyenv env (typed_list (map (typed_shown names) rule.args)))
      (list_any (is_hindering_iflet tyenv env) rule.iflets || is_hindering_expr tyenv (built_shown names rule.rhs)) own in
      let rest = or_parts (list_any (is_hindering_iflet tyenv env) rule.iflets)
      (is_hindering_expr tyenv (built_shown names rule.rhs)) args.1 in
      record { args = args.0; iflets = rest.0; right = rest.1; single = parts.0 }

  -- what the table's rule shows stands at its place among the typed rules
  typed_there : (i : ℕ) (rule : Rule) → slice_get env.rules i ≡ Some rule
      → slice_get shows.environment.rules i ≡ Some (rule_shown names rule)
  typed_there i rule at =
      let same = rules_agree names shows.environment.rules env.rules shows.rules in
      ap (λ (l : List TypedRule). slice_get l i) (sym same)
      ∙ slice_get-map (rule_shown names) env.rules i ∙ ap (option_map (rule_shown names)) at

  -- each of these is well typed
  well_typed : (i : ℕ) (typed : TypedRule) → slice_get shows.environment.rules i ≡ Some typed → IsTypedRule declared typed
  well_typed i typed there =
      let all = rules_typed types env.expands levels max defs shows.environment shows.makes in
      all_at (IsTypedRule declared) shows.environment.rules all i typed there

  -- a term that gives one answer at most has such flags
  single_flags : (typed : TypedRule) (is : IsTypedRule declared typed) → is_multi_in env typed.root ≡ false
      → is.flags.multi ≡ false
  single_flags typed is single =
      let root : signature_numbered declared typed.root ≡ is.root = ap (λ (o : Option Signature). unwrap_or o no_term) is.known in
      sym (ap (λ (s : Signature). (flags_of s.form).multi) root ∙ ap (λ (f : TermForm). (flags_of f).multi) is.ruled.1)
      ∙ sym (multi_in tyenv env declared shows.declared typed.root) ∙ single

  -- a free rule is one that the laws on matching speak of
  fitting : (i : ℕ) (rule : Rule) → slice_get env.rules i ≡ Some rule → IsFree rule
      → (is : IsTypedRule declared (rule_shown names rule)) → IsRuleOfTypes (facts_of declared) is.root.args (rule_shown names rule)
  fitting i rule at free is =
      let args = patterns_take_one (typed_list (map (typed_shown names) rule.args)) free.args in
      rules_of_definitions_fit types env.expands levels max defs shows.environment shows.makes i (rule_shown names rule)
      (typed_there i rule at) is (single_flags (rule_shown names rule) is free.single) (args, iflets_take_one rule.iflets free.iflets)

  -- it is typed at its term's types
  typed_at_root : (rule : TypedRule) (is : IsTypedRule declared rule) (made_of : IsRuleOfTypes (facts_of declared) is.root.args rule)
      → IsTypedAtRoot (facts_of declared) made_of.var_types rule
  typed_at_root rule is made_of =
      let root : is.root ≡ signature_numbered declared rule.root = sym (ap (λ (o : Option Signature). unwrap_or o no_term) is.known) in
      let result : made_of.result_type ≡ is.root.ret =
      one_type declared (facts_of declared) rule.variables is.flags made_of.var_types rule.right is.root.ret made_of.result_type is.right
      made_of.typed.right in
      subst (λ (s : Signature). RuleIsTyped (facts_of declared) s.args s.ret made_of.var_types rule) root
      (subst (λ (u : ℕ). RuleIsTyped (facts_of declared) is.root.args u made_of.var_types rule) result made_of.typed)

  -- what holds by the declarations holds by the tables
  well_by_tables : (rule : TypedRule) → IsWellScopedRule (facts_of declared) rule → IsWellScopedRule (checked_by tyenv env).terms rule
  well_by_tables rule h = subst (λ (f : TermFacts). IsWellScopedRule f rule) (sym agrees) h

  typed_by_tables : (rule : TypedRule) (vars : ℕ → ℕ) → IsTypedAtRoot (facts_of declared) vars rule
      → IsTypedAtRoot (checked_by tyenv env).terms vars rule
  typed_by_tables rule vars h =
      subst (λ (f : TermFacts). IsTypedAtRoot f vars rule) (sym agrees) h

  -- a rule of a term that can be run is typed where each of its variables has its type
  typed_at_place : (i : ℕ) (rule : Rule) → slice_get env.rules i ≡ Some rule → IsRunnable tyenv env rule.root_term.0
      → IsTypedAtRoot (checked_by tyenv env).terms (var_type (rule_shown names rule).variables) (rule_shown names rule)
  typed_at_place i rule at runs =
      let typed = rule_shown names rule in
      let vars = var_type typed.variables in
      let is = well_typed i typed (typed_there i rule at) in
      let free = rule_free i rule at runs.free in
      let takes = made_terms_take_their_fields types env.expands levels max defs shows.environment shows.makes in
      let root : is.root ≡ signature_numbered declared typed.root = sym (ap (λ (o : Option Signature). unwrap_or o no_term) is.known) in
      typed_by_tables typed vars (subst (λ (s : Signature). RuleIsTyped (facts_of declared) s.args s.ret vars typed) root
      (typed_by_variables declared typed is takes (single_flags typed is free.single)))

  pub typed_at_places : (i : ℕ) (rule : TypedRule) → slice_get (checked_by tyenv env).rules i ≡ Some rule → IsRunnable tyenv env rule.root
      → IsTypedAtRoot (checked_by tyenv env).terms (var_type rule.variables) rule
  typed_at_places i rule at runs =
      let (made_rule, there, is) = mapped_at (rule_shown names) env.rules i rule at in
      subst (λ (r : TypedRule). IsTypedAtRoot (checked_by tyenv env).terms (var_type r.variables) r) is
      (typed_at_place i made_rule there (subst (IsRunnable tyenv env) (sym (ap (λ (r : TypedRule). r.root) is)) runs))

  module _ (fit : (i : ℕ) (rule : TypedRule) → slice_get shows.environment.rules i ≡ Some rule → TypedRuleFits rule) where
    -- a term that a rule of one that can be run makes values by can be run, if it has rules
    runs_on : (i : ℕ) (rule : Rule) → slice_get env.rules i ≡ Some rule → IsRunnable tyenv env rule.root_term.0
        → (t : ℕ) → Contains (terms_made_by names rule) t → (checked_by tyenv env).has_rules t ≡ true → IsRunnable tyenv env t
    runs_on i rule at runs t is ruled =
        let makes : MakesValues tyenv env rule.root_term.0 t =
        record { rule = rule; among = among env.rules i rule at; root = refl; made = is } in
        record { rules = ruled; free = runs.reached t (at_once makes); reached = λ to reaches. runs.reached to (onwards makes reaches) }

    rule_sound : (i : ℕ) (rule : Rule) → slice_get env.rules i ≡ Some rule → IsRunnable tyenv env rule.root_term.0
        → IsSoundRule (checked_by tyenv env) (IsRunnable tyenv env) (rule_shown names rule)
    rule_sound i rule at runs =
        let typed = rule_shown names rule in
        let there = typed_there i rule at in
        let is = well_typed i typed there in
        let fits = fit i typed there in
        let free = rule_free i rule at runs.free in
        let made_of = fitting i rule at free is in
        let run = runs_on i rule at runs in
        let root : signature_numbered declared typed.root ≡ is.root = ap (λ (o : Option Signature). unwrap_or o no_term) is.known in
        record {
          well = well_by_tables typed made_of.well;
          var_types = made_of.var_types;
          typed = typed_by_tables typed made_of.var_types (typed_at_root typed is made_of);
          iflets = iflets_sound typed.variables (on_lhs is.flags) rule.iflets is.iflets fits.0 free.iflets
              (λ t c. run t (Contains-append_left (terms_in_iflets names rule.iflets) (terms_in (built_shown names rule.rhs)) t c));
          right = expr_sound typed.variables is.flags is.root.ret typed.right is.right fits.1 free.right
              (λ t c. run t (Contains-append_right (terms_in_iflets names rule.iflets) (terms_in (built_shown names rule.rhs)) t c));
          pure_iflets = iflets_pure typed.variables is.flags typed.iflets is.iflets;
          pure_right = λ pure. (let flags = pure_flags typed.root is.root is.flags root is.ruled pure in
              pure_steps typed.right (steps_pure declared typed.variables is.flags flags is.root.ret typed.right is.right));
        }

    pub rules_sound : (i : ℕ) (rule : TypedRule) → slice_get (checked_by tyenv env).rules i ≡ Some rule → IsRunnable tyenv env rule.root
        → IsSoundRule (checked_by tyenv env) (IsRunnable tyenv env) rule
    rules_sound i rule at runs =
        let (made_rule, there, is) = mapped_at (rule_shown names) env.rules i rule at in
        subst (IsSoundRule (checked_by tyenv env) (IsRunnable tyenv env)) is
        (rule_sound i made_rule there (subst (IsRunnable tyenv env) (sym (ap (λ (r : TypedRule). r.root) is)) runs))

  -- the root of each rule has rules
  pub rules_rooted : (i : ℕ) (rule : TypedRule) → slice_get (checked_by tyenv env).rules i ≡ Some rule
      → (checked_by tyenv env).has_rules rule.root ≡ true
  rules_rooted i rule at =
      let (made_rule, there, is) = mapped_at (rule_shown names) env.rules i rule at in
      some_passes (λ (r : Rule). r.root_term.0 == rule.root) env.rules i made_rule there
      (eq-eqb made_rule.root_term.0 rule.root (ap (λ (r : TypedRule). r.root) is))
