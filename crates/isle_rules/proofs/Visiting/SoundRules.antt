-- Visits of rules that trees stand for never come to what isn't defined.
use Rattle.std.proofs.Common.{◌≡◌, ℕ, zero, suc, ◌+◌, ◌≤◌, ◌<◌, ◌==◌, Bool, true, false, List, [], ◌∷◌, length, map, Option, Some, None}
use Rattle.std.proofs.Common.{slice_get, refl, sym, ap, subst, ◌∙◌, arith}
use Rattle.std.specs.Prelude.{All}
use Rattle.std.specs.List.{AllZip}
use Rattle.std.proofs.lemmas.Bool.{eqb-true, eqb-false}
use Rattle.std.proofs.lemmas.List.Elements.{All-nil, All-cons}
use Rattle.std.proofs.lemmas.Option.{none-some}
use Rattle.std.proofs.lemmas.Slice.Zip.{AllZip-long}
use Rattle.isle_ast.specs.declared.ast.Def.{Def}
use Rattle.isle_ast.specs.declared.ast.Rule.{Rule as RuleTree}
use Rattle.isle_types.specs.declared.ids.TypeId.{TypeId}
use Rattle.isle_types.specs.declared.ids.VarId.{VarId}
use Rattle.isle_types.specs.Environment.{Environment}
use Rattle.isle_types.specs.TypeTables.{TypeTables}
use Rattle.isle_rules.specs.declared.rules.Expr.{Expr}
use Rattle.isle_rules.specs.declared.rules.IfLet.{IfLet}
use Rattle.isle_rules.specs.declared.rules.Pattern.{Pattern}
use Rattle.isle_rules.specs.declared.rules.Rule.{Rule}
use Rattle.isle_rules.specs.declared.terms.Term.{Term}
use Rattle.isle_rules.specs.TypedRules.{TypedRule}
use Rattle.isle_rules.specs.Signatures.{Signature, Declared}
use Rattle.isle_rules.specs.Elaboration.{ElaboratesRule}
use Rattle.isle_rules.specs.Definitions.{rules_in, name_of, IsRuleOf, declared_by}
use Rattle.isle_rules.specs.Shown.RulesShown.{ShowsTerms}
use Rattle.isle_rules.specs.Shown.ShownRules.{typed_shown, typed_list, built_shown, iflet_shown}
use Rattle.isle_rules.specs.Shown.RulesShown.{IsShownVariable, IsShownRule}
use Rattle.isle_rules.specs.Shown.ShownTerms.{term_shown, ShowsDeclared}
use Rattle.isle_rules.specs.Shown.TermTables.{TermTables}
use Rattle.isle_rules.specs.Visits.Runs.{Run, done, asks, in_turn, on_some, stuck}
use Rattle.isle_rules.specs.Visits.VisitScopes.{VisitScope, no_values, bound_by}
use Rattle.isle_rules.specs.Visits.InternedTrees.{pattern_of, expr_of}
use Rattle.isle_rules.specs.Visits.VisitorCalls.{PatternCall, ExprCall}
use Rattle.isle_rules.specs.Visits.Events.{visits}
use Rattle.isle_rules.specs.Visits.RuleSteps.{RuleSteps, in_expr}
use Rattle.isle_rules.specs.Visits.RuleEvents.{visits_typed, visits_var, visits_vars, visits_part, visits_args, visits_value, visits_iflets}
use Rattle.isle_rules.specs.Visits.RuleEvents.{visits_rest, visits_rule}
use Rattle.isle_rules.specs.Visits.OwnFaults.{NeverUndefined, FindsAllDefined}
use Rattle.isle_rules.proofs.Visiting.ClosedTrees.{after, after_all, after_iflets, typed_count, Closed, AllClosed, ClosedExpr}
use Rattle.isle_rules.proofs.Visiting.ClosedTrees.{ClosedIfLets, ClosedRule, AreBelow, below_after, below_all, below_iflets}
use Rattle.isle_rules.proofs.Visiting.ClosedReadings.{rule_closed}
use Rattle.isle_rules.proofs.Visiting.ShownTrees.{pattern_shown, shown_expr, expr_shown}
use Rattle.isle_rules.proofs.Visiting.SoundRuns.{Sound, sound_done, sound_asks, sound_turn, sound_some, sound_in_pattern, sound_in_expr}
use Rattle.isle_rules.proofs.Visiting.SoundVisits.{Covers, term_shows, arguments_shown, sound_visits, sound_expr}

-- variables below a number that have a value have one for expressions too
abbrev Carries : {I J : Type 0} → VisitScope I → ℕ → VisitScope J → Type 0
Carries {I} {J} scope n values = (var : VarId) (input : I) → var.0 < n → scope var ≡ Some input → (value : J) × (values var ≡ Some value)

module _ {S P E X I J : Type 0} (steps : RuleSteps S P E X I J) (pattern_step : PatternCall I → Run P (List I)) (expr_step : ExprCall J → Run E J)
    (finds : FindsAllDefined steps pattern_step expr_step) (names : List (List ℕ)) (terms : List Term) (count : ℕ) where
  -- one more variable that has a value, with its value for expressions
  carries_bound : (scope : VisitScope I) (values : VisitScope J) (n : ℕ) (made : J) → Carries scope n values
      → Carries scope (n + 1) (bound_by values (record { 0 = n }) made)
  carries_bound scope values n made k var input low is = by_test (n == var.0) refl
    where
      by_test : (b : Bool) → (n == var.0) ≡ b → (value : J) × (bound_by values (record { 0 = n }) made var ≡ Some value)
      by_test true t = (made, rw t refl)
      by_test false t =
          let other = eqb-false n var.0 t in let known = k var input (omega (arith, other)) is in (known.0, rw t known.1)

  -- one more variable that has none
  carries_none : (scope : VisitScope I) (values : VisitScope J) (n : ℕ) → scope (record { 0 = n }) ≡ None → Carries scope n values
      → Carries scope (n + 1) values
  carries_none scope values n none k var input low is = by_test (n == var.0) refl
    where
      by_test : (b : Bool) → (n == var.0) ≡ b → (value : J) × (values var ≡ Some value)
      by_test true t = absurd (none-some input (sym none ∙ ap (λ (z : ℕ). scope (record { 0 = z })) (eqb-true n var.0 t) ∙ is))
      by_test false t = let other = eqb-false n var.0 t in k var input (omega (arith, other)) is

  sound_var : (scope : VisitScope I) (values : VisitScope J) (n : ℕ) → Carries scope n values
      → Sound (visits_var steps scope (record { 0 = n }) values) (λ left. Carries scope (n + 1) left)
  sound_var scope values n k = by_value (scope (record { 0 = n })) refl
    where
      by_value : (o : Option I) → scope (record { 0 = n }) ≡ o
          → Sound (on_some o (λ value. in_turn (asks steps.pattern_as_expr value) (λ made. done (bound_by values (record { 0 = n }) made)))
          (done values)) (λ left. Carries scope (n + 1) left)
      by_value None is = sound_done values (λ left. Carries scope (n + 1) left) (carries_none scope values n is k)
      by_value (Some value) is =
          sound_turn (asks steps.pattern_as_expr value) (λ made. done (bound_by values (record { 0 = n }) made)) (λ _. Unit {0})
          (λ left. Carries scope (n + 1) left)
          (sound_asks steps.pattern_as_expr value (λ _. Unit {0}) (finds.pattern_as_expr value) (λ s s' a h. tt))
          (λ made p. sound_done (bound_by values (record { 0 = n }) made) (λ left. Carries scope (n + 1) left)
          (carries_bound scope values n made k))

  sound_vars : (scope : VisitScope I) (n more : ℕ) (values : VisitScope J) → n + more ≡ count → Carries scope n values
      → Sound (visits_vars steps scope n more values) (λ left. Carries scope count left)
  sound_vars scope n zero values e k =
      let all : n ≡ count = omega arith in
      sound_done values (λ left. Carries scope count left) (subst (λ z. Carries scope z values) all k)
  sound_vars scope n (suc more) values e k =
      sound_turn (visits_var steps scope (record { 0 = n }) values) (λ left. visits_vars steps scope (n + 1) more left)
      (λ left. Carries scope (n + 1) left) (λ left. Carries scope count left) (sound_var scope values n k)
      (λ left kept. sound_vars scope (n + 1) more left (omega arith) kept)

  sound_value : (expr : Expr) (scope : VisitScope I) (vars : List ℕ) → ClosedExpr (map (term_shown names) terms) (built_shown names expr) vars
      → Covers scope vars → AreBelow count vars → Sound (visits_value steps expr_step terms count expr scope) (λ _. Unit {0})
  sound_value expr scope vars c k low =
      let closed : ClosedExpr (map (term_shown names) terms) (shown_expr names (expr_of expr)) vars =
      subst (λ u. ClosedExpr (map (term_shown names) terms) u vars) (sym (expr_shown names expr)) c in
      sound_turn (visits_vars steps scope 0 count no_values) (λ values. in_expr steps (visits_typed expr_step terms expr values))
      (λ values. Carries scope count values) (λ _. Unit {0})
      (sound_vars scope 0 count no_values (omega arith) (λ var input none is. absurd (omega arith)))
      (λ values carried. sound_in_expr steps finds.refuses (visits_typed expr_step terms expr values)
      (sound_expr expr_step names terms finds.expr (expr_of expr) values vars closed
      (λ var one. let known = k var one in carried var known.0 (low var.0 one) known.1)).never)

  sound_part : (p : Pattern) (input : I) (scope : VisitScope I) (vars : List ℕ)
      → Closed (map (term_shown names) terms) count (typed_shown names p) vars → Covers scope vars
      → Sound (visits_part steps pattern_step terms p input scope) (λ left. Covers left (after (typed_shown names p) vars))
  sound_part p input scope vars c k =
      sound_in_pattern steps finds.refuses (visits pattern_step terms (pattern_of p) input scope)
      (λ left. Covers left (after (typed_shown names p) vars))
      (subst (λ u. Closed (map (term_shown names) terms) count u vars
      → Sound (visits pattern_step terms (pattern_of p) input scope) (λ left. Covers left (after u vars))) (pattern_shown names p)
      (λ closed. sound_visits pattern_step names terms count finds.pattern finds.named (pattern_of p) input scope vars closed k) c)

  sound_args : (ps : List Pattern) (tys : List TypeId) (index : ℕ) (scope : VisitScope I) (vars : List ℕ)
      → typed_count (typed_list (map (typed_shown names) ps)) ≤ length tys
      → AllClosed (map (term_shown names) terms) count (typed_list (map (typed_shown names) ps)) vars → Covers scope vars
      → Sound (visits_args steps pattern_step terms ps tys index scope)
      (λ left. Covers left (after_all (typed_list (map (typed_shown names) ps)) vars))
  sound_args [] tys index scope vars n c k = sound_done scope (λ left. Covers left vars) k
  sound_args (p ∷ ps) [] index scope vars n c k = absurd (omega arith)
  sound_args (p ∷ ps) (ty ∷ tys) index scope vars n c k =
      let inside = after (typed_shown names p) vars in
      let Q = λ (left : VisitScope I). Covers left (after_all (typed_list (map (typed_shown names) ps)) inside) in
      let rest = λ (left : VisitScope I). visits_args steps pattern_step terms ps tys (index + 1) left in
      sound_turn (asks steps.arg (index, ty)) (λ id. in_turn (visits_part steps pattern_step terms p id scope) rest) (λ _. Unit {0}) Q
      (sound_asks steps.arg (index, ty) (λ _. Unit {0}) (finds.arg (index, ty)) (λ s s' a h. tt))
      (λ id any. sound_turn (visits_part steps pattern_step terms p id scope) rest (λ left. Covers left inside) Q
      (sound_part p id scope vars c.0 k)
      (λ left more. sound_args ps tys (index + 1) left inside (omega arith) c.1 more))

  sound_iflets : (is : List IfLet) (scope : VisitScope I) (vars : List ℕ)
      → ClosedIfLets (map (term_shown names) terms) count (map (iflet_shown names) is) vars → Covers scope vars → AreBelow count vars
      → Sound (visits_iflets steps pattern_step expr_step terms count is scope)
      (λ left. Covers left (after_iflets (map (iflet_shown names) is) vars))
  sound_iflets [] scope vars c k low = sound_done scope (λ left. Covers left vars) k
  sound_iflets (i ∷ is) scope vars c k low =
      let inside = after (typed_shown names i.lhs) vars in
      let Q = λ (left : VisitScope I). Covers left (after_iflets (map (iflet_shown names) is) inside) in
      let rest = λ (left : VisitScope I). visits_iflets steps pattern_step expr_step terms count is left in
      let part = λ (id : I). visits_part steps pattern_step terms i.lhs id scope in
      sound_turn (visits_value steps expr_step terms count i.rhs scope)
      (λ x. in_turn (asks steps.expr_as_pattern x) (λ id. in_turn (part id) rest)) (λ _. Unit {0}) Q
      (sound_value i.rhs scope vars c.0 k low)
      (λ x any. sound_turn (asks steps.expr_as_pattern x) (λ id. in_turn (part id) rest) (λ _. Unit {0}) Q
      (sound_asks steps.expr_as_pattern x (λ _. Unit {0}) (finds.expr_as_pattern x) (λ s s' a h. tt))
      (λ id any. sound_turn (part id) rest (λ left. Covers left inside) Q (sound_part i.lhs id scope vars c.1 k)
      (λ left more. sound_iflets is left inside c.2 more
      (below_after (map (term_shown names) terms) count (typed_shown names i.lhs) vars c.1 low))))

  -- a rule whose parts are closed
  sound_parts : (rule : Rule) (root : Signature) → slice_get (map (term_shown names) terms) rule.root_term.0 ≡ Some root
      → typed_count (typed_list (map (typed_shown names) rule.args)) ≤ length root.args → length rule.vars ≡ count
      → AllClosed (map (term_shown names) terms) count (typed_list (map (typed_shown names) rule.args)) []
      → ClosedIfLets (map (term_shown names) terms) count (map (iflet_shown names) rule.iflets)
      (after_all (typed_list (map (typed_shown names) rule.args)) [])
      → ClosedExpr (map (term_shown names) terms) (built_shown names rule.rhs)
      (after_iflets (map (iflet_shown names) rule.iflets) (after_all (typed_list (map (typed_shown names) rule.args)) []))
      → Sound (visits_rule steps pattern_step expr_step terms rule) (λ _. Unit {0})
  sound_parts rule root known enough all args iflets right =
      let term = term_shows names terms rule.root_term.0 root known in
      let parts = arguments_shown names term.0 root term.2 in
      let signatures = map (term_shown names) terms in
      let bound_by_args = after_all (typed_list (map (typed_shown names) rule.args)) [] in
      let bound_at_last = after_iflets (map (iflet_shown names) rule.iflets) bound_by_args in
      let low_args = below_all signatures count (typed_list (map (typed_shown names) rule.args)) [] args (λ var none. absurd none) in
      let low_last = below_iflets signatures count (map (iflet_shown names) rule.iflets) bound_by_args iflets low_args in
      sound_some (slice_get terms rule.root_term.0) term.0
      (λ known. in_turn (visits_args steps pattern_step terms rule.args known.arg_tys 0 no_values)
      (λ scope. visits_rest steps pattern_step expr_step terms rule scope)) stuck (λ _. Unit {0}) term.1
      (sound_turn (visits_args steps pattern_step terms rule.args term.0.arg_tys 0 no_values)
      (λ scope. visits_rest steps pattern_step expr_step terms rule scope) (λ left. Covers left bound_by_args) (λ _. Unit {0})
      (sound_args rule.args term.0.arg_tys 0 no_values [] (omega arith) args (λ var none. absurd none))
      (λ scope k. subst (λ n. Sound (in_turn (visits_iflets steps pattern_step expr_step terms n rule.iflets scope)
      (λ left. visits_value steps expr_step terms n rule.rhs left)) (λ _. Unit {0})) (sym all)
      (sound_turn (visits_iflets steps pattern_step expr_step terms count rule.iflets scope)
      (λ left. visits_value steps expr_step terms count rule.rhs left) (λ left. Covers left bound_at_last) (λ _. Unit {0})
      (sound_iflets rule.iflets scope bound_by_args iflets k low_args)
      (λ left more. sound_value rule.rhs left bound_at_last right more low_last))))

-- a visit of what a rule stands for never comes to what isn't defined, whatever the rule's name
pub typed_rule_sound : {S P E X I J : Type 0} (steps : RuleSteps S P E X I J) (pattern_step : PatternCall I → Run P (List I))
    (expr_step : ExprCall J → Run E J) → FindsAllDefined steps pattern_step expr_step
    → (tyenv : TypeTables) (env : TermTables) (declared : Declared) (levels max : ℕ) (tree : RuleTree) (typed : TypedRule)
    (name : Option (List ℕ)) (rule : Rule)
    → ShowsDeclared tyenv env declared → ElaboratesRule declared levels max tree typed
    → IsShownRule tyenv.names (record typed { name = name }) rule
    → NeverUndefined (visits_rule steps pattern_step expr_step env.terms rule)
typed_rule_sound steps pattern_step expr_step finds tyenv env declared levels max tree typed name rule shows elaborates shown =
    let c : ClosedRule (map (term_shown tyenv.names) env.terms) typed =
    subst (λ terms. ClosedRule terms typed) (sym shows.terms) (rule_closed declared levels max tree typed elaborates) in
    (sound_parts steps pattern_step expr_step finds tyenv.names env.terms (length typed.variables) rule c.root (rw shown.root c.known)
    (rw shown.args c.enough) (AllZip-long (IsShownVariable tyenv.names) typed.variables rule.vars shown.variables) (rw shown.args c.args)
    (rw (shown.iflets, shown.args) c.iflets) (rw (shown.right, shown.iflets, shown.args) c.right)).never

module _ {S P E X I J : Type 0} (steps : RuleSteps S P E X I J) (pattern_step : PatternCall I → Run P (List I)) (expr_step : ExprCall J → Run E J)
    (finds : FindsAllDefined steps pattern_step expr_step) where
  -- a visit of a rule never comes to what isn't defined
  abbrev IsVisited : TermTables → Rule → Type 0
  IsVisited env rule = NeverUndefined (visits_rule steps pattern_step expr_step env.terms rule)

  each_rule_sound : (tyenv : TypeTables) (env : TermTables) (declared : Declared) (levels max : ℕ) (defs : List Def) (trees : List RuleTree)
      (made : List TypedRule) (rules : List Rule) → ShowsDeclared tyenv env declared → AllZip (IsRuleOf declared defs levels max) trees made
      → AllZip (IsShownRule tyenv.names) made rules → All (IsVisited env) rules
  each_rule_sound tyenv env declared levels max defs [] [] [] shows made shown = All-nil (IsVisited env)
  each_rule_sound tyenv env declared levels max defs [] [] (rule ∷ rules) shows made shown = absurd shown
  each_rule_sound tyenv env declared levels max defs [] (typed ∷ others) rules shows made shown = absurd made
  each_rule_sound tyenv env declared levels max defs (tree ∷ trees) [] rules shows made shown = absurd made
  each_rule_sound tyenv env declared levels max defs (tree ∷ trees) (typed ∷ others) [] shows made shown = absurd shown
  each_rule_sound tyenv env declared levels max defs (tree ∷ trees) (typed ∷ others) (rule ∷ rules) shows made shown =
      let renamed = subst (λ z. IsShownRule tyenv.names z rule) made.0.same shown.0 in
      All-cons (IsVisited env) rule rules
      (typed_rule_sound steps pattern_step expr_step finds tyenv env declared levels max tree made.0.written (name_of defs tree) rule shows
      made.0.typed renamed)
      (each_rule_sound tyenv env declared levels max defs trees others rules shows made.1 shown.1)

  -- nor does a visit of any of the rules that definitions make
  pub rules_sound : (tyenv : TypeTables) (env : TermTables) (types : Environment) (levels max : ℕ) (defs : List Def)
      → ShowsTerms tyenv env types levels max defs
      → All (λ (rule : Rule). NeverUndefined (visits_rule steps pattern_step expr_step env.terms rule)) env.rules
  rules_sound tyenv env types levels max defs shows =
      each_rule_sound tyenv env (declared_by types env.expands shows.environment) levels max defs (rules_in defs) shows.environment.rules env.rules
      shows.declared shows.makes.rules shows.rules
