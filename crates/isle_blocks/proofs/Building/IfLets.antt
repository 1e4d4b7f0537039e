-- What the visits of a rule's conditions gather.
use Rattle.std.proofs.Common.{◌≡◌, ◌≤◌, ℕ, List, [], ◌∷◌, ◌++◌, map, Ok, refl, sym, ap, ◌∙◌, subst, arith}
use Rattle.std.proofs.lemmas.List.{append-nil}
use Rattle.std.proofs.lemmas.Option.{none-some}
use Rattle.isle_types.specs.declared.ids.Sym.{Sym}
use Rattle.isle_rules.specs.declared.rules.Expr.{Expr}
use Rattle.isle_rules.specs.declared.rules.IfLet.{IfLet}
use Rattle.isle_rules.specs.declared.terms.Term.{Term}
use Rattle.isle_rules.specs.TypedRules.{TypedExpr, TypedExprs, TypedBindings, built_term, built_var, built_bool, built_int, built_prim, built_let}
use Rattle.isle_rules.specs.TypedRules.{no_built, more_built, no_typed_bindings, more_typed_bindings, TypedIfLet, TypedRule}
use Rattle.isle_rules.specs.SoundRules.KeptScopes.{Scope, counting, with_next, ExprUses, ExprsUse, BindingsAdd, IfLetsBind}
use Rattle.isle_rules.specs.Visits.VisitScopes.{no_values}
use Rattle.isle_rules.specs.Visits.VisitScopes.{VisitScope}
use Rattle.isle_rules.specs.Visits.InternedTrees.{pattern_of, expr_of}
use Rattle.isle_rules.specs.Visits.Events.{visits}
use Rattle.isle_rules.specs.Visits.RuleEvents.{visits_value, visits_iflets}
use Rattle.isle_meaning.specs.Facts.{TermFacts}
use Rattle.isle_meaning.specs.Words.{word_of, steps_of}
use Rattle.isle_meaning.specs.Sites.{Site, site_of, step_site}
use Rattle.isle_meaning.specs.Demands.{contents, bound, demands, iflet_site, iflets_bound, iflets_demands, args_bound}
use Rattle.isle_meaning.specs.Needs.{Log, no_log, visit, needs, iflets_needs}
use Rattle.isle_meaning.specs.Numbered.{Row, At}
use Rattle.isle_meaning.proofs.Matching.Visited.{visit_is_written}
use Rattle.isle_blocks.specs.declared.ids.BindingId.{BindingId}
use Rattle.isle_blocks.specs.Rows.{IsInjective, rows_of}
use Rattle.isle_blocks.specs.Inside.Building.Gathering.{Gathered}
use Rattle.isle_blocks.specs.Building.Standing.{Adds, StandEach}
use Rattle.isle_blocks.specs.Inside.Building.Steps.{pattern_adds, expr_adds, rule_adds}
use Rattle.isle_blocks.specs.Inside.Building.Named.{named_expr, named_iflet, AreKnownTerms, IfLetsAreFilled, CallNothingImpure}
use Rattle.isle_blocks.proofs.Building.Entries.{adds_then}
use Rattle.isle_blocks.proofs.Building.Told.{Told, nothing_recorded, told_grown, told_none}
use Rattle.isle_blocks.proofs.Building.Patterns.{Stand, AreBelow, stand_later, Followed, followed_told, followed_then, follow}
use Rattle.isle_blocks.proofs.Building.Exprs.{Visited}
use Rattle.isle_blocks.proofs.Building.ExprVisits.{Evaluates, follow_expr}
use Rattle.isle_blocks.proofs.Building.RuleVisits.{Carries, by_itself, follow_vars, stand_carried}
use Rattle.isle_blocks.proofs.Building.Contents.{told_contents}

mutual
  -- expressions only bind more variables
  uses_more : (e : TypedExpr) (scope : Scope) (count : ℕ) → ExprUses e scope count → scope.count ≤ count
  uses_more (built_term ty t es) scope count h = use_more es scope count h
  uses_more (built_var ty var) scope count h = let e = h.1 in omega arith
  uses_more (built_bool ty b) scope count h = omega arith
  uses_more (built_int ty n) scope count h = omega arith
  uses_more (built_prim ty n) scope count h = omega arith
  uses_more (built_let ty bs body) scope count h =
      let first = adds_more bs scope h.0 h.1 in let last = uses_more body h.0 count h.2 in omega arith

  use_more : (es : TypedExprs) (scope : Scope) (count : ℕ) → ExprsUse es scope count → scope.count ≤ count
  use_more no_built scope count h = omega arith
  use_more (more_built e es) scope count h =
      let first = uses_more e scope h.0 h.1 in let last = use_more es (counting scope h.0) count h.2 in omega arith

  adds_more : (bs : TypedBindings) (before after : Scope) → BindingsAdd bs before after → before.count ≤ after.count
  adds_more no_typed_bindings before after h = let e = ap (λ (z : Scope). z.count) h in omega arith
  adds_more (more_typed_bindings var ty e bs) before after h =
      let first = uses_more e before var h.0 in let last = adds_more bs (with_next (counting before var)) after h.1 in omega arith

below_counting : (scope : Scope) (count : ℕ) → scope.count ≤ count → AreBelow scope → AreBelow (counting scope count)
below_counting scope count m low var u = let below = low var u in omega arith

none_carried : (numbers : VisitScope BindingId) → Carries numbers no_values
none_carried numbers var id e = absurd (none-some id e)

-- nothing stands for nothing
none_each : (rows : List Row) (ids : List BindingId) (ts : List Site) → ts ≡ [] → StandEach rows ids ts → ids ≡ []
none_each rows [] ts e h = refl
none_each rows (id ∷ ids) [] e h = absurd h
none_each rows (id ∷ ids) (t ∷ ts) e h = absurd cc

-- what is needed from the start on
pub visited_adds : (name : Sym → List ℕ) (injective : IsInjective name) (s s' : Gathered) (after : Log) → Visited name injective s no_log after s'
    → Adds (rows_of name s.sites) after.needed (rows_of name s'.sites)
visited_adds name injective s s' after v = subst (λ z. Adds (rows_of name s.sites) z (rows_of name s'.sites)) (sym v.needed) v.grew.adds

module _ (name : Sym → List ℕ) (injective : IsInjective name) (names : List (List ℕ)) (facts : TermFacts) (terms : List Term)
    (known : AreKnownTerms names facts terms) where
  -- an expression, under the variables that patterns bound
  pub follow_value : (count : ℕ) (e : Expr) (before : Scope) (next : ℕ) (numbers : VisitScope BindingId) (vars : ℕ → Site)
      (log : Log) (s s' : Gathered)
      (x : BindingId) → Stand (rows_of name s.sites) before.usable numbers vars → StandEach (rows_of name s.sites) s.impure log.impure
      → ExprUses (named_expr name (expr_of e)) before next → visits_value rule_adds expr_adds terms count e numbers s (Ok x) s'
      → Evaluates name injective names facts s log (visit facts vars log (named_expr name (expr_of e))) x s'
  follow_value count e before next numbers vars log s s' x h each uses run =
      let given = follow_vars count 0 numbers no_values run.0 s run.1 (none_carried numbers) run.2 in
      let inner = run.3 in
      let p = inner.0 in
      let q = inner.1 in
      let v = inner.2 in
      let start : s ≡ p = given.0 ∙ inner.3 in
      let typed = named_expr name (expr_of e) in
      let stand = stand_carried (rows_of name p.sites) before.usable numbers run.0 vars given.1
      (subst (λ (z : Gathered). Stand (rows_of name z.sites) before.usable numbers vars) start h) in
      let here = follow_expr name injective names facts terms known (expr_of e) before next run.0 vars log p q v.1 stand
      (subst (λ (z : Gathered). StandEach (rows_of name z.sites) z.impure log.impure) start each) uses inner.4.1 in
      subst (λ (z : Gathered). Evaluates name injective names facts z log (visit facts vars log typed) x s') (sym start)
      (subst (λ (z : Gathered). Evaluates name injective names facts p log (visit facts vars log typed) x z) inner.5.1
      (subst (λ (z : BindingId). Evaluates name injective names facts p log (visit facts vars log typed) z q) inner.5.0 here))

  module _ (rule : TypedRule) where
    -- under a rule's variables, where conditions were met
    written : (met : List TypedIfLet) (vars : ℕ → Site) (e : TypedExpr) → vars ≡ iflets_bound facts met (args_bound facts rule)
        → ((visit facts vars no_log e).0 ≡ site_of facts vars (word_of facts e))
        × ((visit facts vars no_log e).1.impure ≡ map (step_site facts vars) (steps_of facts e))
    written met vars e are =
        subst (λ (z : ℕ → Site). ((visit facts z no_log e).0 ≡ site_of facts z (word_of facts e))
        × ((visit facts z no_log e).1.impure ≡ map (step_site facts z) (steps_of facts e))) (sym are)
        (visit_is_written facts (record {
          root = rule.root;
          args = rule.args;
          iflets = met;
          right = e;
          variables = rule.variables;
          priority = rule.priority;
          pos = rule.pos;
          name = rule.name;
        }))

    met_then : (met : List TypedIfLet) (x : TypedIfLet) (start : ℕ → Site)
        → iflets_bound facts (met ++ x ∷ []) start
        ≡ bound facts x.pattern (iflet_site facts (iflets_bound facts met start) x) (iflets_bound facts met start)
    met_then [] x start = refl
    met_then (y ∷ met) x start = met_then met x (bound facts y.pattern (iflet_site facts start y) start)

    -- a condition's expression, which calls nothing impure
    told_value : (met : List TypedIfLet) (vars : ℕ → Site) (e : TypedExpr) (s s' : Gathered) (x : BindingId)
        → vars ≡ iflets_bound facts met (args_bound facts rule) → s.impure ≡ [] → steps_of facts e ≡ []
        → Evaluates name injective names facts s no_log (visit facts vars no_log e) x s'
        → Told name injective s (visit facts vars no_log e).1.needed [] s' × At (rows_of name s'.sites) (site_of facts vars (word_of facts e)) x.0
    told_value met vars e s s' x are none pure h =
        let is = written met vars e are in
        let r = visit facts vars no_log e in
        let log : r.1.impure ≡ [] = is.1 ∙ ap (map (step_site facts vars)) pure in
        let v = h.0 in (
          record {
            adds = visited_adds name injective s s' r.1 v;
            has_more = [];
            same_more = [];
            has = v.grew.has ∙ sym (append-nil s.has);
            same = v.grew.same ∙ sym (append-nil s.same);
            recorded = nothing_recorded (rows_of name s'.sites);
            impure = none_each (rows_of name s'.sites) s'.impure r.1.impure log v.impure ∙ sym none;
          },
          subst (λ (z : Site). At (rows_of name s'.sites) z x.0) is.0 h.1,
        )

    -- conditions, each under what those before bound
    pub follow_iflets : (is : List IfLet) (count : ℕ) (met : List TypedIfLet) (before after : Scope) (numbers out : VisitScope BindingId)
        (vars : ℕ → Site) (needed : List Site) (s s' : Gathered) → vars ≡ iflets_bound facts met (args_bound facts rule)
        → Adds [] needed (rows_of name s.sites) → s.impure ≡ [] → Stand (rows_of name s.sites) before.usable numbers vars → AreBelow before
        → IfLetsBind (map (named_iflet name) is) before after → IfLetsAreFilled facts (map (named_iflet name) is)
        → CallNothingImpure facts (map (named_iflet name) is)
        → visits_iflets rule_adds pattern_adds expr_adds terms count is numbers s (Ok out) s'
        → Followed name injective s before numbers (iflets_needs facts (map (named_iflet name) is) vars)
        (iflets_demands facts (map (named_iflet name) is) vars) (iflets_bound facts (map (named_iflet name) is) vars) after out s'
    follow_iflets [] count met before after numbers out vars needed s s' are added none h low binds filled pure run =
        followed_told name injective s s s' before after numbers out vars [] [] (told_none name injective s) h low binds run
    follow_iflets (i ∷ is) count met before after numbers out vars needed s s' are added none h low binds filled pure run =
        let x = named_iflet name i in
        let others = map (named_iflet name) is in
        let next = binds.0 in
        let between = binds.1 in
        let inside = counting before next in
        let m = uses_more x.value before next binds.2 in
        let a = run.1 in
        let b = run.3.1 in
        let c = run.3.3.1 in
        let id = run.3.0 in
        let t = iflet_site facts vars x in
        let r = visit facts vars no_log x.value in
        let each = subst (λ (z : List BindingId). StandEach (rows_of name s.sites) z []) (sym none) tt in
        let value = told_value met vars x.value s a run.0 are none pure.0
        (follow_value count i.rhs before next numbers vars no_log s a run.0 h each binds.2 run.2) in
        let added_a = adds_then [] (rows_of name s.sites) (rows_of name a.sites) needed r.1.needed added value.0.adds in
        let asked = told_contents name injective t a b run.0 id (needed ++ r.1.needed) added_a value.1 run.3.2 in
        let stand_a = stand_later (rows_of name s.sites) (rows_of name a.sites) (told_grown name injective s a r.1.needed [] value.0)
        before.usable numbers vars h in
        let low_a = below_counting before next m low in
        let first : Followed name injective s before numbers r.1.needed [] vars inside numbers a = record {
          told = value.0;
          stand = stand_a;
          low = low_a;
          more = m;
          kept = λ var k. refl;
        } in
        let second = followed_told name injective a b b inside inside numbers numbers vars [] (contents t) asked.0 stand_a low_a refl (refl, refl) in
        let third = follow name injective names facts terms known (pattern_of i.lhs) id t inside between numbers run.3.3.0 vars b c asked.1
        second.stand second.low binds.3 filled.0 (by_itself (visits pattern_adds terms (pattern_of i.lhs) id numbers) b c run.3.3.0 run.3.3.2) in
        let inner = bound facts x.pattern t vars in
        let added_b = adds_then [] (rows_of name a.sites) (rows_of name b.sites) (needed ++ r.1.needed) [] added_a asked.0.adds in
        let added_c = adds_then [] (rows_of name b.sites) (rows_of name c.sites) ((needed ++ r.1.needed) ++ []) (needs facts x.pattern t) added_b
        third.told.adds in
        let now : inner ≡ iflets_bound facts (met ++ x ∷ []) (args_bound facts rule) =
        ap (λ (z : ℕ → Site). bound facts x.pattern (iflet_site facts z x) z) are ∙ sym (met_then met x (args_bound facts rule)) in
        let last = follow_iflets is count (met ++ x ∷ []) between after run.3.3.0 out inner
        (((needed ++ r.1.needed) ++ []) ++ needs facts x.pattern t)
        c s' now added_c (third.told.impure ∙ asked.0.impure ∙ value.0.impure ∙ none) third.stand third.low binds.4 filled.1 pure.1 run.3.3.3 in
        let end = iflets_bound facts others inner in
        followed_then name injective s a s' before inside after numbers numbers out r.1.needed
        (needs facts x.pattern t ++ iflets_needs facts others inner) []
        (contents t ++ (demands facts x.pattern t vars ++ iflets_demands facts others inner)) vars end first
        (followed_then name injective a b s' inside inside after numbers numbers out [] (needs facts x.pattern t ++ iflets_needs facts others inner)
        (contents t) (demands facts x.pattern t vars ++ iflets_demands facts others inner) vars end second
        (followed_then name injective b c s' inside between after numbers run.3.3.0 out (needs facts x.pattern t) (iflets_needs facts others inner)
        (demands facts x.pattern t vars) (iflets_demands facts others inner) inner end third last))
