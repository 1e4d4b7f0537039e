-- What the visits of a rule's arguments gather, and which numbers expressions are given.
use Rattle.std.proofs.Common.{◌≡◌, ◌+◌, ◌==◌, ℕ, zero, suc, Bool, true, false, List, [], ◌∷◌, ◌++◌, map, Option, Some, None, Ok}
use Rattle.std.proofs.Common.{refl, sym, ap, ◌∙◌, subst, add-one, arith}
use Rattle.std.proofs.lemmas.Bool.{eqb-true}
use Rattle.std.proofs.lemmas.Option.{same_Some}
use Rattle.isle_types.specs.declared.ids.Sym.{Sym}
use Rattle.isle_types.specs.declared.ids.TypeId.{TypeId}
use Rattle.isle_types.specs.declared.ids.VarId.{VarId}
use Rattle.isle_rules.specs.declared.rules.Pattern.{Pattern}
use Rattle.isle_rules.specs.declared.terms.Term.{Term}
use Rattle.isle_rules.specs.SoundRules.KeptScopes.{Scope, PatternsBind}
use Rattle.isle_rules.specs.Visits.Runs.{Run, done, asks, in_turn, on_some}
use Rattle.isle_rules.specs.Visits.VisitScopes.{bound_by}
use Rattle.isle_rules.specs.Visits.VisitScopes.{VisitScope}
use Rattle.isle_rules.specs.Visits.InternedTrees.{listed_patterns, pattern_of}
use Rattle.isle_rules.specs.Visits.Events.{visits}
use Rattle.isle_rules.specs.Visits.RuleSteps.{in_pattern}
use Rattle.isle_rules.specs.Visits.RuleEvents.{visits_vars, visits_args}
use Rattle.isle_meaning.specs.Facts.{TermFacts}
use Rattle.isle_meaning.specs.Sites.{Site, argument}
use Rattle.isle_meaning.specs.Demands.{bound, bound_all, demands, demands_all}
use Rattle.isle_meaning.specs.Needs.{needs, args_needs}
use Rattle.isle_meaning.specs.Numbered.{Row}
use Rattle.isle_blocks.specs.declared.ids.BindingId.{BindingId}
use Rattle.isle_blocks.specs.declared.binding.Binding.TheVariants as sites
use Rattle.isle_blocks.specs.Rows.{IsInjective, rows_of}
use Rattle.isle_blocks.specs.Inside.Building.Gathering.{Gathered}
use Rattle.isle_blocks.specs.Inside.Building.Steps.{pattern_adds, rule_adds}
use Rattle.isle_blocks.specs.Inside.Building.Named.{named_pattern, named_patterns, AreKnownTerms, AreFilled}
use Rattle.isle_blocks.proofs.Building.Told.{told_grown, told_none, told_intern}
use Rattle.isle_blocks.proofs.Building.Patterns.{Stand, AreBelow, Followed, followed_told, followed_then, follow}

-- the builder hands out itself for a pattern
pub by_itself : {A : Type 0} (run : Run Gathered A) (s s' : Gathered) (a : A) → in_pattern rule_adds run s (Ok a) s' → run s (Ok a) s'
by_itself run s s' a h = subst (λ x. run x (Ok a) s') (sym h.2) (subst (λ y. run h.0 (Ok a) y) h.4 h.3)

-- a variable that expressions are given has the number that it has in patterns
abbrev pub Carries : VisitScope BindingId → VisitScope BindingId → Type 0
Carries numbers values = (var : VarId) (id : BindingId) → values var ≡ Some id → numbers var ≡ Some id

carries_bound : (numbers values : VisitScope BindingId) (own : VarId) (id : BindingId) → numbers own ≡ Some id → Carries numbers values
    → Carries numbers (bound_by values own id)
carries_bound numbers values own id is h var other e = go (own.0 == var.0) refl
  where
    go : (b : Bool) → (own.0 == var.0) ≡ b → numbers var ≡ Some other
    go true q =
        let same = eqb-true own.0 var.0 q in
        let one : own ≡ var = (λ i. record { 0 = same i }) in
        let given : id ≡ other = same_Some _ _ (rw q at e) in
        ap numbers (sym one) ∙ is ∙ ap (λ z. Some z) given
    go false q = h var other (rw q at e)

carries_var : (o : Option BindingId) (numbers values after : VisitScope BindingId) (own : VarId) (s s' : Gathered) → numbers own ≡ o
    → Carries numbers values
    → on_some o (λ value. in_turn (asks (λ (id : BindingId). done {S = Gathered} id) value) (λ made. done (bound_by values own made))) (done values) s
    (Ok after) s'
    → (s ≡ s') × Carries numbers after
carries_var None numbers values after own s s' o h run = (run.1, subst (λ z. Carries numbers z) run.0 h)
carries_var (Some value) numbers values after own s s' o h run = (
  run.2.1 ∙ run.3.1,
  subst (λ z. Carries numbers z) run.3.0
      (carries_bound numbers values own run.0 (o ∙ ap (λ z. Some z) run.2.0) h),
)

-- nothing is gathered by giving variables to expressions
pub follow_vars : (n var : ℕ) (numbers values out : VisitScope BindingId) (s s' : Gathered) → Carries numbers values
    → visits_vars rule_adds numbers var n values s (Ok out) s' → (s ≡ s') × Carries numbers out
follow_vars zero var numbers values out s s' h run = (run.1, subst (λ z. Carries numbers z) run.0 h)
follow_vars (suc n) var numbers values out s s' h run =
    let one = carries_var (numbers (record { 0 = var })) numbers values run.0 (record { 0 = var }) s run.1 refl h run.2 in
    let rest = follow_vars n (var + 1) numbers run.0 out run.1 s' one.1 run.3 in
    (one.0 ∙ rest.0, rest.1)

-- what stands for patterns stands for expressions
pub stand_carried : (rows : List Row) (usable : List ℕ) (numbers values : VisitScope BindingId) (vars : ℕ → Site) → Carries numbers values
    → Stand rows usable numbers vars → Stand rows usable values vars
stand_carried rows usable numbers values vars c h var id u e = h var id u (c var id e)

module _ (name : Sym → List ℕ) (injective : IsInjective name) (names : List (List ℕ)) (facts : TermFacts) (terms : List Term)
    (known : AreKnownTerms names facts terms) where
  -- a rule's arguments, each with its pattern
  pub follow_args : (ps : List Pattern) (tys : List TypeId) (index : ℕ) (at : ℕ → Site) (before after : Scope) (scope out : VisitScope BindingId)
      (vars : ℕ → Site) (s s' : Gathered) → ((i : ℕ) → at i ≡ argument (index + i)) → Stand (rows_of name s.sites) before.usable scope vars
      → AreBelow before → PatternsBind (named_patterns name (listed_patterns (map pattern_of ps))) before after
      → AreFilled facts (named_patterns name (listed_patterns (map pattern_of ps)))
      → visits_args rule_adds pattern_adds terms ps tys index scope s (Ok out) s'
      → Followed name injective s before scope (args_needs facts (named_patterns name (listed_patterns (map pattern_of ps))) index)
      (demands_all facts (named_patterns name (listed_patterns (map pattern_of ps))) at vars)
      (bound_all facts (named_patterns name (listed_patterns (map pattern_of ps))) at vars) after out s'
  follow_args [] tys index at before after scope out vars s s' are h low binds filled run =
      followed_told name injective s s s' before after scope out vars [] [] (told_none name injective s) h low binds run
  follow_args (p ∷ ps) [] index at before after scope out vars s s' are h low binds filled run = absurd run
  follow_args (p ∷ ps) (ty ∷ tys) index at before after scope out vars s s' are h low binds filled run =
      let id = run.0 in
      let first = run.1 in
      let rest = run.3 in
      let mid = rest.1 in
      let between = binds.0 in
      let here : at 0 ≡ argument index = are 0 ∙ ap argument (omega arith) in
      let typed = named_pattern name (pattern_of p) in
      let others = named_patterns name (listed_patterns (map pattern_of ps)) in
      let arg = told_intern name injective (sites.Argument (record { 0 = index })) (argument index) s first id refl run.2.1 in
      let g = told_grown name injective s first (argument index ∷ []) [] arg.0 in
      let start = followed_told name injective s first first before before scope scope vars (argument index ∷ []) [] arg.0 h low refl (refl, refl) in
      let one = follow name injective names facts terms known (pattern_of p) id (argument index) before between scope rest.0 vars first mid arg.1
      start.stand low binds.1 filled.0 (by_itself (visits pattern_adds terms (pattern_of p) id scope) first mid rest.0 rest.2) in
      let inner = bound facts typed (argument index) vars in
      let step : index + 1 ≡ suc index = add-one index in
      let left = follow_args ps tys (index + 1) (λ i. at (suc i)) between after rest.0 out inner mid s'
      (λ i. are (suc i) ∙ ap argument (omega arith)) one.stand one.low binds.2 filled.1 rest.3 in
      let last = subst (λ z. Followed name injective mid between rest.0 (args_needs facts others z) (demands_all facts others (λ i. at (suc i)) inner)
      (bound_all facts others (λ i. at (suc i)) inner) after out s') step left in
      let both = followed_then name injective first mid s' before between after scope rest.0 out (needs facts typed (argument index))
      (args_needs facts others (suc index)) (demands facts typed (argument index) vars) (demands_all facts others (λ i. at (suc i)) inner) inner
      (bound_all facts others (λ i. at (suc i)) inner) one last in
      subst (λ (t : Site). Followed name injective s before scope
      (argument index ∷ (needs facts typed (argument index) ++ args_needs facts others (suc index)))
      (demands facts typed t vars ++ demands_all facts others (λ i. at (suc i)) (bound facts typed t vars))
      (bound_all facts others (λ i. at (suc i)) (bound facts typed t vars)) after out s') (sym here)
      (followed_then name injective s first s' before before after scope scope out (argument index ∷ [])
      (needs facts typed (argument index) ++ args_needs facts others (suc index)) []
      (demands facts typed (argument index) vars ++ demands_all facts others (λ i. at (suc i)) inner) vars
      (bound_all facts others (λ i. at (suc i)) inner) start both)
