-- What the visit of a pattern gathers: the sites that it needs and its demands, and what its variables stand for.
use Rattle.std.proofs.Common.{◌≡◌, ◌≤◌, ◌<◌, ◌==◌, ℕ, suc, Bool, true, false, List, [], ◌∷◌, ◌++◌, length, Option, Some, None, Ok}
use Rattle.std.proofs.Common.{slice_get, refl, sym, ap, ◌∙◌, subst, inl, inr, arith}
use Rattle.std.proofs.lemmas.Bool.{eqb-true, eq-eqb}
use Rattle.std.proofs.lemmas.Option.{none-some, same_Some}
use Rattle.std.specs.Option.{option_and_then}
use Rattle.isle_types.specs.declared.ids.Sym.{Sym}
use Rattle.isle_types.specs.declared.ids.TermId.{TermId}
use Rattle.isle_types.specs.declared.ids.TypeId.{TypeId}
use Rattle.isle_types.specs.declared.ids.VarId.{VarId}
use Rattle.isle_rules.specs.declared.terms.Term.{Term}
use Rattle.isle_rules.specs.TypedRules.{TypedPattern, typed_bind, typed_var, typed_bool, typed_int, typed_prim, typed_term, typed_wildcard}
use Rattle.isle_rules.specs.TypedRules.{typed_and, TypedPatterns, no_typed, more_typed}
use Rattle.isle_rules.specs.SoundRules.KeptScopes.{Scope, with_next, IsUsable, PatternBinds, PatternsBind}
use Rattle.isle_rules.specs.Visits.Runs.{done, asks, in_turn, on_some, stuck}
use Rattle.isle_rules.specs.Visits.VisitScopes.{bound_by}
use Rattle.isle_rules.specs.Visits.VisitScopes.{VisitScope}
use Rattle.isle_rules.specs.Visits.VisitorCalls.{PatternCall, match_equal, opening_of, opening}
use Rattle.isle_rules.specs.Visits.InternedTrees.{InternedPattern, InternedPatterns, bind_pattern, var_pattern, bool_pattern, int_pattern}
use Rattle.isle_rules.specs.Visits.InternedTrees.{prim_pattern, term_pattern, wildcard_pattern, and_pattern, no_patterns, more_patterns}
use Rattle.isle_rules.specs.Visits.Events.{visits, visits_all, visits_each}
use Rattle.isle_meaning.specs.Facts.{TermFacts, patterns}
use Rattle.isle_meaning.specs.Words.{set}
use Rattle.isle_meaning.specs.Sites.{Site}
use Rattle.isle_meaning.specs.Demands.{Demand, constrained, equal, opens, parts, bound, bound_all, demands, demands_all}
use Rattle.isle_meaning.specs.Needs.{open_needs, needs, needs_all}
use Rattle.isle_meaning.specs.Numbered.{Row, At}
use Rattle.isle_blocks.specs.declared.ids.BindingId.{BindingId}
use Rattle.isle_blocks.specs.declared.constraint.Constraint.{Constraint}
use Rattle.isle_blocks.specs.declared.constraint.Constraint.TheVariants as tests
use Rattle.isle_blocks.specs.Rows.{IsInjective, rows_of, test_of}
use Rattle.isle_blocks.specs.Inside.Building.Gathering.{Gathered}
use Rattle.isle_blocks.specs.Inside.Building.Gathering.{takes_demand}
use Rattle.isle_blocks.specs.Inside.Building.Steps.{pattern_adds}
use Rattle.isle_blocks.specs.Inside.Building.Named.{named_pattern, named_patterns, AreKnownTerms, IsFilled, AreFilled}
use Rattle.isle_blocks.proofs.Building.Entries.{Grown, at_grown}
use Rattle.isle_blocks.proofs.Building.Told.{Told, StandFrom, stand_grown, stand_shift, told_grown, told_none, told_then, told_demand, told_equates}
use Rattle.isle_blocks.proofs.Building.Openings.{told_opening}

-- the numbers of the variables that can be used stand for their sites
abbrev pub Stand : List Row → List ℕ → VisitScope BindingId → (ℕ → Site) → Type 0
Stand rows usable numbers vars = (var : VarId) (id : BindingId) → IsUsable usable var.0 → numbers var ≡ Some id → At rows (vars var.0) id.0

abbrev pub AreBelow : Scope → Type 0
AreBelow scope = (var : ℕ) → IsUsable scope.usable var → var < scope.count

pub stand_later : (rows new : List Row) → Grown rows new → (usable : List ℕ) (numbers : VisitScope BindingId) (vars : ℕ → Site)
    → Stand rows usable numbers vars → Stand new usable numbers vars
stand_later rows new g usable numbers vars h var id u e = at_grown rows new g (vars var.0) id.0 (h var id u e)

-- another variable, bound where none can use it yet
stand_under : (rows : List Row) (scope : Scope) (numbers : VisitScope BindingId) (vars : ℕ → Site) (own : VarId) (input : BindingId)
    → AreBelow scope → scope.count ≤ own.0 → Stand rows scope.usable numbers vars → Stand rows scope.usable (bound_by numbers own input) vars
stand_under rows scope numbers vars own input low fits h var id u e = go (own.0 == var.0) refl
  where
    go : (b : Bool) → (own.0 == var.0) ≡ b → At rows (vars var.0) id.0
    go true t = absurd (let same = eqb-true own.0 var.0 t in let below = low var.0 u in omega arith)
    go false t = h var id u (rw t at e)

-- the next variable can be used
stand_next : (rows : List Row) (inside : Scope) (numbers : VisitScope BindingId) (vars : ℕ → Site) (own : VarId) (input : BindingId) (t : Site)
    → own.0 ≡ inside.count → AreBelow inside → numbers own ≡ Some input → At rows t input.0 → Stand rows inside.usable numbers vars
    → Stand rows (with_next inside).usable numbers (set vars own.0 t)
stand_next rows inside numbers vars own input t is low has there h var id (inl e) f =
    let same : var.0 ≡ own.0 = sym e ∙ sym is in
    let one : own ≡ var = (λ i. record { 0 = sym same i }) in
    let given : input ≡ id = same_Some _ _ (sym has ∙ ap numbers one ∙ f) in
    let test = eq-eqb var.0 own.0 same in
    rw test (subst (λ (z : BindingId). At rows t z.0) given there)
stand_next rows inside numbers vars own input t is low has there h var id (inr u) f = go (var.0 == own.0) refl
  where
    go : (b : Bool) → (var.0 == own.0) ≡ b → At rows (set vars own.0 t var.0) id.0
    go true q = absurd (let same = eqb-true var.0 own.0 q in let below = low var.0 u in omega arith)
    go false q = rw q (h var id u f)

below_next : (inside : Scope) → AreBelow inside → AreBelow (with_next inside)
below_next inside low var (inl e) = omega arith
below_next inside low var (inr u) = let below = low var u in omega arith

-- another variable keeps what it had
apart : (scope : VisitScope BindingId) (own : VarId) (input : BindingId) (var : VarId) → own.0 < var.0 → bound_by scope own input var ≡ scope var
apart scope own input var m = go (own.0 == var.0) refl
  where
    go : (b : Bool) → (own.0 == var.0) ≡ b → bound_by scope own input var ≡ scope var
    go true t = absurd (let same = eqb-true own.0 var.0 t in omega arith)
    go false t = rw t refl

mutual
  -- patterns only bind more variables
  binds_more : (p : TypedPattern) (before after : Scope) → PatternBinds p before after → before.count ≤ after.count
  binds_more (typed_bind ty k p) before after h =
      let below = binds_more p before h.0 h.1 in let e = ap (λ (z : Scope). z.count) h.3 in omega arith
  binds_more (typed_var ty k) before after h = let e = ap (λ (z : Scope). z.count) h.1 in omega arith
  binds_more (typed_bool ty b) before after h = let e = ap (λ (z : Scope). z.count) h in omega arith
  binds_more (typed_int ty n) before after h = let e = ap (λ (z : Scope). z.count) h in omega arith
  binds_more (typed_prim ty n) before after h = let e = ap (λ (z : Scope). z.count) h in omega arith
  binds_more (typed_term ty id ps) before after h = bind_more ps before after h
  binds_more (typed_wildcard ty) before after h = let e = ap (λ (z : Scope). z.count) h in omega arith
  binds_more (typed_and ty ps) before after h = bind_more ps before after h

  bind_more : (ps : TypedPatterns) (before after : Scope) → PatternsBind ps before after → before.count ≤ after.count
  bind_more no_typed before after h = let e = ap (λ (z : Scope). z.count) h in omega arith
  bind_more (more_typed p ps) before after h =
      let first = binds_more p before h.0 h.1 in let rest = bind_more ps h.0 after h.2 in omega arith

module _ (name : Sym → List ℕ) (injective : IsInjective name) where
  -- what a visit under some variables leaves
  pub record Followed (s : Gathered) (before : Scope) (scope : VisitScope BindingId) (needed : List Site) (ds : List Demand) (vars : ℕ → Site)
      (after : Scope) (out : VisitScope BindingId) (s' : Gathered) : Type 0 where
    pub told : Told name injective s needed ds s'
    pub stand : Stand (rows_of name s'.sites) after.usable out vars
    pub low : AreBelow after
    pub more : before.count ≤ after.count
    pub kept : (var : VarId) → after.count ≤ var.0 → out var ≡ scope var

  -- a step that binds nothing
  pub followed_told : (s mid s' : Gathered) (before after : Scope) (scope out : VisitScope BindingId) (vars : ℕ → Site)
      (needed : List Site) (ds : List Demand)
      → Told name injective s needed ds mid → Stand (rows_of name s.sites) before.usable scope vars → AreBelow before → after ≡ before
      → done {S = Gathered} scope mid (Ok out) s' → Followed s before scope needed ds vars after out s'
  followed_told s mid s' before after scope out vars needed ds told h low e end =
      subst (λ z. Followed s before scope needed ds vars z out s') (sym e)
      (subst (λ z. Followed s before scope needed ds vars before z s') end.0
      (subst (λ (z : Gathered). Followed s before scope needed ds vars before scope z) end.1
      (record {
        told = told;
        stand = stand_later (rows_of name s.sites) (rows_of name mid.sites) (told_grown name injective s mid needed ds told)
            before.usable scope vars h;
        low = low;
        more = omega arith;
        kept = λ var m. refl;
      })))

  pub followed_then : (s mid s' : Gathered) (before between after : Scope) (scope numbers out : VisitScope BindingId)
      (xs ys : List Site) (ds es : List Demand)
      (inner vars : ℕ → Site) → Followed s before scope xs ds inner between numbers mid → Followed mid between numbers ys es vars after out s'
      → Followed s before scope (xs ++ ys) (ds ++ es) vars after out s'
  followed_then s mid s' before between after scope numbers out xs ys ds es inner vars h k = record {
    told = told_then name injective s mid s' xs ys ds es h.told k.told;
    stand = k.stand;
    low = k.low;
    more = let a = h.more in let b = k.more in omega arith;
    kept = λ var m. k.kept var m ∙ h.kept var (let b = k.more in omega arith);
  }

  module _ (names : List (List ℕ)) (facts : TermFacts) (terms : List Term) (known : AreKnownTerms names facts terms) where
    -- a test
    tested : (test : Constraint) (input : BindingId) (t : Site) (before after : Scope) (scope out : VisitScope BindingId) (vars : ℕ → Site)
        (s s' mid : Gathered) (ids : List BindingId)
        → At (rows_of name s.sites) t input.0 → Stand (rows_of name s.sites) before.usable scope vars → AreBelow before → after ≡ before
        → takes_demand input test s (Ok ids) mid → done {S = Gathered} scope mid (Ok out) s'
        → Followed s before scope [] (constrained t (test_of name test) ∷ []) vars after out s'
    tested test input t before after scope out vars s s' mid ids is h low e run end =
        followed_told s mid s' before after scope out vars [] (constrained t (test_of name test) ∷ [])
        (told_demand name injective test t s mid input ids is run).0 h low e end

    -- an equality
    followed_var : (o : Option BindingId) (ty : TypeId) (var : VarId) (input : BindingId) (t : Site) (before after : Scope)
        (scope out : VisitScope BindingId) (vars : ℕ → Site)
        (s s' : Gathered) → scope var ≡ o → IsUsable before.usable var.0
        → At (rows_of name s.sites) t input.0 → Stand (rows_of name s.sites) before.usable scope vars → AreBelow before → after ≡ before
        → on_some o (λ other. in_turn (asks pattern_adds (match_equal input other ty)) (λ _. done scope)) stuck s (Ok out) s'
        → Followed s before scope [] (equal t (vars var.0) ∷ []) vars after out s'
    followed_var None ty var input t before after scope out vars s s' o u is h low e run = absurd run
    followed_var (Some other) ty var input t before after scope out vars s s' o u is h low e run =
        followed_told s run.1 s' before after scope out vars [] (equal t (vars var.0) ∷ [])
        (told_equates name injective t (vars var.0) s run.1 input other run.0 is (h var other u o) run.2) h low e run.3

    -- patterns, each at its number
    abbrev FollowsAll : InternedPatterns → Type 0
    FollowsAll ps = (ids : List BindingId) (at : ℕ → Site) (before after : Scope) (scope out : VisitScope BindingId)
        (vars : ℕ → Site) (s s' : Gathered)
        → StandFrom (rows_of name s.sites) ids at 0 → Stand (rows_of name s.sites) before.usable scope vars → AreBelow before
        → PatternsBind (named_patterns name ps) before after → AreFilled facts (named_patterns name ps)
        → visits_all pattern_adds terms ps ids scope s (Ok out) s'
        → Followed s before scope (needs_all facts (named_patterns name ps) at) (demands_all facts (named_patterns name ps) at vars)
        (bound_all facts (named_patterns name ps) at vars) after out s'

    followed_opened : (term : Option Term) (o : Option (PatternCall BindingId)) (ty : TypeId) (id : TermId) (ps : InternedPatterns) → FollowsAll ps
        → (input : BindingId) (t : Site) (before after : Scope) (scope out : VisitScope BindingId) (vars : ℕ → Site) (s s' : Gathered)
        → slice_get terms id.0 ≡ term → option_and_then (λ (z : Term). opening_of z.kind z ty id input) term ≡ o
        → At (rows_of name s.sites) t input.0 → Stand (rows_of name s.sites) before.usable scope vars → AreBelow before
        → PatternsBind (named_patterns name ps) before after → IsFilled facts (typed_term ty.0 id.0 (named_patterns name ps))
        → on_some o (λ call. in_turn (asks pattern_adds call) (λ ids. visits_all pattern_adds terms ps ids scope)) stuck s (Ok out) s'
        → Followed s before scope (needs facts (typed_term ty.0 id.0 (named_patterns name ps)) t)
        (demands facts (typed_term ty.0 id.0 (named_patterns name ps)) t vars)
        (bound facts (typed_term ty.0 id.0 (named_patterns name ps)) t vars) after out s'
    followed_opened term None ty id ps all input t before after scope out vars s s' f o is h low binds filled run = absurd run
    followed_opened None (Some call) ty id ps all input t before after scope out vars s s' f o is h low binds filled run = absurd (none-some call o)
    followed_opened (Some term) (Some call) ty id ps all input t before after scope out vars s s' f o is h low binds filled run =
        let k = known id.0 term f in
        let n : length term.arg_tys ≡ patterns (named_patterns name ps) = sym k.takes ∙ sym filled.0 in
        let mid = run.1 in
        let opened = subst (λ z. Told name injective s (open_needs facts (facts.shape id.0) id.0 z t)
        (opens facts (facts.shape id.0) ty.0 id.0 z t) mid
        × StandFrom (rows_of name mid.sites) run.0 (parts facts (facts.shape id.0) id.0 z t) 0) n
        (told_opening name injective names facts term ty id t input s mid call run.0 k is o run.2) in
        let count = patterns (named_patterns name ps) in
        let at = parts facts (facts.shape id.0) id.0 count t in
        let needed = open_needs facts (facts.shape id.0) id.0 count t in
        let asked = opens facts (facts.shape id.0) ty.0 id.0 count t in
        let g = told_grown name injective s mid needed asked opened.0 in
        let start = followed_told s mid mid before before scope scope vars needed asked opened.0 h low refl (refl, refl) in
        followed_then s mid s' before before after scope scope out needed (needs_all facts (named_patterns name ps) at) asked
        (demands_all facts (named_patterns name ps) at vars) vars (bound_all facts (named_patterns name ps) at vars) start
        (all run.0 at before after scope out vars mid s' opened.1
        (stand_later (rows_of name s.sites) (rows_of name mid.sites) g before.usable scope vars h) low binds filled.1 run.3)

    -- what binds a pattern's value: the variable is the next one, after those of the pattern
    follow_bound : (p : InternedPattern) (input : BindingId) (t : Site) (before inside after : Scope) (scope out : VisitScope BindingId)
        (vars : ℕ → Site)
        (own : VarId) (s s' : Gathered) → At (rows_of name s.sites) t input.0 → own.0 ≡ inside.count → after ≡ with_next inside
        → Followed s before (bound_by scope own input) (needs facts (named_pattern name p) t) (demands facts (named_pattern name p) t vars)
        (bound facts (named_pattern name p) t vars) inside out s'
        → Followed s before scope (needs facts (named_pattern name p) t) (demands facts (named_pattern name p) t vars)
        (set (bound facts (named_pattern name p) t vars) own.0 t) after out s'
    follow_bound p input t before inside after scope out vars own s s' is e f h =
        let typed = named_pattern name p in
        let g = told_grown name injective s s' (needs facts typed t) (demands facts typed t vars) h.told in
        let there = at_grown (rows_of name s.sites) (rows_of name s'.sites) g t input.0 is in
        let itself : (own.0 == own.0) ≡ true = eq-eqb own.0 own.0 refl in
        let has : out own ≡ Some input = h.kept own (omega arith) ∙ rw itself refl in
        subst (λ z. Followed s before scope (needs facts typed t) (demands facts typed t vars) (set (bound facts typed t vars) own.0 t) z out s')
        (sym f)
        (record {
          told = h.told;
          stand = stand_next (rows_of name s'.sites) inside out (bound facts typed t vars) own input t e h.low has there h.stand;
          low = below_next inside h.low;
          more = let a = h.more in omega arith;
          kept = λ var m. h.kept var (omega arith) ∙ apart scope own input var (omega arith);
        })

    mutual
      -- a pattern at a site
      pub follow : (p : InternedPattern) (input : BindingId) (t : Site) (before after : Scope) (scope out : VisitScope BindingId) (vars : ℕ → Site)
          (s s' : Gathered) → At (rows_of name s.sites) t input.0 → Stand (rows_of name s.sites) before.usable scope vars → AreBelow before
          → PatternBinds (named_pattern name p) before after → IsFilled facts (named_pattern name p)
          → visits pattern_adds terms p input scope s (Ok out) s'
          → Followed s before scope (needs facts (named_pattern name p) t) (demands facts (named_pattern name p) t vars)
          (bound facts (named_pattern name p) t vars) after out s'
      follow (bind_pattern ty own p) input t before after scope out vars s s' is h low binds filled run =
          let inside = binds.0 in
          let fits = binds_more (named_pattern name p) before inside binds.1 in
          let under = stand_under (rows_of name s.sites) before scope vars own input low (let e = binds.2 in omega arith) h in
          let within = follow p input t before inside (bound_by scope own input) out vars s s' is under low binds.1 filled run in
          follow_bound p input t before inside after scope out vars own s s' is binds.2 binds.3 within
      follow (var_pattern ty var) input t before after scope out vars s s' is h low binds filled run =
          followed_var (scope var) ty var input t before after scope out vars s s' refl binds.0 is h low binds.1 run
      follow (bool_pattern ty val) input t before after scope out vars s s' is h low binds filled run =
          tested (tests.ConstBool val ty) input t before after scope out vars s s' run.1 run.0 is h low binds run.2 run.3
      follow (int_pattern ty val) input t before after scope out vars s s' is h low binds filled run =
          tested (tests.ConstInt val ty) input t before after scope out vars s s' run.1 run.0 is h low binds run.2 run.3
      follow (prim_pattern ty val) input t before after scope out vars s s' is h low binds filled run =
          tested (tests.ConstPrim val) input t before after scope out vars s s' run.1 run.0 is h low binds run.2 run.3
      follow (term_pattern ty id ps) input t before after scope out vars s s' is h low binds filled run =
          followed_opened (slice_get terms id.0) (opening terms ty id input) ty id ps
          (λ ids at b a sc ot vs x y st hs lw bs fl r. follow_all ps ids at b a sc ot vs x y st hs lw bs fl r) input
          t before after scope out vars s s'
          refl refl is h low binds filled run
      follow (wildcard_pattern ty) input t before after scope out vars s s' is h low binds filled run =
          followed_told s s s' before after scope out vars [] [] (told_none name injective s) h low binds run
      follow (and_pattern ty ps) input t before after scope out vars s s' is h low binds filled run =
          follow_each ps input t before after scope out vars s s' is h low binds filled run

      pub follow_all : (ps : InternedPatterns) (ids : List BindingId) (at : ℕ → Site) (before after : Scope) (scope out : VisitScope BindingId)
          (vars : ℕ → Site) (s s' : Gathered)
          → StandFrom (rows_of name s.sites) ids at 0 → Stand (rows_of name s.sites) before.usable scope vars → AreBelow before
          → PatternsBind (named_patterns name ps) before after → AreFilled facts (named_patterns name ps)
          → visits_all pattern_adds terms ps ids scope s (Ok out) s'
          → Followed s before scope (needs_all facts (named_patterns name ps) at) (demands_all facts (named_patterns name ps) at vars)
          (bound_all facts (named_patterns name ps) at vars) after out s'
      follow_all no_patterns ids at before after scope out vars s s' are h low binds filled run =
          followed_told s s s' before after scope out vars [] [] (told_none name injective s) h low binds run
      follow_all (more_patterns p ps) [] at before after scope out vars s s' are h low binds filled run = absurd run
      follow_all (more_patterns p ps) (id ∷ ids) at before after scope out vars s s' are h low binds filled run =
          let mid = run.1 in
          let between = binds.0 in
          let typed = named_pattern name p in
          let others = named_patterns name ps in
          let one = follow p id (at 0) before between scope run.0 vars s mid are.0 h low binds.1 filled.0 run.2 in
          let g = told_grown name injective s mid (needs facts typed (at 0)) (demands facts typed (at 0) vars) one.told in
          let left = stand_shift (rows_of name mid.sites) ids at 0 (stand_grown (rows_of name s.sites) (rows_of name mid.sites) g ids at 1 are.1) in
          let inner = bound facts typed (at 0) vars in
          let rest = follow_all ps ids (λ i. at (suc i)) between after run.0 out inner mid s' left one.stand one.low binds.2 filled.1 run.3 in
          followed_then s mid s' before between after scope run.0 out (needs facts typed (at 0)) (needs_all facts others (λ i. at (suc i)))
          (demands facts typed (at 0) vars) (demands_all facts others (λ i. at (suc i)) inner) inner (bound_all facts others (λ i. at (suc i)) inner)
          one rest

      pub follow_each : (ps : InternedPatterns) (input : BindingId) (t : Site) (before after : Scope) (scope out : VisitScope BindingId)
          (vars : ℕ → Site) (s s' : Gathered)
          → At (rows_of name s.sites) t input.0 → Stand (rows_of name s.sites) before.usable scope vars → AreBelow before
          → PatternsBind (named_patterns name ps) before after → AreFilled facts (named_patterns name ps)
          → visits_each pattern_adds terms ps input scope s (Ok out) s'
          → Followed s before scope (needs_all facts (named_patterns name ps) (λ i. t)) (demands_all facts (named_patterns name ps) (λ i. t) vars)
          (bound_all facts (named_patterns name ps) (λ i. t) vars) after out s'
      follow_each no_patterns input t before after scope out vars s s' is h low binds filled run =
          followed_told s s s' before after scope out vars [] [] (told_none name injective s) h low binds run
      follow_each (more_patterns p ps) input t before after scope out vars s s' is h low binds filled run =
          let mid = run.1 in
          let between = binds.0 in
          let typed = named_pattern name p in
          let others = named_patterns name ps in
          let one = follow p input t before between scope run.0 vars s mid is h low binds.1 filled.0 run.2 in
          let g = told_grown name injective s mid (needs facts typed t) (demands facts typed t vars) one.told in
          let inner = bound facts typed t vars in
          let rest = follow_each ps input t between after run.0 out inner mid s'
          (at_grown (rows_of name s.sites) (rows_of name mid.sites) g t input.0 is)
          one.stand one.low binds.2 filled.1 run.3 in
          followed_then s mid s' before between after scope run.0 out (needs facts typed t) (needs_all facts others (λ i. t))
          (demands facts typed t vars) (demands_all facts others (λ i. t) inner) inner (bound_all facts others (λ i. t) inner) one rest
