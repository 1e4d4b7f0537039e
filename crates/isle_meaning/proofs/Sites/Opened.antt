-- Where if-lets have no `let`, each content that their multi calls are made of has its test.
use Rattle.std.proofs.Common.{inl, inr, ℕ, zero, suc, List, [], ◌∷◌, ◌++◌, length, Bool, true, false, refl, sym, subst}
use Rattle.isle_rules.specs.TypedRules.{TypedExpr, built_var, built_bool, built_int, built_prim, built_term, built_let, TypedExprs, no_built}
use Rattle.isle_rules.specs.TypedRules.{more_built, TypedIfLet}
use Rattle.isle_meaning.specs.Facts.{TermShape, variant_shape, struct_shape, declared_shape, TermFacts}
use Rattle.isle_meaning.specs.Words.{var_word}
use Rattle.isle_meaning.specs.Sites.{Site, constructor_call, Sites, answer_site, iterator}
use Rattle.isle_meaning.specs.Demands.{Demand, Among, contents, contents_all, bound, demands, demands_all, iflet_site, iflets_demands, nothing}
use Rattle.isle_meaning.specs.Demands.{args_bound, demands_of}
use Rattle.isle_meaning.specs.Elaborated.{IfLetsNeed, HasNoLet, HaveNoLet, IfLetsHaveNoLet}
use Rattle.isle_meaning.specs.Laws.Elaborated.{RulesWithoutLetsOpen}
use Rattle.isle_meaning.specs.Needs.{Log, no_log, answer_needs, called, applied, visit, visit_all}
use Rattle.isle_meaning.proofs.Matching.Visited.{visited}
use Rattle.isle_meaning.proofs.Sites.Parts.{EachSite, sites_append, each_needed}

module _ (facts : TermFacts) (D : Demand → Type 0) where
  -- each of these demands is one of all
  abbrev Within : List Demand → Type 0
  Within ds = (d : Demand) → Among ds d → D d

  within_left : (ds es : List Demand) → Within (ds ++ es) → Within ds
  within_left [] es w d i = absurd i
  within_left (x ∷ ds) es w d (inl e) = w d (inl e)
  within_left (x ∷ ds) es w d (inr i) = within_left ds es (λ f j. w f (inr j)) d i

  within_right : (ds es : List Demand) → Within (ds ++ es) → Within es
  within_right [] es w d i = w d i
  within_right (x ∷ ds) es w d i = within_right ds es (λ f j. w f (inr j)) d i

  -- the contents of a site are
  abbrev IsOpen : Site → Type 0
  IsOpen s = Within (contents s)

  -- those of what a call gives are those of its arguments, and more
  answer_args : (m b : Bool) (t : ℕ) (ss : Sites) (i : ℕ) → IsOpen (answer_site m b (constructor_call t ss i)) → Within (contents_all ss)
  answer_args true b t ss i w = w
  answer_args false true t ss i w = λ d j. w d (inr j)
  answer_args false false t ss i w = w

  -- so is all that the call needs
  answer_open : (m b : Bool) (t : ℕ) (ss : Sites) (i : ℕ) → IsOpen (answer_site m b (constructor_call t ss i))
      → EachSite IsOpen (answer_needs m b (constructor_call t ss i))
  answer_open true b t ss i w = (w, (w, tt))
  answer_open false true t ss i w = ((λ d j. w d (inr j)), (w, tt))
  answer_open false false t ss i w = (w, tt)

  -- so with what is called
  called_args : (b : Bool) (t : ℕ) (r : Sites × Log) → IsOpen ((called facts b t r).0) → Within (contents_all (r.0))
  called_args true t r w = answer_args (facts.multi t) (facts.partial t) t (r.0) zero w
  called_args false t r w = answer_args (facts.multi t) (facts.partial t) t (r.0) (suc (length (r.1.impure))) w

  called_open : (b : Bool) (t : ℕ) (r : Sites × Log) → IsOpen ((called facts b t r).0) → EachSite IsOpen (r.1.needed)
      → EachSite IsOpen ((called facts b t r).1.needed)
  called_open true t r w h = sites_append IsOpen (r.1.needed) _ h (answer_open (facts.multi t) (facts.partial t) t (r.0) zero w)
  called_open false t r w h =
      sites_append IsOpen (r.1.needed) _ h (answer_open (facts.multi t) (facts.partial t) t (r.0) (suc (length (r.1.impure))) w)

  -- and with a term
  applied_args : (shape : TermShape) (ty t : ℕ) (r : Sites × Log) → IsOpen ((applied facts shape ty t r).0) → Within (contents_all (r.0))
  applied_args (variant_shape k) ty t r w = w
  applied_args struct_shape ty t r w = w
  applied_args declared_shape ty t r w = called_args (facts.pure t) t r w

  applied_open : (shape : TermShape) (ty t : ℕ) (r : Sites × Log) → IsOpen ((applied facts shape ty t r).0) → EachSite IsOpen (r.1.needed)
      → EachSite IsOpen ((applied facts shape ty t r).1.needed)
  applied_open (variant_shape k) ty t r w h = sites_append IsOpen (r.1.needed) _ h (w, tt)
  applied_open struct_shape ty t r w h = sites_append IsOpen (r.1.needed) _ h (w, tt)
  applied_open declared_shape ty t r w h = called_open (facts.pure t) t r w h

  mutual
    -- without `let` the contents of all that an expression needs are among those of its site
    visit_open : (e : TypedExpr) (vars : ℕ → Site) (log : Log) → HasNoLet e → IsOpen ((visit facts vars log e).0) → EachSite IsOpen log.needed
        → EachSite IsOpen ((visit facts vars log e).1.needed)
    visit_open (built_var ty k) vars log n w h = h
    visit_open (built_bool ty b) vars log n w h = sites_append IsOpen log.needed _ h ((λ d i. absurd i), tt)
    visit_open (built_int ty m) vars log n w h = sites_append IsOpen log.needed _ h ((λ d i. absurd i), tt)
    visit_open (built_prim ty m) vars log n w h = sites_append IsOpen log.needed _ h ((λ d i. absurd i), tt)
    visit_open (built_term ty t es) vars log n w h =
        let r = visit_all facts vars log es in
        applied_open (facts.shape t) ty t r w (all_open es vars log n (applied_args (facts.shape t) ty t r w) h)
    visit_open (built_let ty bs body) vars log n w h = absurd n

    -- so with expressions
    all_open : (es : TypedExprs) (vars : ℕ → Site) (log : Log) → HaveNoLet es → Within (contents_all ((visit_all facts vars log es).0))
        → EachSite IsOpen log.needed → EachSite IsOpen ((visit_all facts vars log es).1.needed)
    all_open no_built vars log n w h = h
    all_open (more_built e es) vars log n w h =
        let first = (visit facts vars log e).0 in
        let mid = (visit facts vars log e).1 in
        all_open es vars mid (n.1) (within_right (contents first) _ w) (visit_open e vars log (n.0) (within_left (contents first) _ w) h)

  -- of if-lets
  iflets_open : (xs : List TypedIfLet) (vars : ℕ → Site) → IfLetsHaveNoLet xs → Within (iflets_demands facts xs vars) → (s : Site)
      → IfLetsNeed facts xs vars s → IsOpen s
  iflets_open [] vars n w s i = absurd i
  iflets_open (x ∷ xs) vars n w s (inl i) =
      let site = iflet_site facts vars x in
      let same = (visited facts vars x.value (λ k. var_word k) vars (λ j. refl) [] no_log refl).0 in
      let fine : IsOpen ((visit facts vars no_log x.value).0) = subst IsOpen (sym same) (within_left (contents site) _ w) in
      each_needed IsOpen ((visit facts vars no_log x.value).1.needed) s (visit_open x.value vars no_log (n.0) fine tt) i
  iflets_open (x ∷ xs) vars n w s (inr i) =
      let site = iflet_site facts vars x in
      iflets_open xs (bound facts x.pattern site vars) (n.1)
      (within_right (demands facts x.pattern site vars) _ (within_right (contents site) _ w)) s i

pub rules_without_lets_open : RulesWithoutLetsOpen
rules_without_lets_open facts rule n s i =
    iflets_open facts (Among (demands_of facts rule)) rule.iflets (args_bound facts rule) n
    (within_right facts (Among (demands_of facts rule)) (demands_all facts rule.args _ nothing) _ (λ d j. j)) (iterator s) i
