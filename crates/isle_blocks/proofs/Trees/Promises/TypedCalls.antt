-- The calls of a rule set's sites take values of their types.
use Rattle.std.proofs.Common.{◌≡◌, inl, inr, ℕ, Bool, true, List, [], ◌∷◌, Option, Some, slice_get, sym, subst}
use Rattle.std.specs.List.{AllZip}
use Rattle.isle_types.specs.declared.ids.Sym.{Sym}
use Rattle.isle_rules.specs.declared.rules.Rule as source
use Rattle.isle_rules.specs.TypedRules.{TypedRule}
use Rattle.isle_meaning.specs.Answers.{Completion}
use Rattle.isle_meaning.specs.Calls.{HasTypedAnswers}
use Rattle.isle_meaning.specs.Demands.{Demand, constrained, equal, variant_constraint, struct_constraint, result_of}
use Rattle.isle_meaning.specs.Derived.{Derived, demanded, flipped, chained, shared, like_variant, like_struct, FieldOf, of_variant, of_struct}
use Rattle.isle_meaning.specs.Facts.{TermFacts}
use Rattle.isle_meaning.specs.Got.{gives}
use Rattle.isle_meaning.specs.GroundValues.{AreValuesOf}
use Rattle.isle_meaning.specs.Held.{Held, value}
use Rattle.isle_meaning.specs.Laws.Matching.{IsRuleOfTypes}
use Rattle.isle_meaning.specs.Demands.{DemandOf}
use Rattle.isle_meaning.specs.Needs.{needs_of, IsNeeded}
use Rattle.isle_meaning.specs.Numbered.{Row}
use Rattle.isle_meaning.specs.Sites.{Site, extractor_call, constructor_call}
use Rattle.isle_meaning.specs.Sorts.{Sort, AllSuit, plain_sort, sort}
use Rattle.isle_meaning.specs.SoundPrograms.{IsSound}
use Rattle.isle_meaning.specs.Values.{Value, Values}
use Rattle.isle_meaning.specs.Worlds.{CheckedProgram}
use Rattle.isle_meaning.specs.AboutSites.Parts.{SpeaksOf}
use Rattle.isle_meaning.proofs.Matching.Closing.{derived_suits}
use Rattle.isle_meaning.proofs.Matching.Sorting.{demands_suit}
use Rattle.isle_trees.specs.Answers.{Answers}
use Rattle.isle_trees.specs.Tree.{Steps, done, «match», equal as equal_step, loop, give, Arms, no_arm, arm}
use Rattle.isle_blocks.specs.declared.binding.Binding.{Binding}
use Rattle.isle_blocks.specs.declared.binding.Binding.TheVariants as sites
use Rattle.isle_blocks.specs.declared.constraint.Constraint.{Constraint}
use Rattle.isle_blocks.specs.declared.ids.BindingId.{BindingId}
use Rattle.isle_blocks.specs.Closure.{Stands}
use Rattle.isle_blocks.specs.DefinedSets.{IsSetOf, name_of, rules_by}
use Rattle.isle_blocks.specs.RuleFaults.{MayMatchAt}
use Rattle.isle_blocks.specs.Rows.{rows_of}
use Rattle.isle_blocks.specs.RuleSets.{RulesOverSites}
use Rattle.isle_blocks.specs.Trees.Shown.{BlockShown}
use Rattle.isle_blocks.specs.Trees.SiteTrees.{held_by, tree_of, trees_of}
use Rattle.isle_blocks.specs.Trees.TypedCalls.{CallsTakeTheirTypes, HasTypedCalls, IsTypedCall, IsTypedIfHeld}
use Rattle.isle_blocks.specs.Trees.TypedCalls.{OfEachBound, OfEachInArms, TakesItsTypes}
use Rattle.isle_blocks.proofs.Trees.Standing.{tree_at, tree_is}
use Rattle.isle_blocks.proofs.Trees.Promises.TypedHeld.{HaveTypedCalls, IsHeldOf, site_typed}
use Rattle.isle_blocks.proofs.Trees.Promises.TypedSites.{AreTypedSites, IsTypedSite, rule_typed}

module _ (p : CheckedProgram) (tys : List ℕ) (D : Demand → Type 0) (suit : AllSuit p.terms tys D)
    (fit : (d : Demand) → D d → SpeaksOf (IsTypedSite p tys) d) where
  -- What is derived speaks of typed sites.
  pub derived_typed : (d : Demand) → Derived D d → SpeaksOf (IsTypedSite p tys) d
  derived_typed d (demanded h) = fit d h
  derived_typed d (flipped {s = s} {u = u} h) = let g = derived_typed (equal s u) h in (g.1, g.0)
  derived_typed d (chained {s = s} {u = u} {w = w} h k) =
      let g = derived_typed (equal s u) h in let f = derived_typed (equal u w) k in (g.0, f.1)
  derived_typed d (shared {s = s} {u = u} {c = c} h k) = (derived_typed (equal s u) h).1
  derived_typed d (like_variant {s = s} {u = u} {ty = t} {k = k} {n = n} {i = i} h g l) =
      let f = derived_typed (equal s u) h in let (ty, a, b) = derived_suits p.terms tys D suit (equal s u) h in
      ((f.0, (ty, a)), (f.1, (ty, b)))
  derived_typed d (like_struct {s = s} {u = u} {ty = t} {n = n} {i = i} h g l) =
      let f = derived_typed (equal s u) h in let (ty, a, b) = derived_suits p.terms tys D suit (equal s u) h in
      ((f.0, (ty, a)), (f.1, (ty, b)))

  -- So is a field.
  pub field_typed : (t s : Site) → FieldOf D t s → IsTypedSite p tys s
  field_typed t s (of_variant {ty = ty} {k = k} {n = n} {i = i} h l) =
      let c = constrained t (variant_constraint ty k n) in (derived_typed c h, (ty, derived_suits p.terms tys D suit c h))
  field_typed t s (of_struct {ty = ty} {n = n} {i = i} h l) =
      let c = constrained t (struct_constraint ty n) in (derived_typed c h, (ty, derived_suits p.terms tys D suit c h))

module _ (name : Sym → List ℕ) (p : CheckedProgram) (run : ℕ → Type 0) (sound : IsSound p run) (sources : List source.Rule)
    (term : ℕ) (runs : run term) (set : RulesOverSites) (is : IsSetOf name p.terms sources p.rules term set) where
  -- the entries of the set's sites
  abbrev rows : List Row
  rows = rows_of name set.sites

  -- the types of the term's arguments
  abbrev tys : List ℕ
  tys = p.terms.inputs term

  -- a number's tree
  abbrev tree : ℕ → Site
  tree = tree_of name set.sites

  -- what a rule needs, its result, and what it demands are typed, where arguments have these types
  abbrev IsTypedThere : TypedRule → List ℕ → Type 0
  IsTypedThere rule types = ((s : Site) → IsNeeded (needs_of p.terms rule) s → IsTypedSite p types s)
      × ((b : Bool) → IsTypedSite p types (result_of p.terms b rule))
      × ((d : Demand) → DemandOf p.terms rule d → SpeaksOf (IsTypedSite p types) d)

  -- so with each rule of the set
  reached_typed : (place : ℕ) (r : MayMatchAt p.terms p.rules term place) → IsTypedThere r.rule tys × IsRuleOfTypes p.terms tys r.rule
  reached_typed place r =
      let its = sound.rules place r.rule r.at (subst run (sym r.of_term) runs) in (
        subst (λ (t : ℕ). IsTypedThere r.rule (p.terms.inputs t)) r.of_term (rule_typed p run r.rule its),
        subst (λ (t : ℕ). IsRuleOfTypes p.terms (p.terms.inputs t) r.rule) r.of_term
            (record { well = its.well; result_type = p.terms.type_of r.rule.root; var_types = its.var_types; typed = its.typed }),
      )

  -- Each site of the table is typed.
  pub stands_typed : (s : Site) → Stands rows s → IsTypedSite p tys s
  stands_typed s at =
      let from = is.explained s at in
      let r = from.reached in
      let (its, fit) = reached_typed from.place r in
      elim from.from [
        | inl n ↦ its.0 s n
        | inr other ↦ elim other [
          | inl q ↦ subst (IsTypedSite p tys) (sym q) (its.1 (p.terms.partial r.rule.root))
          | inr q ↦ field_typed p tys (DemandOf p.terms r.rule) (demands_suit p.terms tys r.rule fit) (its.2) (q.0) s (q.1)
        ]
      ]

  module _ (c : Completion) (answers : HasTypedAnswers p c) (args : Values) (own : AreValuesOf p.values args tys) (done : List (Option Value)) where
    -- what a site holds
    abbrev held : Answers Held
    held = held_by name set.sites p.terms c args done

    -- a typed site of a value holds one of its type
    value_typed : (s : Site) (u : ℕ) (h : Held) → sort p.terms tys s ≡ plain_sort u → IsTypedSite p tys s → HasTypedCalls p done s
        → value p.terms c args done s ≡ gives h → IsHeldOf p (plain_sort u) h
    value_typed s u h e w calls g =
        subst (λ (k : Sort). IsHeldOf p k h) e (site_typed p sound.data_sound tys c answers args own done s h w calls g)

    -- so do parts
    parts_typed : (parts : List BindingId) (us : List ℕ) → AreTypedSites p tys (trees_of tree parts) us
        → HaveTypedCalls p sound.data_sound tys c answers args own done (trees_of tree parts)
        → AllZip (λ (part : BindingId) (ty : ℕ). IsTypedIfHeld p.values (held part.0) ty) parts us
    parts_typed [] [] w calls = tt
    parts_typed [] (u ∷ us) w calls = absurd w
    parts_typed (x ∷ xs) [] w calls = absurd w
    parts_typed (x ∷ xs) (u ∷ us) w calls = (
      λ h e. value_typed (tree x.0) u h (w.0.0) (w.0.1) (λ t n ss v k q. calls t n ss v (inl k) q) e,
      parts_typed xs us (w.1) (λ t n ss v k q. calls t n ss v (inr k) q),
    )

    -- by the kind of the site
    takes : (s : ℕ) (call : Binding) → slice_get set.sites s ≡ Some call → HasTypedCalls p done (tree s) → TakesItsTypes p held call
    takes s (sites.Extractor t a) at calls =
        let same = tree_is name set.sites is.table s (sites.Extractor t a) at in
        let w : IsTypedSite p tys (extractor_call t.0 (tree a.0)) =
        subst (IsTypedSite p tys) same (stands_typed (tree s) (s, tree_at name set.sites is.table s (sites.Extractor t a) at)) in
        let k : HasTypedCalls p done (extractor_call t.0 (tree a.0)) = subst (HasTypedCalls p done) same calls in
        λ h e. value_typed (tree a.0) (p.terms.type_of t.0) h (w.1) (w.0) (λ u n ss v x q. k u n ss v (inr x) q) e
    takes s (sites.Constructor t ps n) at calls =
        let same = tree_is name set.sites is.table s (sites.Constructor t ps n) at in
        let w : IsTypedSite p tys (constructor_call t.0 (trees_of tree ps) n) =
        subst (IsTypedSite p tys) same (stands_typed (tree s) (s, tree_at name set.sites is.table s (sites.Constructor t ps n) at)) in
        let k : HasTypedCalls p done (constructor_call t.0 (trees_of tree ps) n) = subst (HasTypedCalls p done) same calls in
        parts_typed ps (p.terms.inputs t.0) (w.0) (λ u m ss v x q. k u m ss v (inr x) q)
    takes s call at calls = tt

    -- Each call takes values of its types.
    pub calls_typed : (s : ℕ) → HasTypedCalls p done (tree_of name set.sites s)
        → IsTypedCall p (held_by name set.sites p.terms c args done) set s
    calls_typed s calls call at = takes s call at calls

-- what holds of each number holds of each that is bound
mutual
  each_bound : (P : ℕ → Type 0) → ((s : ℕ) → P s) → (T : Steps Constraint) → OfEachBound P T
  each_bound P h done = tt
  each_bound P h («match» binds s arms next) = ((λ x m. h x), (each_in_arms P h arms, each_bound P h next))
  each_bound P h (equal_step binds a b body next) = ((λ x m. h x), (each_bound P h body, each_bound P h next))
  each_bound P h (loop binds value body next) = ((λ x m. h x), (each_bound P h body, each_bound P h next))
  each_bound P h (give binds rule next) = ((λ x m. h x), each_bound P h next)

  each_in_arms : (P : ℕ → Type 0) → ((s : ℕ) → P s) → (arms : Arms Constraint) → OfEachInArms P arms
  each_in_arms P h no_arm = tt
  each_in_arms P h (arm test bindings body more) = (each_bound P h body, each_in_arms P h more)

pub calls_take_their_types : (set : RulesOverSites) (block : BlockShown) → CallsTakeTheirTypes set block
calls_take_their_types set block env d term is p run same_terms same_rules sound runs c typed args own answers =
    let name = name_of env d in
    let by_terms = subst (λ (f : TermFacts). IsSetOf name f env.rules (rules_by env d) term set) (sym same_terms) is in
    let whole = subst (λ (rules : List TypedRule). IsSetOf name p.terms env.rules rules term set) (sym same_rules) by_terms in
    let Typed : ℕ → Type 0 =
    λ s. HasTypedCalls p answers (tree_of name set.sites s) → IsTypedCall p (held_by name set.sites p.terms c args answers) set s in
    each_bound Typed (calls_typed name p (λ t. run t ≡ true) sound env.rules term runs set whole c typed args own answers) block.tree
