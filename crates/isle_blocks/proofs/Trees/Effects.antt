-- Impure calls that a rule's sites have stand before them, and each once.
use Rattle.std.proofs.Common.{◌≡◌, ◌⊎◌, inl, inr, ℕ, zero, suc, ◌<◌, ◌+◌, Bool, true, false, List, [], ◌∷◌, ◌++◌, length, map, Option}
use Rattle.std.proofs.Common.{Some, None, slice_get, refl, ap, sym, subst}
use Rattle.std.proofs.Common.{◌∙◌, arith, append_assoc, append-nil}
use Rattle.std.proofs.lemmas.Option.{same_Some, none-some}
use Rattle.isle_types.specs.declared.ids.Sym.{Sym}
use Rattle.isle_rules.specs.declared.rules.Rule as source
use Rattle.isle_rules.specs.TypedRules.{TypedRule}
use Rattle.isle_meaning.specs.Facts.{TermFacts}
use Rattle.isle_meaning.specs.Held.{Held}
use Rattle.isle_meaning.specs.Words.{Step, word_of, steps_of}
use Rattle.isle_meaning.specs.Sites.{Site, constructor_call, iterator, make_some, match_some, answer_site, site_of, step_site}
use Rattle.isle_meaning.specs.Demands.{vars_of, result_of, some_of}
use Rattle.isle_meaning.specs.Numbered.{Row, bool_row, int_row, prim_row, argument_row, extractor_row, constructor_row, iterator_row}
use Rattle.isle_meaning.specs.Numbered.{make_variant_row, match_variant_row, make_struct_row, extract_struct_row, make_some_row}
use Rattle.isle_meaning.specs.Numbered.{match_some_row, match_tuple_row, At}
use Rattle.isle_meaning.proofs.Matching.Numbering.{one_site}
use Rattle.isle_blocks.specs.declared.ids.BindingId.{BindingId}
use Rattle.isle_blocks.specs.declared.binding.Binding.{Binding}
use Rattle.isle_blocks.specs.declared.binding.Binding.TheVariants as sites
use Rattle.isle_blocks.specs.declared.constraint.Constraint.{Constraint}
use Rattle.isle_blocks.specs.declared.rule.Rule.{Rule}
use Rattle.isle_blocks.specs.Rows.{numbers_of, row_of, rows_of}
use Rattle.isle_blocks.specs.Building.Standing.{StandEach}
use Rattle.isle_blocks.specs.DefinedSets.{IsMadeAt}
use Rattle.isle_blocks.specs.RuleSets.{RulesOverSites}
use Rattle.isle_blocks.proofs.Closure.Trees.{get_row, one_number}
use Rattle.isle_meaning.proofs.Chains.Causing.{CitesAll, Causal, steps_are_causal, get_append, get_last, length_more}
use Rattle.isle_blocks.specs.Tables.{sources_of}
use Rattle.isle_trees.proofs.Basics.{none_or}
use Rattle.isle_trees.specs.Rules.{Rules, Elem, IsPartOf, itself, of_part}
use Rattle.isle_trees.specs.Premises.{IsSingle, EffectsFirst}
use Rattle.isle_blocks.specs.Trees.View.{read_or, option_site, with_option, calls_at, rules_of}
use Rattle.isle_meaning.specs.AboutSites.Parts.{parts_of, IsOneOf}
use Rattle.isle_meaning.specs.AboutSites.ImpureCalls.{IsImpureCall, ImpureCallsAre, IsPure}
use Rattle.isle_blocks.specs.Trees.Premises.{IsRunnableSet}
use Rattle.isle_blocks.proofs.Trees.Standing.{pass_on, parts_stand, in_all}
use Rattle.isle_meaning.proofs.Sites.Pure.{demands_are_pure}
use Rattle.isle_meaning.proofs.Sites.Parts.{part_of, of_whole, of_one}
use Rattle.isle_meaning.proofs.Chains.Subtrees.{whole}
use Rattle.isle_meaning.proofs.Sites.Steps.{Placed, placed_append, placed_at, steps_placed, call_of, IsCallOf, word_steps, words_steps}
use Rattle.isle_blocks.proofs.Trees.WellMade.{made_rule}
use Rattle.isle_blocks.proofs.Trees.Listed.{site_kinded}
use Rattle.isle_blocks.proofs.Trees.Asked.{effect_site, tests_are_there, asked_is_pure}

-- The option that an entry is the content of.
abbrev pub row_option : Row → Option ℕ
row_option (bool_row b ty) = None
row_option (int_row n ty) = None
row_option (prim_row n) = None
row_option (argument_row i) = None
row_option (extractor_row t j) = None
row_option (constructor_row t js i) = None
row_option (iterator_row j) = None
row_option (make_variant_row ty v js) = None
row_option (match_variant_row j v i) = None
row_option (make_struct_row ty js) = None
row_option (extract_struct_row j i) = None
row_option (make_some_row j) = None
row_option (match_some_row j) = Some j
row_option (match_tuple_row j i) = None

-- It is the site's.
pub same_option : (name : Sym → List ℕ) (b : Binding) → row_option (row_of name b) ≡ option_site b
same_option name (sites.ConstBool v t) = refl
same_option name (sites.ConstInt v t) = refl
same_option name (sites.ConstPrim v) = refl
same_option name (sites.Argument i) = refl
same_option name (sites.Extractor t a) = refl
same_option name (sites.Constructor t cs n) = refl
same_option name (sites.Iterator a) = refl
same_option name (sites.MakeVariant t v cs) = refl
same_option name (sites.MatchVariant a v i) = refl
same_option name (sites.MakeStruct t cs) = refl
same_option name (sites.ExtractStruct a i) = refl
same_option name (sites.MakeSome a) = refl
same_option name (sites.MatchSome a) = refl
same_option name (sites.MatchTuple a i) = refl

-- an item of a longer list was there, or is the last
get_or_last : {A : Type 0} (xs : List A) (x : A) (j : ℕ) (y : A) → slice_get (xs ++ x ∷ []) j ≡ Some y
    → (slice_get xs j ≡ Some y) ⊎ ((x ≡ y) × (j ≡ length xs))
get_or_last [] x zero y e = inr (same_Some x y e, refl)
get_or_last [] x (suc j) y e = absurd (none-some y e)
get_or_last (z ∷ xs) x zero y e = inl e
get_or_last (z ∷ xs) x (suc j) y e = elim (get_or_last xs x j y e) [ inl p ↦ inl p | inr p ↦ inr (p.0, ap suc (p.1)) ]

-- At the length nothing stands.
pub slice_get_past : {A : Type 0} (xs : List A) → slice_get xs (length xs) ≡ None
slice_get_past [] = refl
slice_get_past (x ∷ xs) = slice_get_past xs

-- what stands somewhere stands below the length
get_below : {A : Type 0} (xs : List A) (j : ℕ) (x : A) → slice_get xs j ≡ Some x → j < length xs
get_below [] j x e = absurd (none-some x e)
get_below (y ∷ xs) zero x e = omega arith
get_below (y ∷ xs) (suc j) x e = let l = get_below xs j x e in omega arith

module _ (name : Sym → List ℕ) (facts : TermFacts) (sources : List source.Rule) (rules : List TypedRule) (term : ℕ) (set : RulesOverSites)
    (h : IsRunnableSet name facts sources rules term set) where
  -- the entries of the set's sites
  abbrev rows : List Row
  rows = rows_of name set.sites

  -- the set as trees see it
  abbrev R : Rules Constraint Held
  R = rules_of name set

  -- what a rule is made of
  abbrev Made : ℕ → Rule → Type 0
  Made p r = IsMadeAt name facts sources rules term set.sites p r

  -- What is a part at any depth has the same.
  pub part_effects : (Q : Site → Type 0) (ns : List ℕ) → ((u : ℕ) → Elem u ns → (t : Site) × At rows t u × ImpureCallsAre Q t) → (x : ℕ)
      → IsPartOf R ns x
      → (t : Site) × At rows t x × ImpureCallsAre Q t
  part_effects Q ns f _ (itself s m) = f s m
  part_effects Q ns f _ (of_part s p i m) =
      pass_on name set.sites (ImpureCallsAre Q) (part_of (λ (u : Site). IsImpureCall u → Q u)) s p (part_effects Q ns f s i) m

  module _ (vars : ℕ → Site) (pure : (k : ℕ) → IsPure (vars k)) where
    -- a call of one of these steps
    abbrev Called : List Step → Site → Type 0
    Called steps t = IsCallOf facts vars steps t

    -- the calls of these steps are among the sites seen, which have no other impure calls
    record IsSeen (before : List Step) (seen : List ℕ) : Type 0 where
      all : (j : ℕ) (s : Step) → slice_get before j ≡ Some s → (a : ℕ) × At rows (call_of facts vars s) a × Elem a seen
      only : (x : ℕ) → Elem x seen → R.effect x ≡ true → (j : ℕ) × (s : Step) × (slice_get before j ≡ Some s) × At rows (call_of facts vars s) x

    -- an impure call of these steps is seen
    seen_effect : (before : List Step) (seen : List ℕ) → IsSeen before seen → (x : ℕ) → (t : Site) × At rows t x × ImpureCallsAre (Called before) t
        → R.effect x ≡ true → Elem x seen
    seen_effect before seen is x (t, at, ok) e =
        let (f, ss, n, q) = effect_site name facts sources rules term set h t x at e in
        let call = constructor_call f ss (suc n) in
        let (j, s, get, same) = subst (ImpureCallsAre (Called before)) q ok call (whole call) tt in
        let (a, at_a, inside) = is.all j s get in
        let one : a ≡ x =
        one_number name set.sites h.injective h.is.table (call_of facts vars s) a x at_a (subst (λ (z : Site). At rows z x) (q ∙ same) at) in
        subst (λ (z : ℕ). Elem z seen) one inside

    -- parts of what has such parts are seen
    parts_seen : (before : List Step) (seen : List ℕ) → IsSeen before seen → (t : Site) (u : ℕ) → At rows t u
        → ((w : Site) → IsOneOf (parts_of t) w → ImpureCallsAre (Called before) w) → (x : ℕ) → IsPartOf R (R.parts u) x → R.effect x ≡ true
        → Elem x seen
    parts_seen before seen is t u at f x i e =
        seen_effect before seen is x (part_effects (Called before) (R.parts u) (λ p m.
        let (w, inside, there) = in_all rows (parts_of t) (R.parts u) p (parts_stand name set.sites t u at) m in (w, there, f w inside)) x i) e

    -- one more step
    module _ (before : List Step) (seen : List ℕ) (is : IsSeen before seen) (s : Step) (at_place : s.place ≡ length before) (placed : Placed 0 before)
        (cites : CitesAll before s.args) (a : ℕ) (at_a : At rows (call_of facts vars s) a) where
      -- its arguments' impure calls are seen
      call_parts : (x : ℕ) → IsPartOf R (R.parts a) x → R.effect x ≡ true → Elem x seen
      call_parts = parts_seen before seen is (call_of facts vars s) a at_a
          (words_steps facts vars pure before s.args cites)

      -- it isn't
      call_new : R.effect a ≡ true → Elem a seen → ⊥
      call_new e m =
          let (j, t, get, at_t) = is.only a m e in
          let same : call_of facts vars t ≡ call_of facts vars s = one_site rows (call_of facts vars t) (call_of facts vars s) a at_t at_a in
          let places : t.place ≡ s.place = cc in
          let place = placed_at 0 before j t placed get in
          let l = get_below before j t get in
          absurd (omega arith)

      -- with it more is seen
      grown : (more : List ℕ) → ((x : ℕ) → Elem x more → R.effect x ≡ true → Elem x (a ∷ seen)) → ((x : ℕ) → Elem x (a ∷ seen) → Elem x more)
          → IsSeen (before ++ s ∷ []) more
      grown more f g = record {
        all = λ j t get. elim (get_or_last before s j t get) [
          | inl old ↦ let (b, at_b, inside) = is.all j t old in (b, at_b, g b (inr inside))
          | inr new ↦ (a, subst (λ (z : Step). At rows (call_of facts vars z) a) (new.0) at_a, g a (inl refl))
        ];
        only = λ x m e. elim (f x m e) [
          | inl q ↦ (length before, s, get_last before s, subst (λ (z : ℕ). At rows (call_of facts vars s) z) (sym q) at_a)
          | inr inside ↦ let (j, t, get, at_t) = is.only x inside e in (j, t, get_append before (s ∷ []) j t get, at_t)
        ];
      }

      -- its own impure calls are those of the steps and itself
      call_effects : ImpureCallsAre (Called (before ++ s ∷ [])) (call_of facts vars s)
      call_effects = of_whole (λ (u : Site). IsImpureCall u → Called (before ++ s ∷ []) u) (call_of facts vars s)
          (λ i. (length before, s, get_last before s, refl))
          (λ u m x k i. let (j, t, get, e) = words_steps facts vars pure before s.args cites u m x k i in
          (j, t, get_append before (s ∷ []) j t get, e))

    -- the option that a number is the content of, by its entry
    option_at : (id : BindingId) (row : Row) → slice_get rows id.0 ≡ Some row → read_or None option_site (slice_get set.sites id.0) ≡ row_option row
    option_at id row e = let (b, at, is) = get_row name set.sites id.0 row e in rw at (sym (same_option name b) ∙ ap row_option is)

    -- what a result has is seen
    last_seen : (before : List Step) (seen : List ℕ) → IsSeen before seen → (r : ℕ) (t : Site) → At rows t r → ImpureCallsAre (Called before) t
        → (x : ℕ) → IsPartOf R (r ∷ []) x → R.effect x ≡ true → Elem x seen
    last_seen before seen is r t at ok x i e =
        seen_effect before seen is x (part_effects (Called before) (r ∷ []) (λ u m. elim m [
          | inl q ↦ (t, subst (λ (z : ℕ). At rows t z) (sym q) at, ok)
          | inr z ↦ absurd z
        ]) x i) e

    -- a content is no impure call
    not_content : (s : Site) (x : ℕ) → At rows (match_some s) x → R.effect x ≡ true → ⊥
    not_content s x at e = let (f, ss, n, q) = effect_site name facts sources rules term set h (match_some s) x at e in cc

    -- the rest of the steps, by the call's answer
    module _ (r : ℕ) (t : Site) (at_r : At rows t r) where
      -- the rest of the calls are listed so
      Rest : List Step → List BindingId → Type 0
      Rest before ids = (seen : List ℕ) → IsSeen before seen → EffectsFirst R r seen (calls_at set.sites ids)

      -- a step's call, and its content where it has one
      one_step : (m b : Bool) (before : List Step) (seen : List ℕ) → IsSeen before seen → (s : Step) → s.place ≡ length before → Placed 0 before
          → CitesAll before s.args → (id : BindingId) (ids : List BindingId) → At rows (answer_site m b (call_of facts vars s)) id.0
          → ((more : List ℕ) → IsSeen (before ++ s ∷ []) more → EffectsFirst R r more (calls_at set.sites ids))
          → EffectsFirst R r seen (calls_at set.sites (id ∷ ids))
      one_step true b before seen is s place placed cites id ids at rest =
          absurd (site_kinded name facts sources rules term set h (iterator (call_of facts vars s)) id.0 at)
      one_step false false before seen is s place placed cites id ids (js, row, at_args) rest =
          let at_call : At rows (call_of facts vars s) id.0 = (js, row, at_args) in
          let none : with_option (read_or None option_site (slice_get set.sites id.0)) id.0 ≡ id.0 ∷ [] =
          ap (λ (o : Option ℕ). with_option o id.0) (option_at id (constructor_row s.term js (suc s.place)) row) in
          subst (λ (l : List ℕ). EffectsFirst R r seen (l ++ calls_at set.sites ids)) (sym none) (
            call_parts before seen is s place placed cites id.0 at_call,
            call_new before seen is s place placed cites id.0 at_call,
            rest (id.0 ∷ seen) (grown before seen is s place placed cites id.0 at_call (id.0 ∷ seen) (λ x m e. m) (λ x m. m)),
          )
      one_step false true before seen is s place placed cites id ids (a, row, at_call) rest =
          let some : with_option (read_or None option_site (slice_get set.sites id.0)) id.0 ≡ a ∷ id.0 ∷ [] =
          ap (λ (o : Option ℕ). with_option o id.0) (option_at id (match_some_row a) row) in
          let here = grown before seen is s place placed cites a at_call (a ∷ seen) (λ x m e. m) (λ x m. m) in
          let at_content : At rows (match_some (call_of facts vars s)) id.0 = (a, row, at_call) in
          let both = grown before seen is s place placed cites a at_call (id.0 ∷ (a ∷ seen)) (λ x m e. elim m [
            | inl q ↦ absurd (not_content (call_of facts vars s) id.0 at_content (subst (λ (z : ℕ). R.effect z ≡ true) q e))
            | inr k ↦ k
          ]) (λ x m. inr m) in
          subst (λ (l : List ℕ). EffectsFirst R r seen (l ++ calls_at set.sites ids)) (sym some) (
            call_parts before seen is s place placed cites a at_call,
            call_new before seen is s place placed cites a at_call,
            (
              parts_seen (before ++ s ∷ []) (a ∷ seen) here (match_some (call_of facts vars s)) id.0 at_content (λ w m. elim m [
                | inl q ↦ subst (ImpureCallsAre (Called (before ++ s ∷ []))) (sym q) (call_effects before seen is s place placed cites a at_call)
                | inr z ↦ absurd z
              ]),
              (λ e m. not_content (call_of facts vars s) id.0 at_content e),
              rest (id.0 ∷ (a ∷ seen)) both,
            ),
          )

      -- so all steps' calls
      all_steps : (steps before : List Step) (ids : List BindingId) (seen : List ℕ) → IsSeen before seen → Placed 0 before
          → Placed (length before) steps
          → Causal before steps → StandEach rows ids (map (step_site facts vars) steps) → ImpureCallsAre (Called (before ++ steps)) t
          → EffectsFirst R r seen (calls_at set.sites ids)
      all_steps [] before [] seen is p q c st ok =
          last_seen before seen is r t at_r (subst (λ (l : List Step). ImpureCallsAre (Called l) t) (append-nil before) ok)
      all_steps [] before (id ∷ ids) seen is p q c st ok = absurd st
      all_steps (s ∷ steps) before [] seen is p q c st ok = absurd st
      all_steps (s ∷ steps) before (id ∷ ids) seen is p q c st ok =
          one_step (facts.multi s.term) (facts.partial s.term) before seen is s (q.0) p (c.0) id ids (st.0) (λ more now.
          all_steps steps (before ++ s ∷ []) ids more now
          (placed_append 0 before s p (let f : 0 + length before ≡ length before = omega arith in q.0 ∙ sym f))
          (subst (λ (n : ℕ). Placed n steps) (sym (length_more before s)) (q.1)) (c.1) (st.1)
          (subst (λ (l : List Step). ImpureCallsAre (Called l) t) (sym (append_assoc before (s ∷ []) steps)) ok))

  -- A made option has the impure calls of what it is made of.
  pub some_effects : (Q : Site → Type 0) (b : Bool) (s : Site) → ImpureCallsAre Q s → ImpureCallsAre Q (some_of b s)
  some_effects Q true s k = of_whole (λ (u : Site). IsImpureCall u → Q u) (make_some s) (λ i. absurd i)
      (λ u m. of_one (λ (z : Site). IsImpureCall z → Q z) s u k m)
  some_effects Q false s k = k

  -- a number past the table is no part of anything, and has none
  past_effects : (n : ℕ) → slice_get set.sites n ≡ None → (x : ℕ) → IsPartOf R (n ∷ []) x → R.effect x ≡ true → ⊥
  past_effects n none x i e =
      let same = past n none x i in
      let f : R.effect n ≡ true = subst (λ (z : ℕ). R.effect z ≡ true) same e in
      let g : R.effect n ≡ false = rw none refl in cc
    where
      past : (n : ℕ) → slice_get set.sites n ≡ None → (x : ℕ) → IsPartOf R (n ∷ []) x → x ≡ n
      past n none _ (itself s m) = elim m [ inl q ↦ q | inr z ↦ absurd z ]
      past n none _ (of_part s p i m) =
          let same = past n none s i in
          let m' : Elem p (R.parts n) = subst (λ (z : ℕ). Elem p (R.parts z)) same m in
          absurd (subst (λ (o : Option Binding). Elem p (read_or [] (λ (b : Binding). numbers_of (sources_of b)) o)) none m')

  -- impure calls stand before what is made of them
  effects_first : (i : ℕ) → EffectsFirst R (R.result i) [] (R.calls i)
  effects_first i = elim (none_or (slice_get set.rules i)) [
    | inl none ↦
        let past : slice_get set.sites (length set.sites) ≡ None = slice_get_past set.sites in
        subst (λ (o : Option Rule). EffectsFirst R (read_or (length set.sites) (λ (k : Rule). k.result.0) o) []
        (read_or [] (λ (k : Rule). calls_at set.sites k.impure) o))
        (sym none) (λ x i e. absurd (past_effects (length set.sites) past x i e))
    | inr there ↦
        let (r, at) = there in
        let (p, m) = made_rule name facts sources rules term set h i r at in
        let rule = m.reached.rule in
        let vars = vars_of facts rule in
        let pure = (demands_are_pure facts rule (h.runnable.pure p rule m.reached.at m.reached.of_term)).1 in
        let causal = steps_are_causal facts rule.right in
        let ok : ImpureCallsAre (IsCallOf facts vars (steps_of facts rule.right)) (result_of facts (facts.partial rule.root) rule) =
        some_effects (IsCallOf facts vars (steps_of facts rule.right)) (facts.partial rule.root) (site_of facts vars (word_of facts rule.right))
        (word_steps facts vars pure (steps_of facts rule.right) (word_of facts rule.right) (causal.1)) in
        subst (λ (o : Option Rule). EffectsFirst R (read_or (length set.sites) (λ (k : Rule). k.result.0) o) []
        (read_or [] (λ (k : Rule). calls_at set.sites k.impure) o))
        (sym at) (all_steps vars pure r.result.0 (result_of facts (facts.partial rule.root) rule) m.value (steps_of facts rule.right) [] r.impure []
        (record { all = λ j s get. absurd (none-some s get); only = λ x k e. absurd k }) tt (steps_placed facts rule.right) (causal.0) m.effects ok)
  ]

  -- What tests ask has its tests and no impure call, and impure calls come first.
  pub is_single : IsSingle (rules_of name set)
  is_single = record {
    tested = tests_are_there name facts sources rules term set h;
    pure = asked_is_pure name facts sources rules term set h;
    first = effects_first;
  }
