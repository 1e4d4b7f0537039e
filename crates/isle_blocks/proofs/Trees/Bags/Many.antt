-- The rule sets of `multi` terms are as the bag asks.
use Rattle.std.proofs.Common.{◌≡◌, inl, inr, ℕ, suc, ◌<◌, pos, true, List, [], ◌∷◌, ◌++◌, length, Option, Some, None, slice_get}
use Rattle.std.proofs.Common.{refl, ap, sym, subst, ◌∙◌, arith, Contains, get_or, Bool, Less}
use Rattle.std.specs.List.Sorted.{IsStrictlySortedBy}
use Rattle.std.proofs.lemmas.Map.Keys.{Less-from_sorted}
use Rattle.std.proofs.lemmas.Bool.Decides.{nat_tests}
use Rattle.std.specs.Ordering.{nat_cmp}
use Rattle.std.proofs.lemmas.Option.{same_Some, none-some}
use Rattle.isle_types.specs.declared.ids.Sym.{Sym}
use Rattle.isle_rules.specs.declared.rules.Rule as source
use Rattle.isle_rules.specs.TypedRules.{TypedRule}
use Rattle.isle_meaning.specs.Facts.{TermFacts}
use Rattle.isle_meaning.specs.Held.{Held}
use Rattle.isle_meaning.specs.Sites.{Site, iterator, match_variant, extract_struct, match_some}
use Rattle.isle_meaning.specs.Demands.{Demand, constrained, equal, variant_constraint, struct_constraint, some_constraint, impure_of, result_of}
use Rattle.isle_meaning.specs.Derived.{Derived}
use Rattle.isle_meaning.specs.Demands.{DemandOf}
use Rattle.isle_meaning.specs.Needs.{needs_of, IsNeeded}
use Rattle.isle_meaning.specs.Numbered.{Row, At}
use Rattle.isle_meaning.specs.AboutSites.Parts.{parts_of, IsOneOf}
use Rattle.isle_meaning.proofs.Matching.Numbering.{one_site}
use Rattle.isle_meaning.proofs.Sites.Owned.{IsOwn, AreOwn, own_itself, own_part, derived_own, right_own, needed_own}
use Rattle.isle_meaning.proofs.Sites.Parts.{EachSite}
use Rattle.isle_blocks.specs.declared.ids.BindingId.{BindingId}
use Rattle.isle_blocks.specs.declared.binding.Binding.{Binding}
use Rattle.isle_blocks.specs.declared.binding.Binding.TheVariants as sites
use Rattle.isle_blocks.specs.declared.constraint.Constraint.{Constraint}
use Rattle.isle_blocks.specs.declared.rule.Rule.{Rule}
use Rattle.isle_blocks.specs.Tables.{sources_of}
use Rattle.isle_blocks.specs.Building.Standing.{StandEach}
use Rattle.isle_blocks.specs.AddedRules.{IsMultiCall}
use Rattle.isle_blocks.specs.DefinedSets.{IsMadeAt}
use Rattle.isle_blocks.specs.RuleSets.{RulesOverSites}
use Rattle.isle_blocks.specs.Rows.{rows_of, numbers_of}
use Rattle.isle_blocks.specs.Rules.{site_cmp}
use Rattle.isle_blocks.specs.Trees.View.{id_of, read_or, option_site, with_option, call_at, calls_at, test_at, has_loop, want_at, rule_joins}
use Rattle.isle_blocks.specs.Trees.View.{made_by, rules_of}
use Rattle.isle_blocks.specs.Trees.SiteTrees.{tree_of}
use Rattle.isle_blocks.specs.Trees.Choices.{HavePriorities}
use Rattle.isle_blocks.specs.Trees.ElaboratedSets.{IsElaboratedSet, IsMultiTerm}
use Rattle.isle_blocks.proofs.Closure.Trees.{row_get, one_number}
use Rattle.isle_blocks.proofs.ClosedRules.{same_id}
use Rattle.isle_blocks.proofs.Trees.Buildable.{loop_of_rule, option_part}
use Rattle.isle_blocks.proofs.Trees.Effects.{slice_get_past}
use Rattle.isle_blocks.proofs.Trees.Elaborated.{made_rule, derived_test, its_test, test_wanted, loop_site, loop_wanted, joined_other, opening_is}
use Rattle.isle_blocks.proofs.Trees.Listed.{variant_opens, struct_opens, some_is}
use Rattle.isle_blocks.proofs.Trees.Reading.{read_some, read_true, want_test, want_one, found_loop, loop_found, numbered, number_in}
use Rattle.isle_blocks.proofs.Trees.Standing.{part_at, pass_on}
use Rattle.isle_trees.specs.Bag.{IsAscending, IsMany}
use Rattle.isle_trees.specs.Rules.{has, one_value, Source, Rules, Elem, Asked, Used}
use Rattle.isle_trees.proofs.Asking.{elem_append}
use Rattle.isle_trees.proofs.Basics.{none_or}

-- less by their order
less_apart : (m n : ℕ) → nat_cmp m n ≡ Less → m < n
less_apart m n e = grind (arith, nat_tests)

-- each number is below those behind it
abbrev IsRising : List BindingId → Type 0
IsRising ids = (k l : ℕ) (d : BindingId) → k < l → l < length ids → (get_or ids k d).0 < (get_or ids l d).0

-- numbers in order ascend
rising : (ids : List BindingId) → IsStrictlySortedBy site_cmp ids → IsRising ids
rising ids up k l d lt within = less_apart _ _ (Less-from_sorted site_cmp ids k l d up lt within)

numbers_ascend : (ids : List BindingId) → IsRising ids → IsAscending (numbers_of ids)
numbers_ascend [] r = tt
numbers_ascend (x ∷ ids) r = (
  λ y m.
      let (z, (j, within, is), e) = numbered (λ (id : BindingId). id.0) ids y m in
      let low : x.0 < (get_or ids j z).0 = r 0 (suc j) z (omega arith) (omega arith) in
      let same : (get_or ids j z).0 ≡ z.0 = ap (λ (a : BindingId). a.0) is in omega arith,
  numbers_ascend ids (λ k l d lt within. r (suc k) (suc l) d (omega arith) (omega arith)),
)

module _ (name : Sym → List ℕ) (set : RulesOverSites) where
  -- the calls of a rule, and options that they give
  calls_have : (P : Site → Type 0) → ((s u : Site) → P s → IsOneOf (parts_of s) u → P u) → (ids : List BindingId) (ts : List Site)
      → StandEach (rows_of name set.sites) ids ts → EachSite P ts → (s : ℕ) → Elem s (calls_at set.sites ids)
      → (t : Site) × At (rows_of name set.sites) t s × P t
  calls_have P f [] ts st k s m = absurd m
  calls_have P f (id ∷ ids) [] st k s m = absurd st
  calls_have P f (id ∷ ids) (t ∷ ts) st k s m = elim (elem_append s (call_at set.sites id) (calls_at set.sites ids) m) [
    | inr rest ↦ calls_have P f ids ts (st.1) (k.1) s rest
    | inl here ↦
        let own : s ≡ id.0 → (t : Site) × At (rows_of name set.sites) t s × P t =
        λ e. (t, subst (λ (z : ℕ). At (rows_of name set.sites) t z) (sym e) (st.0), k.0) in
        elim (none_or (read_or None option_site (slice_get set.sites id.0))) [
          | inl none ↦ elim (subst (λ (o : Option ℕ). Elem s (with_option o id.0)) none here) [ inl e ↦ own e | inr z ↦ absurd z ]
          | inr some ↦ elim (subst (λ (o : Option ℕ). Elem s (with_option o id.0)) (some.1) here) [
            | inl e ↦
                let (b, at, is) = read_some option_site (slice_get set.sites id.0) (some.0) (some.1) in
                let inside : Elem (some.0) ((rules_of name set).parts id.0) = rw (at, option_part b (some.0) is) (inl refl) in
                subst (λ (z : ℕ). (u : Site) × At (rows_of name set.sites) u z × P u) (sym e)
                (pass_on name set.sites P f id.0 (some.0) (t, st.0, k.0) inside)
            | inr rest ↦ elim rest [ inl e ↦ own e | inr z ↦ absurd z ]
          ]
        ]
  ]

module _ (name : Sym → List ℕ) (facts : TermFacts) (sources : List source.Rule) (rules : List TypedRule) (term : ℕ) (set : RulesOverSites)
    (h : IsElaboratedSet name facts sources rules term set) where
  -- the entries of the set's sites
  abbrev rows : List Row
  rows = rows_of name set.sites

  -- the set as trees see it
  abbrev R : Rules Constraint Held
  R = rules_of name set

  -- what a rule is made of
  abbrev Made : ℕ → Rule → Type 0
  Made p r = IsMadeAt name facts sources rules term set.sites p r

  -- a number's tree
  abbrev tree : ℕ → Site
  tree = tree_of name set.sites

  -- what asks something is a rule
  asked_rule : (i s : ℕ) → Asked R i s → (r : Rule) × (slice_get set.rules i ≡ Some r)
  asked_rule i _ (Asked.by_demand s w e) = let (r, at, q) = read_some (want_at s) (slice_get set.rules i) w e in (r, at)
  asked_rule i _ (Asked.by_class a b e) = let (r, at, q) = read_true (rule_joins a b) (slice_get set.rules i) e in (r, at)
  asked_rule i _ (Asked.by_part s p a m) = asked_rule i s a

  -- one that is listed is wanted
  looped : (i s : ℕ) → Elem s (R.loops i) → R.at i s ≡ Some one_value
  looped i s m = elim (none_or (slice_get set.rules i)) [
    | inl none ↦ absurd (subst (λ (o : Option Rule). Elem s (read_or [] (λ (k : Rule). numbers_of k.iterators) o)) none m)
    | inr there ↦
        let (r, at) = there in
        let (p, made) = made_rule name facts sources rules term set h i r at in
        let m' : Elem s (numbers_of r.iterators) = subst (λ (o : Option Rule). Elem s (read_or [] (λ (k : Rule). numbers_of k.iterators) o)) at m in
        let (id, inside, e) = numbered (λ (id : BindingId). id.0) r.iterators s m' in
        loop_wanted name facts sources rules term set h i r at p made s
        (loop_found r s (subst (Contains r.iterators) (same_id id (id_of s) e) inside))
  ]

  -- one that is wanted is listed
  all_looped : (i s : ℕ) → R.at i s ≡ Some one_value → Elem s (R.loops i)
  all_looped i s e =
      let (r, at, l) = loop_of_rule name facts sources rules term set h.injective h.is i s e in
      rw at (number_in (λ (id : BindingId). id.0) r.iterators (id_of s) (found_loop r s l))

  -- A rule's multi calls ascend.
  pub ascending : (i : ℕ) → IsAscending (R.loops i)
  ascending i = elim (none_or (slice_get set.rules i)) [
    | inl none ↦ rw none tt
    | inr there ↦
        let (r, at) = there in
        let (p, made) = made_rule name facts sources rules term set h i r at in
        let calls = made.calls in
        rw at (numbers_ascend r.iterators (rising r.iterators calls.ascending))
  ]

  module _ (multi : IsMultiTerm facts rules term) where
    module _ (i : ℕ) (r : Rule) (at : slice_get set.rules i ≡ Some r) (p : ℕ) (m : Made p r) where
      -- its typed rule
      abbrev rule : TypedRule
      rule = m.reached.rule

      -- what that demands
      abbrev D : Demand → Type 0
      D = DemandOf facts rule

      -- a site whose fields and contents have their tests, and whose values are needed
      abbrev A : Site → Type 0
      A = AreOwn (Derived D) (IsNeeded (needs_of facts rule))

      -- at one place stands one rule
      same_rule : (k : Rule) → slice_get set.rules i ≡ Some k → k ≡ r
      same_rule k e = same_Some k r (sym e ∙ at)

      -- its right side is of such
      right_side : ((partial : Bool) → A (result_of facts partial rule)) × EachSite A (impure_of facts rule)
      right_side = right_own facts rule (multi.whole p rule m.reached.at m.reached.of_term)

      -- So is a multi call of it.
      pub multi_own : (t : Site) → IsMultiCall facts (facts.partial rule.root) rule t → A t
      multi_own t used =
          let whole = multi.whole p rule m.reached.at m.reached.of_term in
          let one : A (iterator t) = elim used [
            | inl n ↦ needed_own facts rule whole (iterator t) n (multi.opens p rule m.reached.at m.reached.of_term t)
            | inr q ↦ subst A (sym q) (right_side.0 (facts.partial rule.root))
          ] in
          own_part (Derived D) (IsNeeded (needs_of facts rule)) (iterator t) t one (inl refl)

      -- one that the rule of the set has
      loop_own : (s : ℕ) → has_loop s r ≡ true → (t : Site) × At rows t s × A t
      loop_own s e =
          let (t, at_t, used, list) = loop_site name facts sources rules term set h p r m s e in (t, at_t, multi_own t used)

      -- so is all that it asks
      asked_own : (s : ℕ) → Asked R i s → (t : Site) × At rows t s × A t
      asked_own _ (Asked.by_demand s (has c) e) =
          let (k, ak, q) = read_some (want_at s) (slice_get set.rules i) (has c) e in
          let t = subst (λ (x : Rule). test_at s x ≡ Some c) (same_rule k ak) (want_test (has_loop s k) (test_at s k) c q) in
          let (v, av, dv) = derived_test name facts sources rules term set h p r m s c t in
          (v, av, derived_own facts rule (constrained v _) dv)
      asked_own _ (Asked.by_demand s one_value e) =
          let (k, ak, q) = read_some (want_at s) (slice_get set.rules i) one_value e in
          loop_own s (subst (λ (x : Rule). has_loop s x ≡ true) (same_rule k ak) ((want_one (has_loop s k) (test_at s k) q).1))
      asked_own _ (Asked.by_class a b e) =
          let (k, ak, q) = read_true (rule_joins a b) (slice_get set.rules i) e in
          let j = subst (λ (x : Rule). rule_joins a b x ≡ true) (same_rule k ak) q in
          let (s, u, here, same, none) = joined_other name facts sources rules term set h p r m a b j in
          (s, here, (derived_own facts rule (equal s u) same).0)
      asked_own _ (Asked.by_part s q a n) =
          pass_on name set.sites A (own_part (Derived D) (IsNeeded (needs_of facts rule))) s q (asked_own s a) n

      -- and all that it has
      used_own : (s : ℕ) → Used R i s → (t : Site) × At rows t s × A t
      used_own _ (Used.by_asked s a) = asked_own s a
      used_own _ (Used.by_right s e) =
          let e' : Elem s (calls_at set.sites r.impure ++ r.result.0 ∷ []) =
          subst (λ (o : Option Rule). Elem s (read_or [] (λ (k : Rule). calls_at set.sites k.impure) o
          ++ read_or (length set.sites) (λ (k : Rule). k.result.0) o ∷ [])) at e in
          elim (elem_append s (calls_at set.sites r.impure) (r.result.0 ∷ []) e') [
            | inl c ↦ calls_have name set A (own_part (Derived D) (IsNeeded (needs_of facts rule))) r.impure (impure_of facts rule) m.effects
                (right_side.1) s c
            | inr c ↦ elim c [
              | inl q ↦ (
                _,
                subst (λ (z : ℕ). At rows (result_of facts (facts.partial rule.root) rule) z) (sym q) m.value,
                right_side.0 (facts.partial rule.root),
              )
              | inr z ↦ absurd z
            ]
          ]
      used_own _ (Used.by_part_of s q u k) =
          pass_on name set.sites A (own_part (Derived D) (IsNeeded (needs_of facts rule))) s q (used_own s u) k

      -- what a test makes, or taking one value does, has its test or its loop
      field_own : (s : ℕ) (b : Binding) (k : Source Constraint) (t : Site) → slice_get set.sites s ≡ Some b → At rows t s
          → IsOwn (Derived D) (IsNeeded (needs_of facts rule)) t → made_by set.rules b ≡ Some k → R.at i k.site ≡ Some k.want
      field_own s (sites.MatchVariant a v f) k t e at_t own is =
          let below = part_at name set.sites h.is.table s (sites.MatchVariant a v f) a e (0, omega arith, refl) in
          let same : t ≡ match_variant (tree a.0) v.0 f.0 =
          one_site rows t (match_variant (tree a.0) v.0 f.0) s at_t (a.0, row_get name set.sites s _ e, below) in
          let (ty, n, d, l) = subst (IsOwn (Derived D) (IsNeeded (needs_of facts rule))) same own in
          let (test, has_it, what) = its_test name facts sources rules term set h p r m (tree a.0) a.0 (variant_constraint ty v.0 n) below d in
          let o = opening_is name facts sources rules term set h i r a.0 (Some v.0) f.0 test at has_it
          (variant_opens name test ty v.0 n f.0 what l) in
          subst (λ (x : Source Constraint). R.at i x.site ≡ Some x.want) (same_Some _ k is)
          (test_wanted name facts sources rules term set h i a.0 r test at has_it ∙ ap (λ (c : Constraint). Some (has c)) (sym o))
      field_own s (sites.ExtractStruct a f) k t e at_t own is =
          let below = part_at name set.sites h.is.table s (sites.ExtractStruct a f) a e (0, omega arith, refl) in
          let same : t ≡ extract_struct (tree a.0) f.0 =
          one_site rows t (extract_struct (tree a.0) f.0) s at_t (a.0, row_get name set.sites s _ e, below) in
          let (ty, n, d, l) = subst (IsOwn (Derived D) (IsNeeded (needs_of facts rule))) same own in
          let (test, has_it, what) = its_test name facts sources rules term set h p r m (tree a.0) a.0 (struct_constraint ty n) below d in
          let o = opening_is name facts sources rules term set h i r a.0 None f.0 test at has_it (struct_opens name test ty n f.0 what l) in
          subst (λ (x : Source Constraint). R.at i x.site ≡ Some x.want) (same_Some _ k is)
          (test_wanted name facts sources rules term set h i a.0 r test at has_it ∙ ap (λ (c : Constraint). Some (has c)) (sym o))
      field_own s (sites.MatchSome a) k t e at_t own is =
          let below = part_at name set.sites h.is.table s (sites.MatchSome a) a e (0, omega arith, refl) in
          let same : t ≡ match_some (tree a.0) = one_site rows t (match_some (tree a.0)) s at_t (a.0, row_get name set.sites s _ e, below) in
          let d = subst (IsOwn (Derived D) (IsNeeded (needs_of facts rule))) same own in
          let (test, has_it, what) = its_test name facts sources rules term set h p r m (tree a.0) a.0 some_constraint below d in
          subst (λ (x : Source Constraint). R.at i x.site ≡ Some x.want) (same_Some _ k is)
          (test_wanted name facts sources rules term set h i a.0 r test at has_it ∙ ap (λ (c : Constraint). Some (has c)) (some_is name test what))
      field_own s (sites.Iterator a) k t e at_t own is =
          let below = part_at name set.sites h.is.table s (sites.Iterator a) a e (0, omega arith, refl) in
          let same : t ≡ iterator (tree a.0) = one_site rows t (iterator (tree a.0)) s at_t (a.0, row_get name set.sites s _ e, below) in
          let n = subst (IsOwn (Derived D) (IsNeeded (needs_of facts rule))) same own in
          let calls = m.calls in
          let (id, inside, at_id) = calls.all (tree a.0) (inl n) in
          let one : id.0 ≡ a.0 = one_number name set.sites h.injective h.is.table (tree a.0) id.0 a.0 at_id below in
          subst (λ (x : Source Constraint). R.at i x.site ≡ Some x.want) (same_Some _ k is)
          (loop_wanted name facts sources rules term set h i r at p m a.0
          (loop_found r a.0 (subst (Contains r.iterators) (same_id id (id_of a.0) one) inside)))
      field_own s b k t e at_t own is = absurd cc

    -- without a rule nothing is used but a number past the table
    past_used : (i : ℕ) → slice_get set.rules i ≡ None → (s : ℕ) → Used R i s → s ≡ length set.sites
    past_used i none _ (Used.by_asked s a) = let (r, at) = asked_rule i s a in absurd (none-some r (sym none ∙ at))
    past_used i none _ (Used.by_right s e) =
        elim (subst (λ (o : Option Rule). Elem s (read_or [] (λ (k : Rule). calls_at set.sites k.impure) o
        ++ read_or (length set.sites) (λ (k : Rule). k.result.0) o ∷ [])) none e) [
          | inl q ↦ q
          | inr z ↦ absurd z
        ]
    past_used i none _ (Used.by_part_of s q u k) =
        let same = past_used i none s u in
        let k' : Elem q (R.parts (length set.sites)) = subst (λ (z : ℕ). Elem q (R.parts z)) same k in
        absurd (subst (λ (o : Option Binding). Elem q (read_or [] (λ (b : Binding). numbers_of (sources_of b)) o)) (slice_get_past set.sites) k')

    -- what a rule has, has its test or its loop
    tested : (i s : ℕ) (k : Source Constraint) → Used R i s → R.made s ≡ Some k → R.at i k.site ≡ Some k.want
    tested i s k u e =
        let (b, at_b, is) = read_some (made_by set.rules) (slice_get set.sites s) k e in
        elim (none_or (slice_get set.rules i)) [
          | inl none ↦
              let same = past_used i none s u in
              absurd (none-some b (sym (slice_get_past set.sites) ∙ ap (slice_get set.sites) (sym same) ∙ at_b))
          | inr there ↦
              let (r, at) = there in
              let (p, m) = made_rule name facts sources rules term set h i r at in
              let (t, at_t, own) = used_own i r at p m s u in
              field_own i r at p m s b k t at_b at_t (own_itself (Derived (DemandOf facts m.reached.rule))
              (IsNeeded (needs_of facts m.reached.rule)) t own) is
        ]

    -- The set is as the bag asks.
    pub is_many : HavePriorities sources rules → IsMany (rules_of name set)
    is_many priorities =
        let none : (i : ℕ) → R.prio i ≡ pos 0 = λ i. elim (none_or (slice_get set.rules i)) [
          | inl e ↦ rw e refl
          | inr there ↦
              let (r, at) = there in
              let (p, m) = made_rule name facts sources rules term set h i r at in
              rw at (m.told.prio ∙ priorities p m.source m.reached.rule m.source_at m.reached.at ∙ multi.even
              p m.reached.rule m.reached.at m.reached.of_term)
        ] in
        record {
          even = λ i j. none i ∙ sym (none j);
          tested = tested;
          looped = looped;
          all_looped = all_looped;
          ascending = ascending;
        }
