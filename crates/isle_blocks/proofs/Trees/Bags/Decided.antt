-- Whether a rule matches is decided by its tests, its multi calls and its classes; and a rule that matches is one of the set.
use Rattle.std.proofs.Common.{◌≡◌, ◌≢◌, ◌⊎◌, ◌&&◌, ◌↔◌, inl, inr, ℕ, zero, suc, Bool, true, List, [], ◌∷◌, Option, Some, slice_get}
use Rattle.std.proofs.Common.{refl, ap, sym, subst, ◌∙◌, arith, Contains}
use Rattle.std.specs.List.{list_all}
use Rattle.std.proofs.lemmas.Option.{same_Some, none-some}
use Rattle.isle_types.specs.declared.ids.Sym.{Sym}
use Rattle.isle_rules.specs.declared.rules.Rule as source
use Rattle.isle_rules.specs.TypedRules.{TypedRule}
use Rattle.isle_meaning.specs.Got.{Got, unknown, fails, gives}
use Rattle.isle_meaning.specs.Facts.{TermFacts}
use Rattle.isle_meaning.specs.Held.{Held}
use Rattle.isle_meaning.specs.Demands.{DemandOf}
use Rattle.isle_meaning.proofs.Matching.Proper.{reachable_proper}
use Rattle.isle_meaning.proofs.Sites.DerivedKinds.{elaborated_are_kinded}
use Rattle.isle_blocks.specs.declared.ids.BindingId.{BindingId}
use Rattle.isle_blocks.specs.declared.constraint.Constraint.{Constraint}
use Rattle.isle_blocks.specs.declared.rule.Rule.{Rule}
use Rattle.isle_blocks.specs.DefinedSets.{IsMadeAt}
use Rattle.isle_blocks.specs.RuleSets.{RulesOverSites}
use Rattle.isle_blocks.specs.Trees.Bags.{MatchingIsDecided, MatchingRulesAreListed}
use Rattle.isle_blocks.specs.Trees.Deciding.{are_alike, rule_matches, matches_here}
use Rattle.isle_blocks.specs.Trees.ElaboratedSets.{IsElaboratedSet}
use Rattle.isle_blocks.specs.Trees.View.{id_of, read_or, test_at, has_loop, want_at, rule_joins, rules_of}
use Rattle.isle_blocks.proofs.ClosedEqualities.{in_one, joined_at}
use Rattle.isle_blocks.proofs.ClosedRules.{same_id}
use Rattle.isle_blocks.proofs.Counting.{place_of}
use Rattle.isle_blocks.proofs.Trees.Buildable.{test_of_rule, loop_of_rule, other_joined}
use Rattle.isle_blocks.proofs.Trees.Elaborated.{made_rule, test_wanted, loop_wanted, well_made}
use Rattle.isle_blocks.proofs.Trees.Reading.{read_some, read_true, found_test, test_found, found_loop, loop_found}
use Rattle.isle_trees.specs.Answers.{Answers, HasValue, has_value}
use Rattle.isle_trees.specs.Rules.{Want, has, one_value, Rules, Meets, Matches, passes_got, alike_got}
use Rattle.isle_trees.proofs.Basics.{none_or, eq_or, and_both, both_and, true_gives, gives_true, alike_sound, alike_full}

-- what holds of all holds of one
all_one : {A : Type 0} (p : A → Bool) (xs : List A) (x : A) → list_all p xs ≡ true → Contains xs x → p x ≡ true
all_one p [] x h (j, within, is) = absurd (omega arith)
all_one p (y ∷ xs) x h (zero, within, is) = subst (λ (z : _). p z ≡ true) is ((and_both (p y) (list_all p xs) h).0)
all_one p (y ∷ xs) x h (suc j, within, is) = all_one p xs x ((and_both (p y) (list_all p xs) h).1) (j, omega arith, is)

-- what holds of each holds of all
each_all : {A : Type 0} (p : A → Bool) (xs : List A) → ((x : A) → Contains xs x → p x ≡ true) → list_all p xs ≡ true
each_all p [] h = refl
each_all p (y ∷ xs) h =
    both_and (p y) (list_all p xs) (h y (0, omega arith, refl)) (each_all p xs (λ x (j, within, is). h x (suc j, omega arith, is)))

-- what is alike has a value
alike_has : (R : Rules Constraint Held) (g k : Got Held) → alike_got R g k ≡ true → HasValue g
alike_has R unknown k e = absurd cc
alike_has R fails k e = absurd cc
alike_has R (gives x) k e = (x, refl)

module _ (name : Sym → List ℕ) (facts : TermFacts) (sources : List source.Rule) (rules : List TypedRule) (term : ℕ) (set : RulesOverSites)
    (h : IsElaboratedSet name facts sources rules term set) (v : Answers Held) where
  -- the set as trees see it
  abbrev R : Rules Constraint Held
  R = rules_of name set

  -- one of a class that is alike is its first, or holds what that does
  member_holds : (x : BindingId) (xs : List BindingId) (y : BindingId) → are_alike R v (x ∷ xs) ≡ true → Contains (x ∷ xs) y
      → (x ≡ y) ⊎ (HasValue (v x.0) × (v x.0 ≡ v y.0))
  member_holds x xs y e (zero, within, is) = inl is
  member_holds x xs y e (suc j, within, is) =
      let like = all_one (λ (y : BindingId). alike_got R (v x.0) (v y.0)) xs y e (j, omega arith, is) in
      inr (alike_has R (v x.0) (v y.0) like, alike_sound R (v x.0) (v y.0) (well_made name facts sources rules term set h) like)

  -- so two of it hold one value
  class_holds : (ids : List BindingId) (a b : BindingId) → are_alike R v ids ≡ true → Contains ids a → Contains ids b → a.0 ≢ b.0
      → HasValue (v a.0) × (v a.0 ≡ v b.0)
  class_holds [] a b e (j, within, is) m n = absurd (omega arith)
  class_holds (x ∷ xs) a b e m k n = elim (member_holds x xs a e m) [
    | inl p ↦ elim (member_holds x xs b e k) [
      | inl q ↦ absurd (n (ap (λ (z : BindingId). z.0) (sym p ∙ q)))
      | inr g ↦ (
        subst (λ (z : BindingId). HasValue (v z.0)) p (g.0),
        subst (λ (z : BindingId). v z.0 ≡ v b.0) p (g.1),
      )
    ]
    | inr f ↦ elim (member_holds x xs b e k) [
      | inl q ↦ ((f.0.0, sym (f.1) ∙ f.0.1), sym (f.1) ∙ ap (λ (z : BindingId). v z.0) q)
      | inr g ↦ ((f.0.0, sym (f.1) ∙ f.0.1), sym (f.1) ∙ g.1)
    ]
  ]

  module _ (i : ℕ) (r : Rule) (at : slice_get set.rules i ≡ Some r) where
    -- its tests, its multi calls and its classes
    abbrev tests : Bool
    tests = list_all (λ (test : BindingId × Constraint). passes_got R test.1 (v test.0.0)) r.constraints

    abbrev lists : Bool
    lists = list_all (λ (id : BindingId). has_value (v id.0)) r.iterators

    abbrev classes : Bool
    classes = list_all (are_alike R v) r.equals

    -- at one place stands one rule
    same_rule : (k : Rule) → slice_get set.rules i ≡ Some k → k ≡ r
    same_rule k e = same_Some k r (sym e ∙ at)

    -- where it is so the rule matches
    decided_matches : rule_matches R v r ≡ true → Matches R v i
    decided_matches e =
        let first = and_both tests (lists && classes) e in
        let rest = and_both lists classes (first.1) in
        record {
          wants = λ s w q. want_met s w q (first.0) (rest.0);
          equals = λ a b j n.
              let (k, ak, joined) = read_true (rule_joins a b) (slice_get set.rules i) j in
              let one = in_one r.equals (id_of a) (id_of b) (subst (λ (z : Rule). rule_joins a b z ≡ true) (same_rule k ak) joined) in
              class_holds one.set (id_of a) (id_of b) (all_one (are_alike R v) r.equals one.set (rest.1) one.stands) one.first one.second n;
        }
      where
        want_met : (s : ℕ) (w : Want Constraint) → R.at i s ≡ Some w → tests ≡ true → lists ≡ true → Meets R w (v s)
        want_met s (has c) q t l =
            let (k, ak, it) = test_of_rule name facts sources rules term set h.injective h.is i s c q in
            all_one (λ (test : BindingId × Constraint). passes_got R test.1 (v test.0.0)) r.constraints (id_of s, c) t
            (found_test r s c (subst (λ (z : Rule). test_at s z ≡ Some c) (same_rule k ak) it))
        want_met s one_value q t l =
            let (k, ak, it) = loop_of_rule name facts sources rules term set h.injective h.is i s q in
            true_gives (v s) (all_one (λ (id : BindingId). has_value (v id.0)) r.iterators (id_of s) l
            (found_loop r s (subst (λ (z : Rule). has_loop s z ≡ true) (same_rule k ak) it)))

    module _ (p : ℕ) (m : IsMadeAt name facts sources rules term set.sites p r) (w : Matches R v i) where
      -- where it matches joined sites are alike
      joined_alike : (x y : BindingId) → R.joins i x.0 y.0 ≡ true → rule_joins x.0 y.0 r ≡ true → alike_got R (v x.0) (v y.0) ≡ true
      joined_alike x y j k =
          let well = well_made name facts sources rules term set h in
          elim (eq_or x.0 y.0) [
            | inl e ↦
                let (z, apart, joined) = other_joined name facts sources rules term set h.injective h.is p r m x.0 y.0 k in
                let differ : x.0 ≢ z.0 = λ q. apart (same_id (id_of x.0) z q) in
                let other : R.joins i x.0 z.0 ≡ true = rw at joined in
                alike_full R (v x.0) (v y.0) well ((w.equals x.0 z.0 other differ).0) (ap v e)
            | inr n ↦ let (g, same) = w.equals x.0 y.0 j n in alike_full R (v x.0) (v y.0) well g same
          ]

      -- so each class is
      class_alike : (ids : List BindingId) → Contains r.equals ids → are_alike R v ids ≡ true
      class_alike [] stands = refl
      class_alike (x ∷ xs) stands = each_all (λ (y : BindingId). alike_got R (v x.0) (v y.0)) xs (λ y (j, within, is).
          let k : rule_joins x.0 y.0 r ≡ true = joined_at r.equals x y (x ∷ xs) stands (0, omega arith, refl) (suc j, omega arith, is) in
          joined_alike x y (rw at k) k)

      -- all of that is so
      matches_decided : rule_matches R v r ≡ true
      matches_decided =
          let closed = m.closed in
          both_and tests (lists && classes)
          (each_all (λ (test : BindingId × Constraint). passes_got R test.1 (v test.0.0)) r.constraints (λ test inside.
          w.wants test.0.0 (has test.1) (test_wanted name facts sources rules term set h i test.0.0 r test.1 at
          (test_found r test.0.0 test.1 closed.ascending inside))))
          (both_and lists classes
          (each_all (λ (id : BindingId). has_value (v id.0)) r.iterators (λ id inside.
          gives_true (v id.0) (w.wants id.0 one_value (loop_wanted name facts sources rules term set h i r at p m id.0 (loop_found r id.0 inside)))))
          (each_all (are_alike R v) r.equals (λ ids stands. class_alike ids stands)))

  -- Whether a rule matches is decided.
  pub decided : (i : ℕ) → (matches_here name set v i ≡ true) ↔ Matches (rules_of name set) v i
  decided i = elim (none_or (slice_get set.rules i)) [
    | inl none ↦ (
      λ e. record {
        wants = λ s w q. absurd (let (r, at, x) = read_some (want_at s) (slice_get set.rules i) w q in none-some r (sym none ∙ at));
        equals = λ a b j n. absurd (let (r, at, x) = read_true (rule_joins a b) (slice_get set.rules i) j in none-some r (sym none ∙ at));
      },
      λ w. rw none refl,
    )
    | inr there ↦
        let (r, at) = there in
        let (p, m) = made_rule name facts sources rules term set h i r at in (
          λ e. decided_matches i r at (subst (λ (o : Option Rule). read_or true (rule_matches R v) o ≡ true) at e),
          λ w. rw at (matches_decided i r at p m w),
        )
  ]

pub matching_is_decided : MatchingIsDecided
matching_is_decided name facts sources rules term set h v i = decided name facts sources rules term set h v i

pub matching_rules_are_listed : MatchingRulesAreListed
matching_rules_are_listed name facts sources rules term set h val respects place rule at of_term holds =
    let kinds = elaborated_are_kinded facts h.types rule (h.fit place rule at of_term) in
    let may = λ (n : _). reachable_proper val respects (DemandOf facts rule) holds facts h.types kinds.suit n in
    let is = h.is in
    place_of is.places place ((is.listed.all place).1 (record { rule = rule; at = at; of_term = of_term; may = may }))
