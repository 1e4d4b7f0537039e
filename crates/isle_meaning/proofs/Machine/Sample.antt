-- The sample's tree meets the premises.
use Rattle.std.proofs.Common.{◌≡◌, ◌≢◌, ◌⊎◌, inl, inr, ◌<◌, ℕ, zero, suc, ◌==◌, Bool, true, false, not, List, [], ◌∷◌, Option, Some, None, slice_get, refl, sym, ◌∙◌, subst, eqb-true, arith}
use Rattle.std.specs.Prelude.{◌↔◌}
use Rattle.isle_trees.specs.Builds.{key, IsAtMost, IsBest, HasNoTest, IsTreeOf}
use Rattle.isle_trees.specs.Got.{Got, unknown, fails, gives}
use Rattle.isle_trees.specs.Answers.{HasValue}
use Rattle.isle_trees.specs.Reads.{IsListed}
use Rattle.isle_trees.proofs.Whole.{whole_closed}
use Rattle.isle_meaning.specs.AboutSites.Kinds.{IsKinded}
use Rattle.isle_trees.specs.Premises.{AreExact, IsWellMade}
use Rattle.isle_trees.specs.Rules.{Tests, Rules, Want, has, one_value, Elem, itself}
use Rattle.isle_trees.specs.Scopes.{Scope, nothing_known, IsAvailable, IsReady, Test, on_match, on_equal, on_loop}
use Rattle.isle_rules.specs.TypedRules.{TypedRule}
use Rattle.isle_rules.specs.Values.{bool_tree}
use Rattle.isle_meaning.specs.Answers.{Completion}
use Rattle.isle_meaning.specs.Demands.{bool_constraint, Demand, constrained, equal}
use Rattle.isle_meaning.specs.Derived.{Derived, demanded, flipped, chained, shared, like_variant, like_struct}
use Rattle.isle_meaning.specs.Facts.{variant_shape, struct_shape, declared_shape}
use Rattle.isle_meaning.specs.GroundValues.{IsValueOf, AreValuesOf}
use Rattle.isle_meaning.specs.Held.{Held, held_value, held_some, held}
use Rattle.isle_meaning.specs.Held.{Meets}
use Rattle.isle_meaning.specs.Demands.{DemandOf}
use Rattle.isle_meaning.specs.Numbered.{Row, bool_row, argument_row, extractor_row, constructor_row, make_some_row}
use Rattle.isle_meaning.specs.Outcomes.{given, missing}
use Rattle.isle_meaning.specs.Sites.{Site, bool_site, argument, make_some}
use Rattle.isle_meaning.specs.Sorts.{plain_sort, option_sort, sort}
use Rattle.isle_meaning.specs.SoundPrograms.{IsSoundRule, IsSound}
use Rattle.isle_meaning.specs.Values.{Value, Values, no_values, more_values, bool_value, nth, ask}
use Rattle.isle_meaning.specs.Worlds.{Answers}
use Rattle.isle_meaning.specs.Machine.Runs.{made_of, is_computed, MachineRun}
use Rattle.isle_meaning.specs.Machine.Sample.{sample_rule, sample_terms, sample_values, sample_program, sample_tree, on_truth}
use Rattle.isle_meaning.specs.Machine.Trees.{site_of_row, parts_of_row, is_effect, IsSingleRow, IsHeldOf, held_at, IsTermTree, HasTermTrees}
use Rattle.isle_meaning.proofs.Calls.TypedValues.{values_parted}
use Rattle.isle_meaning.proofs.Chains.Growing.{typed_count}
use Rattle.isle_meaning.proofs.Matching.Deciding.{decide_held}

-- whether it is the first
abbrev is_left : {A B : Type 0} → A ⊎ B → Bool
is_left (inl x) = true
is_left (inr y) = false

-- then it is
left_true : {A : Type 0} (d : A ⊎ (A → ⊥)) → is_left d ≡ true → A
left_true (inl x) e = x
left_true (inr n) e = absurd (let q : false ≡ true = e in cc)

-- where it is, then
true_left : {A : Type 0} (d : A ⊎ (A → ⊥)) → A → is_left d ≡ true
true_left (inl x) a = refl
true_left (inr n) a = absurd (n a)

-- nothing is something
none_some : {A B : Type 0} (a : A) → None ≡ Some a → B
none_some a e = absurd (let q : None ≡ Some a = e in cc)

-- false is not true
false_true : {B : Type 0} → false ≡ true → B
false_true e = absurd (let q : false ≡ true = e in cc)

-- ---- the rules over numbers

-- the same truth value
abbrev same_truth : Bool → Bool → Bool
same_truth true b = b
same_truth false true = false
same_truth false false = true

-- those that are the same are one
truth_same : (b c : Bool) → same_truth b c ≡ true → b ≡ c
truth_same true c e = sym e
truth_same false true e = false_true e
truth_same false false e = refl

-- one is the same
same_self : (b : Bool) → same_truth b b ≡ true
same_self true = refl
same_self false = refl

-- whether what a site holds is this truth value
sample_tests : Tests Bool Held
sample_tests = record {
  same = same_truth;
  at_most = λ b c. true;
  passes = λ b h. is_left (decide_held h (held_value (bool_value b)));
  alike = λ h g. is_left (decide_held h g);
}

-- the rule wants `true` of its argument
abbrev sample_at : ℕ → Option (Want Bool)
sample_at zero = Some (has true)
sample_at (suc s) = None

-- the made option is made of `true`
abbrev sample_parts : ℕ → List ℕ
sample_parts zero = []
sample_parts (suc zero) = []
sample_parts (suc (suc zero)) = 1 ∷ []
sample_parts (suc (suc (suc s))) = []

-- all but the argument stand in the orders
abbrev sample_stands : ℕ → Bool
sample_stands zero = false
sample_stands (suc s) = true

-- the rules
abbrev sample_set : Rules Bool Held
sample_set = record {
  tests = sample_tests;
  at = λ i s. sample_at s;
  joins = λ i a b. false;
  prio = λ i. sample_rule.priority;
  calls = λ i. [];
  result = λ i. 2;
  parts = sample_parts;
  made = λ s. None;
  effect = λ s. false;
  content = λ s. false;
  stands = sample_stands;
  value = λ s. None;
  fields = λ s c. [];
  demands = λ i. 0 ∷ [];
  classes = λ i. [];
  loops = λ i. [];
}

-- tests and values are compared exactly
sample_exact : AreExact sample_tests
unfolding sample_tests
sample_exact = record {
  same = λ c d e. truth_same c d e;
  same_self = λ c. same_self c;
  alike = λ x y e. left_true (decide_held x y) e;
  alike_self = λ x. true_left (decide_held x x) refl;
}

-- what is wanted is wanted of the argument
wanted : (s : ℕ) (w : Want Bool) → sample_at s ≡ Some w → (s ≡ 0) × (w ≡ has true)
wanted zero w e = (refl, cc)
wanted (suc s) w e = none_some w e

-- parts stand before
lower : (s q : ℕ) → Elem q (sample_parts s) → q < s
lower zero q m = absurd m
lower (suc zero) q m = absurd m
lower (suc (suc zero)) q (inl e) = omega arith
lower (suc (suc zero)) q (inr m) = absurd m
lower (suc (suc (suc s))) q m = absurd m

-- the rules are well made
sample_made : IsWellMade sample_set
sample_made = record {
  exact = sample_exact;
  one_test = λ i j s c d x e f p q.
      let a : has c ≡ has true = (wanted s (has c) e).1 in let b : has d ≡ has true = (wanted s (has d) f).1 in cc;
  lower = lower;
  source = λ s m e. none_some m e;
  apart = λ i a b e. false_true e;
  both = λ i a b e. false_true e;
  listed = λ i s w e. inl ((wanted s w e).0);
  grouped = λ i a b e. false_true e;
  value_made = λ s x e. none_some x e;
  field_pure = λ s m e. none_some m e;
  field_stands = λ s m e. none_some m e;
  call_stands = λ s e. false_true e;
}

-- the argument can be bound
argument_there : (sc : Scope Bool) → IsAvailable sample_set sc 0
argument_there sc = IsAvailable.from_parts 0 (λ q m. absurd m) (λ m e. none_some m e)

-- the first test is that of the argument
first_best : IsBest sample_set (0 ∷ []) nothing_known (on_match 0)
first_best = record { ready = (argument_there nothing_known, refl); useful = omega arith; greatest = greatest }
  where
    greatest : (u : Test) → IsReady sample_set nothing_known u
        → IsAtMost (key sample_set (0 ∷ []) nothing_known u) (key sample_set (0 ∷ []) nothing_known (on_match 0))
    greatest (on_match zero) r = inr (refl, inr (refl, inr (refl, inr (refl, omega arith))))
    greatest (on_match (suc s)) r = inl (omega arith)
    greatest (on_equal x y) r = inl (omega arith)
    greatest (on_loop zero) r = inl (omega arith)
    greatest (on_loop (suc s)) r = inl (omega arith)

-- past it there is none
none_left : (sc : Scope Bool) → sc.passed 0 ≡ Some (has true) → HasNoTest sample_set (0 ∷ []) sc
none_left sc e (on_match zero) r = absurd (let q : None ≡ Some (has true) = sym (r.1) ∙ e in cc)
none_left sc e (on_match (suc s)) r = refl
none_left sc e (on_equal x y) r = refl
none_left sc e (on_loop zero) r = refl
none_left sc e (on_loop (suc s)) r = refl

-- they build the tree
sample_built : IsTreeOf sample_set (0 ∷ []) sample_tree.tree
unfolding sample_tests
sample_built = record {
  made = sample_made;
  single = record { tested = λ i s m a e. none_some m e; pure = λ i s a. refl; first = λ i x part e. false_true e };
  no_multi = λ i s m e. (let q : one_value ≡ has true = (wanted s one_value e).1 in cc);
  builds = (
    first_best,
    (
      _,
      record {
        all = 0 ∷ [];
        order = (refl, λ q m. absurd m, tt);
        only = λ x m. itself x m;
        ending = refl;
        bound = λ x m. elim m [ inl e ↦ rw e refl | inr z ↦ absurd z ];
        written = refl;
      },
      (
        ((0, inl refl, refl), λ i d m e. refl),
        refl,
        (
          none_left _ refl,
          (
            (inl refl, λ j m. elim m [ inl e ↦ inr (refl, omega arith) | inr n ↦ absurd n ]),
            (
              _,
              inr (
                refl,
                (
                  1 ∷ [],
                  [],
                  _,
                  record {
                    all = 1 ∷ [];
                    order = (refl, λ q m. absurd m, tt);
                    only = λ x m. itself x m;
                    ending = refl;
                    bound = λ x m. elim m [ inl e ↦ rw e refl | inr z ↦ absurd z ];
                    written = refl;
                  },
                  (refl, refl),
                  refl,
                ),
              ),
              refl,
            ),
          ),
        ),
        refl,
      ),
      refl,
    ),
  );
}

-- fields are listed
sample_listed : IsListed sample_set
sample_listed = record {
  fields_listed = λ x s c e. none_some _ e;
  fields_made = λ s x c m. absurd m;
  value_listed = λ x s e. none_some _ e;
  multi_stands = λ s m. none_some (m.0) (m.1);
}

-- ---- what its numbers stand for

abbrev sample_site : ℕ → Site
sample_site zero = argument 0
sample_site (suc zero) = bool_site true 0
sample_site (suc (suc zero)) = make_some (bool_site true 0)
sample_site (suc (suc (suc k))) = argument 0

-- the only demand
abbrev the_demand : Demand
the_demand = constrained (argument 0) (bool_constraint true 0)

-- a demand is it
abbrev IsTheDemand : Demand → Type 0
IsTheDemand (constrained s c) = (s ≡ argument 0) × (c ≡ bool_constraint true 0)
IsTheDemand (equal s u) = ⊥

-- it is itself
of_demand : (d : Demand) → d ≡ the_demand → IsTheDemand d
of_demand d e = subst IsTheDemand (sym e) (refl, refl)

-- nothing follows from it but itself
only_demand : (d : Demand) → Derived (DemandOf sample_terms sample_rule) d → IsTheDemand d
only_demand d (demanded (inl e)) = of_demand d e
only_demand d (demanded (inr h)) = absurd h
only_demand _ (flipped {s = s} {u = u} h) = only_demand (equal s u) h
only_demand _ (chained {s = s} {u = u} h k) = only_demand (equal s u) h
only_demand _ (shared {s = s} {u = u} h k) = absurd (only_demand (equal s u) h)
only_demand _ (like_variant {s = s} {u = u} h k lt) = only_demand (equal s u) h
only_demand _ (like_struct {s = s} {u = u} h k lt) = only_demand (equal s u) h

-- the rows are three
three_rows : (P : ℕ → Row → Type 0) → P 0 (argument_row 0) → P 1 (bool_row true 0) → P 2 (make_some_row 1) → (k : ℕ) (row : Row)
    → slice_get sample_tree.sites k ≡ Some row → P k row
three_rows P x y z zero row e = subst (P 0) (let q : Some (argument_row 0) ≡ Some row = e in cc) x
three_rows P x y z (suc zero) row e = subst (P 1) (let q : Some (bool_row true 0) ≡ Some row = e in cc) y
three_rows P x y z (suc (suc zero)) row e = subst (P 2) (let q : Some (make_some_row 1) ≡ Some row = e in cc) z
three_rows P x y z (suc (suc (suc k))) row e = none_some row e

-- none is a call
no_call : {A : Type 0} (k u i : ℕ) (js : List ℕ) → slice_get sample_tree.sites k ≡ Some (constructor_row u js i) → A
no_call zero u i js e = absurd (let q : Some (argument_row 0) ≡ Some (constructor_row u js i) = e in cc)
no_call (suc zero) u i js e = absurd (let q : Some (bool_row true 0) ≡ Some (constructor_row u js i) = e in cc)
no_call (suc (suc zero)) u i js e = absurd (let q : Some (make_some_row 1) ≡ Some (constructor_row u js i) = e in cc)
no_call (suc (suc (suc k))) u i js e = none_some _ e

-- none is an opening
no_extractor : {A : Type 0} (k u j : ℕ) → slice_get sample_tree.sites k ≡ Some (extractor_row u j) → A
no_extractor zero u j e = absurd (let q : Some (argument_row 0) ≡ Some (extractor_row u j) = e in cc)
no_extractor (suc zero) u j e = absurd (let q : Some (bool_row true 0) ≡ Some (extractor_row u j) = e in cc)
no_extractor (suc (suc zero)) u j e = absurd (let q : Some (make_some_row 1) ≡ Some (extractor_row u j) = e in cc)
no_extractor (suc (suc (suc k))) u j e = none_some _ e

-- the rule is the only one
only_rule : (j : ℕ) (other : TypedRule) → slice_get (sample_rule ∷ []) j ≡ Some other → sample_rule ≡ other
only_rule zero other e = cc
only_rule (suc j) other e = none_some other e

-- a test is passed where it is met
sample_passes : (c : Bool) (h : Held) → (sample_tests.passes c h ≡ true) ↔ Meets (bool_constraint c 0) h
unfolding sample_tests
sample_passes c h = (λ e. left_true (decide_held h (held_value (bool_value c))) e, λ m. true_left (decide_held h (held_value (bool_value c))) m)

-- the argument has a value of its type
argument_typed : (args : Values) → AreValuesOf sample_values args (0 ∷ []) → (v : Value) × (held (nth args 0) ≡ gives (held_value v))
    × IsValueOf sample_values v 0
argument_typed no_values typed = absurd (let e = typed_count sample_program no_values (0 ∷ []) typed in omega arith)
argument_typed (more_values x xs) typed = (x, refl, (values_parted sample_values x xs 0 [] typed).0)

-- a truth value is of its type
truth_typed : (b : Bool) → IsValueOf sample_values (bool_value b) 0
truth_typed b = record { tree = bool_tree b; typed = refl; stands = refl }

-- what is made of values of their sorts is of its
sample_makes : (args : Values) (at : ℕ → Got Held) (h : Held) → AreValuesOf sample_values args (0 ∷ []) → (k : ℕ) (row : Row)
    → slice_get sample_tree.sites k ≡ Some row
    → ((j : ℕ) (g : Held) → Elem j (parts_of_row row) → at j ≡ gives g → IsHeldOf sample_program (sort sample_terms (0 ∷ []) (sample_site j)) g)
    → made_of args at row ≡ gives h → IsHeldOf sample_program (sort sample_terms (0 ∷ []) (sample_site k)) h
sample_makes args at h typed = three_rows
    (λ k row. ((j : ℕ) (g : Held) → Elem j (parts_of_row row) → at j ≡ gives g
    → IsHeldOf sample_program (sort sample_terms (0 ∷ []) (sample_site j)) g)
    → made_of args at row ≡ gives h → IsHeldOf sample_program (sort sample_terms (0 ∷ []) (sample_site k)) h)
    (λ parts e.
    let (v, is, its) = argument_typed args typed in
    let q : gives (held_value v) ≡ gives h = sym is ∙ e in
    let same : held_value v ≡ h = cc in
    subst (IsHeldOf sample_program (plain_sort 0)) same its)
    (λ parts e. (let q : held_value (bool_value true) ≡ h = cc in subst (IsHeldOf sample_program (plain_sort 0)) q (truth_typed true)))
    (λ parts e. content (at 1) e (λ g is. parts 1 g (inl refl) is))
  where
    content : (g : Got Held) → ask (λ x. gives (held_some x)) g ≡ gives h → ((x : Held) → g ≡ gives x → IsHeldOf sample_program (plain_sort 0) x)
        → IsHeldOf sample_program (option_sort (plain_sort 0)) h
    content unknown e f = absurd cc
    content fails e f = absurd cc
    content (gives x) e f = let q : held_some x ≡ h = cc in subst (IsHeldOf sample_program (option_sort (plain_sort 0))) q (f x refl)

-- each site has a value
sample_valued : (c : Completion) (args : Values) → AreValuesOf sample_values args (0 ∷ []) → (s : ℕ)
    → HasValue (held_at sample_terms sample_site c args [] s)
sample_valued c args typed zero = let (v, e, its) = argument_typed args typed in (held_value v, e)
sample_valued c args typed (suc zero) = (_, refl)
sample_valued c args typed (suc (suc zero)) = (_, refl)
sample_valued c args typed (suc (suc (suc s))) = let (v, e, its) = argument_typed args typed in (held_value v, e)

-- what has a value doesn't fail
not_missing : (g : Got Held) → HasValue g → g ≢ fails
not_missing g (x, e) f = let q : fails ≡ gives x = sym f ∙ e in cc

-- and is known
not_open : (g : Got Held) → HasValue g → g ≢ unknown
not_open g (x, e) f = let q : unknown ≡ gives x = sym f ∙ e in cc

-- whose number is a site's
number_of : (k j : ℕ) (row other : Row) → slice_get sample_tree.sites k ≡ Some row → slice_get sample_tree.sites j ≡ Some other
    → sample_site k ≡ sample_site j → k ≡ j
number_of k j row other e f = three_rows (λ k row. sample_site k ≡ sample_site j → k ≡ j)
    (three_rows (λ j other. sample_site 0 ≡ sample_site j → 0 ≡ j) (λ s. refl) (λ s. absurd cc) (λ s. absurd cc) j other f)
    (three_rows (λ j other. sample_site 1 ≡ sample_site j → 1 ≡ j) (λ s. absurd cc) (λ s. refl) (λ s. absurd cc) j other f)
    (three_rows (λ j other. sample_site 2 ≡ sample_site j → 2 ≡ j) (λ s. absurd cc) (λ s. absurd cc) (λ s. refl) j other f) k row e

-- the tree is that of the rules
sample_is_tree : IsTermTree sample_program (λ t. (t == 0) ≡ true) 0 sample_tree
sample_is_tree = record {
  set = sample_set;
  left = 0 ∷ [];
  rule = λ i. sample_rule;
  place = λ i. 0;
  site = sample_site;
  tree = sample_built;
  fields = sample_listed;
  closed = whole_closed sample_set (0 ∷ []) sample_tree.tree sample_made sample_listed sample_built.builds;
  tests = sample_passes;
  sited = three_rows (λ k row. sample_site k ≡ site_of_row sample_site row) refl refl refl;
  parts = three_rows (λ k row. sample_parts k ≡ parts_of_row row) refl refl refl;
  beyond = beyond;
  effects = three_rows (λ k row. false ≡ is_effect row) refl refl refl;
  bound = three_rows (λ k row. sample_stands k ≡ not (is_computed row)) refl refl refl;
  opens = λ k row m e f. none_some m f;
  opened_there = λ k m e. none_some m e;
  single = three_rows (λ k row. IsSingleRow sample_terms row) tt tt tt;
  listed = λ i m. record { listed = refl; of_term = refl };
  all = λ j other at reached. (0, inl refl, only_rule j other at.listed);
  priority = λ i m. refl;
  wants = wants;
  all_wants = λ i u k m h. (let (a, e) = only_demand (constrained u k) h in (0, true, sym a, refl, sym e));
  joins = λ i a b m e n. false_true e;
  joined = λ i a b m e. false_true e;
  all_joins = λ i u v m h. absurd (only_demand (equal u v) (h.0));
  calls = λ i m. refl;
  result = λ i m. refl;
  returned = λ i m. refl;
  whole = λ i s m n. elim n [ inl e ↦ (make_some_row 1, rw e refl) | inr x ↦ absurd x ];
  once = number_of;
  stand = stand;
  tested = λ i s x m e. (argument_row 0, rw ((wanted s x e).0) refl);
  grouped = λ i s u m e. false_true e;
  pure = λ k u js e. no_call k u zero js e;
  impure = λ k u i js e. no_call k u (suc i) js e;
  kinded = three_rows (λ k row. IsKinded sample_terms (0 ∷ []) (sample_site k)) (omega arith) tt (tt, (0, refl));
  called = λ k u i js e. no_call k u i js e;
  inputs = λ k u i js e. no_call k u i js e;
  extracts = λ k u j e. no_extractor k u j e;
  makes = λ args k row at h typed e parts m. sample_makes args at h typed k row e parts m;
  gives_type = λ i m. refl;
  respects = λ c args allowed typed args_typed. record {
    field = λ s m e. none_some m e;
    whole = λ s e p. not_missing _ (sample_valued c args args_typed s);
    plain = λ s e p. not_open _ (sample_valued c args args_typed s);
  };
  asked = λ c args allowed typed args_typed covers i s a. not_open _ (sample_valued c args args_typed s);
}
  where
    beyond : (k : ℕ) → slice_get sample_tree.sites k ≡ None → sample_parts k ≡ []
    beyond zero e = refl
    beyond (suc zero) e = refl
    beyond (suc (suc zero)) e = absurd cc
    beyond (suc (suc (suc k))) e = refl

    -- what is wanted follows
    wants : (i s : ℕ) (c : Bool) → Elem i (0 ∷ []) → sample_at s ≡ Some (has c)
        → Derived (DemandOf sample_terms sample_rule) (constrained (sample_site s) (bool_constraint c 0))
    wants i zero c m e =
        let q : true ≡ c = cc in
        subst (λ (b : Bool). Derived (DemandOf sample_terms sample_rule) (constrained (argument 0) (bool_constraint b 0))) q (demanded (inl refl))
    wants i (suc s) c m e = none_some _ e

    -- what a row is made of stands in the table
    stand : (k j : ℕ) (row : Row) → slice_get sample_tree.sites k ≡ Some row → Elem j (parts_of_row row)
        → (other : Row) × (slice_get sample_tree.sites j ≡ Some other)
    stand k j row e m = three_rows (λ k row. Elem j (parts_of_row row) → (other : Row) × (slice_get sample_tree.sites j ≡ Some other)) (λ n. absurd n)
        (λ n. absurd n) (λ n. elim n [ inl q ↦ (bool_row true 0, rw q refl) | inr z ↦ absurd z ]) k row e m

-- The sample has its tree.
pub the_sample_meets_the_premises : HasTermTrees sample_program (λ t. (t == 0) ≡ true) (λ t. sample_tree)
the_sample_meets_the_premises = record {
  of_term = λ t e. subst (λ (u : ℕ). IsTermTree sample_program (λ t. (t == 0) ≡ true) u sample_tree) (sym (eqb-true t 0 e)) sample_is_tree;
}

-- ---- it is sound

no_shape : {B : Type 0} (k : ℕ) → declared_shape ≡ variant_shape k → B
no_shape k e = absurd (let q : declared_shape ≡ variant_shape k = e in cc)

-- none is of a struct
no_struct : {B : Type 0} → declared_shape ≡ struct_shape → B
no_struct e = absurd (let q : declared_shape ≡ struct_shape = e in cc)

-- the rule is sound
sample_rule_sound : IsSoundRule sample_program (λ t. (t == 0) ≡ true) sample_rule
sample_rule_sound = record {
  well = record { args = (tt, tt); iflets = tt; right = tt };
  var_types = λ k. 0;
  typed = record { args = (refl, tt); iflets = tt; right = refl };
  iflets = tt;
  right = truth_typed true;
  pure_iflets = tt;
  pure_right = λ e. refl;
}

-- The sample is sound.
pub the_sample_is_sound : IsSound sample_program (λ t. (t == 0) ≡ true)
the_sample_is_sound = record {
  rules = λ i rule e r. subst (IsSoundRule sample_program (λ t. (t == 0) ≡ true)) (only_rule i rule e) sample_rule_sound;
  rooted = λ i rule e. subst (λ (x : TypedRule). (x.root == 0) ≡ true) (only_rule i rule e) refl;
  ruled = λ t r. r;
  data_sound = record {
    variant_name = λ t k e. no_shape k e;
    struct_name = λ t e. no_struct e;
    variant_fields = λ name k ty types e f. none_some _ e;
    struct_fields = λ name ty types e f. none_some _ e;
    shaped = λ name ty types e. none_some _ e;
    one_name = λ name other shape ty types others e f g h. none_some _ e;
  };
}

-- and it is run: on `true` it answers `true` in two steps, on `false` nothing in one
pub the_sample_is_run : (w : Answers) → MachineRun sample_program (λ t. sample_tree) w 1 0 (on_truth true) 2 [] (given (bool_value true))
the_sample_is_run w = (
  1,
  refl,
  (
    held_value (bool_value true),
    refl,
    inl (
      refl,
      (
        0,
        refl,
        (
          bool_row true 0,
          [],
          [],
          given (held_value (bool_value true)),
          refl,
          (refl, refl),
          refl,
          (
            make_some_row 1,
            [],
            [],
            given (held_some (held_value (bool_value true))),
            refl,
            (refl, refl),
            refl,
            (bool_value true, refl, refl, refl, refl),
          ),
        ),
      ),
    ),
  ),
)

-- On `false` it answers nothing, in one.
pub the_sample_fails : (w : Answers) → MachineRun sample_program (λ t. sample_tree) w 1 0 (on_truth false) 1 [] missing
the_sample_fails w = (0, refl, (held_value (bool_value false), refl, inr ((λ e. cc), (refl, refl, refl))))
