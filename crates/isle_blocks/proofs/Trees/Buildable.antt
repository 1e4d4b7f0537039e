-- A tree can be built of each rule set, whatever terms its rules call.
use Rattle.std.proofs.Common.{◌≡◌, ◌≢◌, ◌&&◌, inl, inr, ℕ, zero, suc, ◌<◌, true, List, [], ◌∷◌, ◌++◌, map, length, Option, Some, None}
use Rattle.std.proofs.Common.{slice_get}
use Rattle.std.proofs.Common.{refl, ap, sym, subst, ◌∙◌, arith, Contains}
use Rattle.std.specs.Set.{is_member}
use Rattle.std.specs.Map.{keys_of}
use Rattle.std.proofs.lemmas.Option.{same_Some, slice_get_cases}
use Rattle.isle_containers.specs.JoinedSets.{are_joined, members}
use Rattle.isle_types.specs.declared.ids.Sym.{Sym}
use Rattle.isle_types.specs.declared.ids.TermId.{TermId}
use Rattle.isle_types.proofs.Zipped.{all_at}
use Rattle.isle_rules.specs.declared.rules.Rule as source
use Rattle.isle_rules.specs.TypedRules.{TypedRule}
use Rattle.isle_meaning.specs.Facts.{TermFacts}
use Rattle.isle_meaning.specs.Held.{Held}
use Rattle.isle_meaning.specs.Sites.{Site, iterator}
use Rattle.isle_meaning.specs.Numbered.{Row, iterator_row, At}
use Rattle.isle_blocks.specs.declared.ids.BindingId.{BindingId}
use Rattle.isle_blocks.specs.declared.binding.Binding.{Binding}
use Rattle.isle_blocks.specs.declared.binding.Binding.TheVariants as sites
use Rattle.isle_blocks.specs.declared.constraint.Constraint.{Constraint}
use Rattle.isle_blocks.specs.declared.rule.Rule.{Rule}
use Rattle.isle_blocks.specs.Tables.{sources_of}
use Rattle.isle_blocks.specs.Building.Standing.{StandEach}
use Rattle.isle_blocks.specs.Closure.{Stands}
use Rattle.isle_blocks.specs.ClosedRules.{same_site}
use Rattle.isle_blocks.specs.DefinedSets.{name_of, facts_by, rules_by, IsSetOf, IsMadeAt, IsTermSet}
use Rattle.isle_blocks.specs.SetLaws.{OfEachSet}
use Rattle.isle_blocks.specs.Trees.Laws.{EachCanBeBuilt}
use Rattle.isle_blocks.specs.RuleSets.{RulesOverSites}
use Rattle.isle_blocks.specs.Rows.{IsInjective, numbers_of, rows_of}
use Rattle.isle_blocks.specs.Trees.View.{id_of, read_or, test_at, has_loop, want_at, rule_joins, made_by, option_site, with_option}
use Rattle.isle_blocks.specs.Trees.View.{call_at, calls_at}
use Rattle.isle_blocks.specs.Trees.View.{rules_of}
use Rattle.isle_blocks.proofs.ClosedEqualities.{in_one, joined_at, set_long, members_once}
use Rattle.isle_blocks.proofs.Closure.Trees.{at_below, get_row, one_number}
use Rattle.isle_blocks.proofs.Counting.{Once, once_left, once_right, other_item}
use Rattle.isle_blocks.proofs.Rows.RowsInjective.{row-injective}
use Rattle.isle_blocks.proofs.Sets.GatheredRules.{zipped_back}
use Rattle.isle_blocks.proofs.Sets.SetsOfTerms.{all_places}
use Rattle.isle_blocks.proofs.Building.Naming.{name_by_injective}
use Rattle.isle_blocks.proofs.Trees.Order.{same_is, same_itself, least_self, least_chain, least_both, least_either}
use Rattle.isle_blocks.proofs.Trees.Reading.{read_some, read_true, want_test, want_one, found_test, found_loop, place_full, numbered}
use Rattle.isle_blocks.proofs.Trees.Reading.{number_in}
use Rattle.isle_blocks.proofs.Trees.Reading.{elem_left, elem_right}
use Rattle.isle_trees.specs.Ranking.{AreWithin}
use Rattle.isle_trees.specs.Rules.{Want, has, one_value, Source, Rules, rights, Elem}
use Rattle.isle_trees.specs.Scopes.{Test, on_match, on_equal, on_loop, has_test}
use Rattle.isle_trees.specs.Search.{IsBuildable}
use Rattle.isle_trees.specs.Rules.{below}
use Rattle.isle_trees.proofs.Asking.{elem_append}
use Rattle.isle_trees.proofs.Basics.{none_or, and_both, both_and, or_holds, or_left, or_right, test_of as tested, one_of}

-- The only part of what a test makes is the site of the test.
pub made_source : (rules : List Rule) (b : Binding) (m : Source Constraint) → made_by rules b ≡ Some m → numbers_of (sources_of b) ≡ m.site ∷ []
made_source rules (sites.Iterator a) m e = ap (λ (n : Source Constraint). n.site ∷ []) (same_Some _ m e)
made_source rules (sites.MatchVariant a v i) m e = ap (λ (n : Source Constraint). n.site ∷ []) (same_Some _ m e)
made_source rules (sites.ExtractStruct a i) m e = ap (λ (n : Source Constraint). n.site ∷ []) (same_Some _ m e)
made_source rules (sites.MatchSome a) m e = ap (λ (n : Source Constraint). n.site ∷ []) (same_Some _ m e)
made_source rules b m e = absurd cc

-- ---- classes

-- Sites are joined both ways.
pub joined_swap : (sets : List (List BindingId)) (x y : BindingId) → are_joined same_site sets x y ≡ true → are_joined same_site sets y x ≡ true
joined_swap [] x y e = absurd cc
joined_swap (s ∷ sets) x y e = elim (or_holds (is_member same_site s x && is_member same_site s y) (are_joined same_site sets x y) e) [
  | inl h ↦
      let g = and_both (is_member same_site s x) (is_member same_site s y) h in
      or_left (is_member same_site s y && is_member same_site s x) (are_joined same_site sets y x)
      (both_and (is_member same_site s y) (is_member same_site s x) (g.1) (g.0))
  | inr h ↦ or_right (is_member same_site s y && is_member same_site s x) (are_joined same_site sets y x) (joined_swap sets x y h)
]

-- in a class each site stands once
set_once : (sets : List (List BindingId)) (set : List BindingId) → Once (members sets) → Contains sets set → Once set
set_once [] set once (k, within, is) = absurd (omega arith)
set_once (s ∷ sets) set once (zero, within, is) = subst Once is (once_left s (members sets) once)
set_once (s ∷ sets) set once (suc k, within, is) = set_once sets set (once_right s (members sets) once) (k, omega arith, is)

-- What is made of something that a list has is among what is made of it.
pub in_map : {X Y : Type 0} (f : X → Y) (xs : List X) (x : X) → Contains xs x → Elem (f x) (map f xs)
in_map f [] x (j, within, is) = absurd (omega arith)
in_map f (y ∷ xs) x (zero, within, is) = inl (sym (ap f is))
in_map f (y ∷ xs) x (suc j, within, is) = inr (in_map f xs x (j, omega arith, is))

-- the key of an entry is among the keys
key_in : (es : List (BindingId × Constraint)) (id : BindingId) (c : Constraint) → Contains es (id, c) → Contains (keys_of es) id
key_in [] id c (j, within, is) = absurd (omega arith)
key_in (e ∷ es) id c (zero, within, is) = (0, omega arith, ap (λ (x : BindingId × Constraint). x.0) is)
key_in (e ∷ es) id c (suc j, within, is) = let (k, l, q) = key_in es id c (j, omega arith, is) in (suc k, omega arith, q)

-- the numbers below one are less
below_less : (n i : ℕ) → Elem i (below n) → i < n
below_less zero i m = absurd m
below_less (suc n) i m = elim (elem_append i (below n) (n ∷ []) m) [
  | inl old ↦ let l = below_less n i old in omega arith
  | inr new ↦ elim new [ inl e ↦ omega arith | inr z ↦ absurd z ]
]

-- An option's content stands behind the option.
pub option_part : (b : Binding) (o : ℕ) → option_site b ≡ Some o → numbers_of (sources_of b) ≡ o ∷ []
option_part (sites.MatchSome a) o e = ap (λ (x : ℕ). x ∷ []) (same_Some a.0 o e)
option_part b o e = absurd cc

module _ (name : Sym → List ℕ) (facts : TermFacts) (sources : List source.Rule) (rules : List TypedRule) (term : ℕ) (set : RulesOverSites)
    (injective : IsInjective name) (is : IsSetOf name facts sources rules term set) where
  -- the entries of the set's sites
  abbrev rows : List Row
  rows = rows_of name set.sites

  -- the set as trees see it
  abbrev R : Rules Constraint Held
  R = rules_of name set

  -- what a rule is made of
  abbrev Made : ℕ → Rule → Type 0
  Made p r = IsMadeAt name facts sources rules term set.sites p r

  -- Each rule, with what it is made of.
  pub rule_made : (i : ℕ) (r : Rule) → slice_get set.rules i ≡ Some r → (p : ℕ) × Made p r
  rule_made i r e = let (p, q, m) = zipped_back Made is.places set.rules is.made i r e in (p, m)

  -- Parts stand before what is made of them.
  pub part_below : (s p : ℕ) (o : Option Binding) → slice_get set.sites s ≡ o
      → Elem p (read_or [] (λ (b : Binding). numbers_of (sources_of b)) o) → p < s
  part_below s p None e m = absurd m
  part_below s p (Some b) e m =
      let (x, inside, at) = numbered (λ (id : BindingId). id.0) (sources_of b) p m in
      let low = is.table.earlier s b x e inside in omega arith

  -- A test that is wanted is a rule's.
  pub test_of_rule : (i s : ℕ) (c : Constraint) → R.at i s ≡ Some (has c) → (r : Rule) × (slice_get set.rules i ≡ Some r) × (test_at s r ≡ Some c)
  test_of_rule i s c e =
      let (r, at, w) = read_some (want_at s) (slice_get set.rules i) (has c) e in (r, at, want_test (has_loop s r) (test_at s r) c w)

  -- One value that is wanted is one of a rule's multi call.
  pub loop_of_rule : (i s : ℕ) → R.at i s ≡ Some one_value → (r : Rule) × (slice_get set.rules i ≡ Some r) × (has_loop s r ≡ true)
  loop_of_rule i s e =
      let (r, at, w) = read_some (want_at s) (slice_get set.rules i) one_value e in (r, at, (want_one (has_loop s r) (test_at s r) w).1)

  -- What is wanted is listed.
  pub wants_listed : (i s : ℕ) (w : Want Constraint) → R.at i s ≡ Some w → Elem s (R.demands i)
  wants_listed i s (has c) e =
      let (r, at, t) = test_of_rule i s c e in
      rw at (elem_left s (numbers_of (keys_of r.constraints)) (numbers_of r.iterators)
      (number_in (λ (id : BindingId). id.0) (keys_of r.constraints) (id_of s) (key_in r.constraints (id_of s) c (found_test r s c t))))
  wants_listed i s one_value e =
      let (r, at, l) = loop_of_rule i s e in
      rw at (elem_right s (numbers_of (keys_of r.constraints)) (numbers_of r.iterators)
      (number_in (λ (id : BindingId). id.0) r.iterators (id_of s) (found_loop r s l)))

  -- Joined sites stand in a class.
  pub joins_grouped : (i a b : ℕ) → R.joins i a b ≡ true → (c : List ℕ) × Elem c (R.classes i) × Elem a c × Elem b c
  joins_grouped i a b e =
      let (r, at, j) = read_true (rule_joins a b) (slice_get set.rules i) e in
      let one = in_one r.equals (id_of a) (id_of b) j in (
        numbers_of one.set,
        subst (λ (o : Option Rule). Elem (numbers_of one.set) (read_or [] (λ (k : Rule). map numbers_of k.equals) o)) (sym at)
            (in_map numbers_of r.equals one.set one.stands),
        number_in (λ (id : BindingId). id.0) one.set (id_of a) one.first,
        number_in (λ (id : BindingId). id.0) one.set (id_of b) one.second,
      )

  -- They are joined both ways.
  pub joins_both : (i a b : ℕ) → R.joins i a b ≡ true → R.joins i b a ≡ true
  joins_both i a b e =
      let (r, at, j) = read_true (rule_joins a b) (slice_get set.rules i) e in rw at (joined_swap r.equals (id_of a) (id_of b) j)

  -- A joined site has another, and stands for a site that is left equal to one.
  pub other_joined : (p : ℕ) (r : Rule) → Made p r → (a b : ℕ) → rule_joins a b r ≡ true
      → (y : BindingId) × (id_of a ≢ y) × (are_joined same_site r.equals (id_of a) y ≡ true)
  other_joined p r m a b j =
      let closed = m.closed in
      let one = in_one r.equals (id_of a) (id_of b) j in
      let (y, apart, beside) = other_item one.set (id_of a) (set_long r.equals one.set closed.disjoint one.stands)
      (set_once r.equals one.set (members_once r.equals closed.disjoint) one.stands) one.first in
      (y, apart, joined_at r.equals (id_of a) y one.set one.stands one.first beside)

  -- ---- what lies within the table

  -- a test's site
  test_within : (i s : ℕ) (c : Constraint) → R.at i s ≡ Some (has c) → s < length set.sites
  test_within i s c e =
      let (r, at, t) = test_of_rule i s c e in
      let (p, m) = rule_made i r at in
      let (v, av, dv) = m.closed.tests.derived (id_of s) c (found_test r s c t) in at_below name set.sites v s av

  -- a multi call's
  loop_within : (i s : ℕ) → R.at i s ≡ Some one_value → s < length set.sites
  loop_within i s e =
      let (r, at, l) = loop_of_rule i s e in
      let (p, m) = rule_made i r at in
      let (v, multi, av) = m.calls.numbered (id_of s) (found_loop r s l) in at_below name set.sites v s av

  -- a joined site
  joined_within : (i a b : ℕ) → R.joins i a b ≡ true → a < length set.sites
  joined_within i a b e =
      let (r, at, j) = read_true (rule_joins a b) (slice_get set.rules i) e in
      let (p, m) = rule_made i r at in
      let (y, apart, joined) = other_joined p r m a b j in
      let (s, u, here, there, left) = m.closed.equalities.left (id_of a) y apart joined in at_below name set.sites s a here

  -- each test's sites
  tests_within : (i : ℕ) (t : Test) → has_test R i t ≡ true → AreWithin t (length set.sites)
  tests_within i (on_match s) e = let (c, q) = tested (R.at i s) e in test_within i s c q
  tests_within i (on_equal a b) e = (joined_within i a b e, joined_within i b a (joins_both i a b e))
  tests_within i (on_loop s) e = loop_within i s (one_of (R.at i s) e)

  -- a rule's impure call, and the option that it is the content of
  call_within : (id : BindingId) (x : ℕ) → id.0 < length set.sites → Elem x (call_at set.sites id) → x < length set.sites
  call_within id x l m = elim (none_or (read_or None option_site (slice_get set.sites id.0))) [
    | inl none ↦ elim (subst (λ (o : Option ℕ). Elem x (with_option o id.0)) none m) [
      | inl e ↦ omega arith
      | inr z ↦ absurd z
    ]
    | inr some ↦ elim (subst (λ (o : Option ℕ). Elem x (with_option o id.0)) (some.1) m) [
      | inl e ↦
          let (b, at, opt) = read_some option_site (slice_get set.sites id.0) (some.0) (some.1) in
          let inside : Elem (some.0) (read_or [] (λ (c : Binding). numbers_of (sources_of c)) (Some b)) =
          subst (Elem (some.0)) (sym (option_part b (some.0) opt)) (inl refl) in
          let low = part_below id.0 (some.0) (Some b) at inside in omega arith
      | inr rest ↦ elim rest [
        | inl e ↦ omega arith
        | inr z ↦ absurd z
      ]
    ]
  ]

  -- all of them
  calls_within : (ids : List BindingId) (ts : List Site) → StandEach rows ids ts → (x : ℕ) → Elem x (calls_at set.sites ids) → x < length set.sites
  calls_within [] ts st x m = absurd m
  calls_within (id ∷ ids) [] st x m = absurd st
  calls_within (id ∷ ids) (t ∷ ts) st x m = elim (elem_append x (call_at set.sites id) (calls_at set.sites ids) m) [
    | inl here ↦ call_within id x (at_below name set.sites t id.0 (st.0)) here
    | inr rest ↦ calls_within ids ts (st.1) x rest
  ]

  -- a right side's sites
  rights_within : (i x : ℕ) → Elem i (below (length set.rules)) → Elem x (rights R i) → x < length set.sites
  rights_within i x inside m = elim (none_or (slice_get set.rules i)) [
    | inl none ↦ elim (slice_get_cases set.rules i).1 [
      | inl (r, q, e, g) ↦ absurd (let z = sym none ∙ e in cc)
      | inr (q, e) ↦ absurd (let l = below_less (length set.rules) i inside in omega arith)
    ]
    | inr there ↦
        let (r, at) = there in
        let (p, made) = rule_made i r at in
        let m' : Elem x (calls_at set.sites r.impure ++ r.result.0 ∷ []) =
        subst (λ (o : Option Rule). Elem x (read_or [] (λ (k : Rule). calls_at set.sites k.impure) o
        ++ read_or (length set.sites) (λ (k : Rule). k.result.0) o ∷ [])) at m in
        elim (elem_append x (calls_at set.sites r.impure) (r.result.0 ∷ []) m') [
          | inl call ↦ calls_within r.impure _ made.effects x call
          | inr last ↦ elim last [
            | inl e ↦ let l = at_below name set.sites _ r.result.0 made.value in omega arith
            | inr z ↦ absurd z
          ]
        ]
  ]

  -- ---- values of multi calls

  -- the value of a multi call that stands has a place
  value_placed : (t : Site) (s : ℕ) → At rows t s → Stands rows (iterator t) → (x : ℕ) × (R.value s ≡ Some x)
  value_placed t s at (x, (j, row, at_j)) =
      let same : j ≡ s = one_number name set.sites injective is.table t j s at_j at in
      let (b, there, entry) = get_row name set.sites x (iterator_row j) row in
      let it : b ≡ sites.Iterator (id_of s) =
      row-injective name injective b (sites.Iterator (id_of s)) (entry ∙ ap iterator_row same) in
      place_full (sites.Iterator (id_of s)) set.sites x (there ∙ ap Some it)

  -- Each multi call that a rule uses has the site of its value.
  pub value_of_loop : (i s : ℕ) → R.at i s ≡ Some one_value → (x : ℕ) × (R.value s ≡ Some x)
  value_of_loop i s e =
      let (r, at, l) = loop_of_rule i s e in
      let (p, m) = rule_made i r at in
      let (t, multi, at_t) = m.calls.numbered (id_of s) (found_loop r s l) in
      let own = m.stand.own in
      value_placed t s at_t (elim multi [
        | inl needed ↦ own.needed (iterator t) needed
        | inr result ↦ subst (Stands rows) (sym result) own.result
      ])

  -- A tree can be built of the set's rules.
  pub is_buildable : IsBuildable (rules_of name set) (length set.sites) (below (length set.rules))
  is_buildable = record {
    same = same_is;
    same_self = same_itself;
    least_self = least_self;
    least_chain = least_chain;
    least_both = least_both;
    least_either = least_either;
    lower = λ s p m. part_below s p (slice_get set.sites s) refl m;
    source = λ s m e.
        let (b, at, made) = read_some (made_by set.rules) (slice_get set.sites s) m e in
        rw at (subst (Elem m.site) (sym (made_source set.rules b m made)) (inl refl));
    both = joins_both;
    listed = wants_listed;
    grouped = joins_grouped;
    within = tests_within;
    rights = rights_within;
    values = value_of_loop;
  }

-- So of each set that `check` gives.
pub each_can_be_built : OfEachSet EachCanBeBuilt
each_can_be_built env d sets are = all_places (λ (pair : TermId × RulesOverSites). EachCanBeBuilt env d pair.1) sets (λ i pair at.
    let it = all_at (IsTermSet env d) sets are.each i pair at in
    is_buildable (name_of env d) (facts_by env d) env.rules (rules_by env d) pair.0.0 pair.1 (name_by_injective d.tyenv.names d.once) (it.1))
