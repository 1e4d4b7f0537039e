-- Numbered rows stand for the rules of a rule set.
use Rattle.std.proofs.Common.{◌≡◌, ◌≢◌, ◌<◌, ◌≤◌, inl, ℕ, zero, suc, true, List, [], ◌∷◌, ◌++◌, Option, Some, None, length, slice_get, refl, sym, ap, subst, ◌∙◌, arith, Contains}
use Rattle.std.specs.List.{flat_map}
use Rattle.std.specs.List.Sorted.{IsStrictlySortedBy}
use Rattle.std.specs.declared.cmp.Ordering.TheVariants.{Less}
use Rattle.std.proofs.lemmas.List.Elements.{Contains-append_left, Contains-append_right}
use Rattle.std.proofs.lemmas.Map.Views.{All-after_first}
use Rattle.std.proofs.lemmas.Option.{same_Some, slice_get_within}
use Rattle.isle_types.specs.declared.ids.Sym.{Sym}
use Rattle.isle_rules.specs.declared.rules.Rule as source
use Rattle.isle_meaning.specs.Held.{Held}
use Rattle.isle_meaning.specs.Worlds.{CheckedProgram}
use Rattle.isle_trees.specs.Premises.{IsWellMade}
use Rattle.isle_trees.specs.Rules.{Rules, Source, Want, has, one_value, Elem, Asked, Used, by_demand, by_class, by_part}
use Rattle.isle_missing.specs.declared.demand.Demand.{Demand}
use Rattle.isle_missing.specs.Demands.{passes, equals}
use Rattle.isle_missing.specs.Trees.{Numbering, IsNumber, IsReady, by_test, by_parts, IsLinked, by_pair, turned, over, StandsFor}
use Rattle.isle_containers.specs.JoinedSets.{are_joined}
use Rattle.isle_blocks.specs.ClosedRules.{same_site}
use Rattle.isle_blocks.specs.DefinedSets.{IsMadeAt}
use Rattle.isle_blocks.specs.RuleSets.{RulesOverSites}
use Rattle.isle_blocks.specs.Rules.{site_cmp}
use Rattle.isle_blocks.specs.declared.constraint.Constraint.{Constraint}
use Rattle.isle_blocks.specs.declared.ids.BindingId.{BindingId}
use Rattle.isle_blocks.specs.declared.rule.Rule.{Rule}
use Rattle.isle_blocks.specs.Trees.Premises.{IsRunnableSet}
use Rattle.isle_blocks.specs.Trees.Promises.{all_rules}
use Rattle.isle_blocks.specs.Trees.View.{id_of, rule_joins, rules_of, test_at}
use Rattle.isle_blocks.proofs.ClosedEqualities.{in_one, joined_at}
use Rattle.isle_blocks.proofs.Closure.Trees.{get_row}
use Rattle.isle_blocks.proofs.Trees.Effects.{is_single}
use Rattle.isle_blocks.proofs.Trees.Listed.{uses_no_multi}
use Rattle.isle_blocks.proofs.Trees.Reading.{found_test, read_true, test_found}
use Rattle.isle_blocks.proofs.Trees.TermTrees.Rules.{used_stand}
use Rattle.isle_blocks.proofs.Trees.WellMade.{test_wanted, wanted_test, well_made}
use Rattle.isle_trees.proofs.Building.Lists.{elem_below}
use Rattle.isle_coverage.specs.Inside.Rows.{IsRow, same_demands}
use Rattle.isle_coverage.specs.Inside.Tables.{HasNumber}
use Rattle.isle_coverage.specs.Inside.Tests.{plain_test}
use Rattle.isle_coverage.proofs.Fronts.{before_same, before_test, less_apart}
use Rattle.isle_coverage.proofs.Lists.{among_sets, among_tests, demand_of, first_of, no_member, of_same, same_of, same_of_set, second_of, set_of_same, test_of_demand}
use Rattle.isle_coverage.proofs.Plain.{plain_meets}

-- the test of a number
abbrev pub numbering : List Constraint → Numbering Constraint
numbering table t = slice_get table t

-- the sites behind the first of some that ascend are greater
later_id : (first other : BindingId) (others : List BindingId) → IsStrictlySortedBy site_cmp (first ∷ others) → Contains others other
    → first.0 < other.0
later_id first other others sorted (k, low, e) =
    less_apart first.0 other.0
    (subst (λ (q : BindingId). site_cmp first q ≡ Less) e (All-after_first site_cmp first others sorted k other low))

-- a test's number is one of the test
pub is_number : (name : Sym → List ℕ) (set : RulesOverSites) (table : List Constraint) (c : Constraint) (t : ℕ) → HasNumber table c t
    → IsNumber (rules_of name set) (numbering table) c t
is_number name set table c t e = (plain_test c, e, λ x. plain_meets name c x)

module _ (name : Sym → List ℕ) (prog : CheckedProgram) (sources : List source.Rule) (term : ℕ) (set : RulesOverSites)
    (h : IsRunnableSet name prog.terms sources prog.rules term set) (table : List Constraint) where
  -- the set as trees see it
  abbrev R : Rules Constraint Held
  R = rules_of name set

  -- the test of each number
  abbrev test : Numbering Constraint
  test = numbering table

  -- what a rule is made of
  abbrev Made : ℕ → Rule → Type 0
  Made p r = IsMadeAt name prog.terms sources prog.rules term set.sites p r

  -- an asked site stands in the table, and its number is small
  asked_low : (i s : ℕ) → Elem i (all_rules set) → Asked R i s → s ≤ 65535
  asked_low i s left asked =
      let (row, there) = used_stand name prog sources term set h i s left (Used.by_asked s asked) in
      let (b, at, same) = get_row name set.sites s row there in
      let within = slice_get_within set.sites s b at in
      let few = h.is.few in omega (arith, within, few)

  module _ (i : ℕ) (r : Rule) (at : slice_get set.rules i ≡ Some r) (p : ℕ) (m : Made p r) (row : List Demand) (is : IsRow table r row) where
    -- the sets of sites that are compared
    abbrev sets : List (List BindingId)
    sets = is.joined.0

    -- the row is its tests, and the comparisons behind them
    whole : row ≡ is.tested ++ flat_map same_demands sets
    whole = is.joined.2

    -- the rule is one of the set
    here : Elem i (all_rules set)
    here = elem_below i (length set.rules) (slice_get_within set.rules i r at)

    -- at one place stands one rule
    same_rule : (k : Rule) → slice_get set.rules i ≡ Some k → k ≡ r
    same_rule k e = same_Some k r (sym e ∙ at)

    in_row : (d : Demand) → Contains (is.tested ++ flat_map same_demands sets) d → Contains row d
    in_row d c = subst (λ (l : List Demand). Contains l d) (sym whole) c

    of_row : (d : Demand) → Contains row d → Contains (is.tested ++ flat_map same_demands sets) d
    of_row d c = subst (λ (l : List Demand). Contains l d) whole c

    -- what the rule wants is demanded
    wants : (s : ℕ) (c : Constraint) → R.at i s ≡ Some (has c) → (t : ℕ) × IsNumber R test c t × Contains row (passes s t)
    wants s c e =
        let (k, ak, t) = wanted_test name prog.terms sources prog.rules term set h i s c e in
        let own = subst (λ (x : Rule). test_at s x ≡ Some c) (same_rule k ak) t in
        let (u, numbered, there) = demand_of table r.constraints is.tested (id_of s) c is.tests (found_test r s c own) in (
          u,
          is_number name set table c u numbered,
          in_row (passes s u) (Contains-append_left is.tested (flat_map same_demands sets) (passes s u) there),
        )

    -- and what is demanded is wanted
    wanted : (s t : ℕ) → Contains row (passes s t) → (c : Constraint) × IsNumber R test c t × (R.at i s ≡ Some (has c))
    wanted s t there =
        let among = among_tests is.tested sets s t (of_row (passes s t) there) in
        let (site, c, inside, of, numbered) = test_of_demand table r.constraints is.tested s t is.tests among in
        let own : Contains r.constraints (id_of s, c) =
        subst (λ (n : ℕ). Contains r.constraints (id_of n, c)) of inside in
        let closed = m.closed in (
          c,
          is_number name set table c t numbered,
          test_wanted name prog.terms sources prog.rules term set h i s r c at (test_found r s c closed.ascending own),
        )

    -- what a row has of tests of lesser sites stands before
    abbrev StandsBefore : List Demand → ℕ → Type 0
    StandsBefore front bound = (u w : ℕ) → u < bound → Contains row (passes u w) → Contains front (passes u w)

    -- the set is well made
    made : IsWellMade R
    made = well_made name prog.terms sources prog.rules term set h

    -- a field is ready where its own test stands before
    field_ready : (front : List Demand) (bound u : ℕ) → StandsBefore front bound → u ≤ bound → (k : Source Constraint) → R.made u ≡ Some k
        → R.at i k.site ≡ Some k.want → k.site < u → (w : Want Constraint) → k.want ≡ w → IsReady R test front u
    field_ready front bound u stand most k e own lower (has c) q =
        let (t, numbered, there) = wants k.site c (own ∙ ap (λ (x : Want Constraint). Some x) q) in
        by_test u k c t e q numbered (stand k.site t (omega (arith, lower, most)) there)
    field_ready front bound u stand most k e own lower one_value q =
        absurd (uses_no_multi name prog.terms sources prog.rules term set h (i ∷ []) i k.site (inl refl)
        (own ∙ ap (λ (x : Want Constraint). Some x) q))

    -- a site is ready where what it is made of is
    site_ready : (front : List Demand) (bound u : ℕ) → StandsBefore front bound → u ≤ bound → Asked R i u
        → ((q : ℕ) → q < u → Asked R i q → IsReady R test front q) → (o : Option (Source Constraint)) → R.made u ≡ o → IsReady R test front u
    site_ready front bound u stand most asked below None e =
        by_parts u e (λ q inside. below q (made.lower u q inside) (by_part u q asked inside))
    site_ready front bound u stand most asked below (Some k) e =
        let own : R.at i k.site ≡ Some k.want = (is_single name prog.terms sources prog.rules term set h).tested i u k asked e in
        let part : Elem k.site (R.parts u) = subst (λ (l : List ℕ). Elem k.site l) (sym (made.source u k e)) (inl refl) in
        field_ready front bound u stand most k e own (made.lower u k.site part) k.want refl

    -- so each asked site is ready where the tests of lesser sites stand before
    ready_to : (front : List Demand) (bound : ℕ) → StandsBefore front bound → (n u : ℕ) → u < n → u ≤ bound → Asked R i u → IsReady R test front u
    ready_to front bound stand zero u low most asked = absurd (omega (arith, low))
    ready_to front bound stand (suc n) u low most asked =
        site_ready front bound u stand most asked
        (λ q lower other. ready_to front bound stand n q (omega (arith, lower, low)) (omega (arith, lower, most)) other) (R.made u) refl

    -- before a test
    ready : (s t : ℕ) (front back : List Demand) → row ≡ front ++ passes s t ∷ back → IsReady R test front s
    ready s t front back e =
        let there : Contains row (passes s t) =
        subst (λ (l : List Demand). Contains l (passes s t)) (sym e)
        (Contains-append_right front (passes s t ∷ back) (passes s t) (0, omega arith, refl)) in
        let (c, numbered, own) = wanted s t there in
        let closed = m.closed in
        ready_to front s
        (λ u w low inside. before_test table r.constraints is.tested (flat_map same_demands sets) front back s t u w is.tests closed.ascending
        (sym whole ∙ e) low (among_tests is.tested sets u w (of_row (passes u w) inside)))
        (suc s) s (omega arith) (omega arith) (by_demand s (has c) own)

    -- what is compared is joined
    joined : (a b : ℕ) → Contains row (equals a b) → (R.joins i a b ≡ true) × (a ≢ b)
    joined a b there =
        let among = among_sets table r.constraints is.tested sets a b is.tests (of_row (equals a b) there) in
        let (set_of, inside, demanded) = set_of_same sets (equals a b) among in
        of_set set_of inside demanded
      where
        of_set : (own : List BindingId) → Contains sets own → Contains (same_demands own) (equals a b) → (R.joins i a b ≡ true) × (a ≢ b)
        of_set [] inside demanded = absurd (no_member (equals a b) demanded)
        of_set (first ∷ others) inside demanded =
            let (other, there, e) = same_of first others (equals a b) demanded in
            let one : first.0 ≡ a = ap first_of e in
            let two : other.0 ≡ b = ap second_of e in
            let both : are_joined same_site sets first other ≡ true =
            joined_at sets first other (first ∷ others) inside (0, omega arith, refl)
            (let (k, low, same) = there in (suc k, omega arith, same)) in
            let lists = is.joined.1 in
            let own : are_joined same_site r.equals first other ≡ true = lists.only first other both in
            let sorted = lists.ascending in
            let (k, low, same) = inside in
            let strict : IsStrictlySortedBy site_cmp (first ∷ others) = subst (IsStrictlySortedBy site_cmp) same (sorted k (first ∷ others) low) in
            let less : first.0 < other.0 = later_id first other others strict there in (
              rw at (subst (λ (x : ℕ). are_joined same_site r.equals (id_of x) (id_of b) ≡ true) one
                  (subst (λ (x : ℕ). are_joined same_site r.equals first (id_of x) ≡ true) two own)),
              λ q. omega (arith, one, two, less, q),
            )

    -- both are ready
    both_ready : (a b : ℕ) (front back : List Demand) → row ≡ front ++ equals a b ∷ back → IsReady R test front a × IsReady R test front b
    both_ready a b front back e =
        let there : Contains row (equals a b) =
        subst (λ (l : List Demand). Contains l (equals a b)) (sym e)
        (Contains-append_right front (equals a b ∷ back) (equals a b) (0, omega arith, refl)) in
        let own = (joined a b there).0 in
        let other = (well_made name prog.terms sources prog.rules term set h).both i a b own in
        let stand : (u w : ℕ) → Contains row (passes u w) → Contains front (passes u w) =
        λ u w inside. before_same table r.constraints is.tested (flat_map same_demands sets) front back (equals a b) u w is.tests refl
        (sym whole ∙ e) (among_tests is.tested sets u w (of_row (passes u w) inside)) in (
          ready_to front a (λ u w low inside. stand u w inside) (suc a) a (omega arith) (omega arith) (by_class a b own),
          ready_to front b (λ u w low inside. stand u w inside) (suc b) b (omega arith) (omega arith) (by_class b a other),
        )

    -- what is joined is linked
    joins : (a b : ℕ) → R.joins i a b ≡ true → a ≢ b → IsLinked row a b
    joins a b e differ =
        let (k, ak, j) = read_true (rule_joins a b) (slice_get set.rules i) e in
        let own : rule_joins a b r ≡ true = subst (λ (x : Rule). rule_joins a b x ≡ true) (same_rule k ak) j in
        let lists = is.joined.1 in
        let both : are_joined same_site sets (id_of a) (id_of b) ≡ true =
        lists.joined (id_of a) (id_of b) (asked_low i a here (by_class a b e)) ∙ own in
        let found = in_one sets (id_of a) (id_of b) both in
        linked found.set found.stands found.first found.second
      where
        pair : (first other : BindingId) (others : List BindingId) → Contains sets (first ∷ others) → Contains others other
            → IsLinked row first.0 other.0
        pair first other others inside there =
            by_pair first.0 other.0 (in_row (equals first.0 other.0) (Contains-append_right is.tested (flat_map same_demands sets)
            (equals first.0 other.0) (same_of_set sets (first ∷ others) (equals first.0 other.0) inside (of_same first other others there))))

        linked : (own : List BindingId) → Contains sets own → Contains own (id_of a) → Contains own (id_of b) → IsLinked row a b
        linked [] inside one two = absurd (no_member (id_of a) one)
        linked (first ∷ others) inside (zero, low, same) (zero, lower, alike) =
            absurd (differ (ap (λ (x : BindingId). x.0) (sym same ∙ alike)))
        linked (first ∷ others) inside (zero, low, same) (suc l, lower, alike) =
            subst (λ (x : BindingId). IsLinked row x.0 b) same (pair first (id_of b) others inside (l, omega arith, alike))
        linked (first ∷ others) inside (suc k, low, same) (zero, lower, alike) =
            turned b a (subst (λ (x : BindingId). IsLinked row x.0 a) alike (pair first (id_of a) others inside (k, omega arith, same)))
        linked (first ∷ others) inside (suc k, low, same) (suc l, lower, alike) =
            over a first.0 b (turned first.0 a (pair first (id_of a) others inside (k, omega arith, same)))
            (pair first (id_of b) others inside (l, omega arith, alike))

    -- The row stands for the rule.
    pub stands : StandsFor R test i row
    stands = record {
      wants = wants;
      wanted = wanted;
      joins = joins;
      joined = joined;
      single = λ s e. uses_no_multi name prog.terms sources prog.rules term set h (i ∷ []) i s (inl refl) e;
      ready = ready;
      both_ready = both_ready;
    }
