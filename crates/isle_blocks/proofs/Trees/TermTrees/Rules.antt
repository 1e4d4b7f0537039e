-- The rules of a set, and the rules of the term that they are.
use Rattle.std.proofs.Common.{◌≡◌, ◌≢◌, ℕ, suc, List, [], ◌∷◌, ◌++◌, map, length, Bool, true, false, Option, Some, None, slice_get}
use Rattle.std.proofs.Common.{refl, ap, sym, subst, ◌∙◌}
use Rattle.std.specs.Prelude.{pos}
use Rattle.std.proofs.lemmas.List.{map-append}
use Rattle.std.proofs.lemmas.Option.{slice_get_within}
use Rattle.isle_types.specs.declared.ids.Sym.{Sym}
use Rattle.isle_rules.specs.declared.rules.Rule as source
use Rattle.isle_rules.specs.TypedRules.{TypedRule, no_typed, built_bool}
use Rattle.isle_meaning.specs.Calls.{IsRuleAt}
use Rattle.isle_meaning.specs.Demands.{constrained, equal, vars_of, result_of}
use Rattle.isle_meaning.specs.Demands as meaning
use Rattle.isle_meaning.specs.Derived.{Derived, Closed}
use Rattle.isle_meaning.specs.Facts.{TermFacts}
use Rattle.isle_meaning.specs.Faults.{IsUnreachable}
use Rattle.isle_meaning.specs.Held.{Held}
use Rattle.isle_meaning.specs.Demands.{DemandOf}
use Rattle.isle_meaning.specs.Machine.Trees.{with_content, calls_of}
use Rattle.isle_meaning.specs.Numbered.{Row, match_some_row, constructor_row, At}
use Rattle.isle_meaning.specs.Sites.{Site, Sites, constructor_call, iterator, match_some, answer_site, sites_of, step_site}
use Rattle.isle_meaning.specs.Words.{Step, steps_of}
use Rattle.isle_meaning.specs.Worlds.{CheckedProgram}
use Rattle.isle_trees.specs.Rules.{has, Rules, Elem, Used}
use Rattle.isle_trees.proofs.Building.Lists.{below_less, elem_below}
use Rattle.isle_blocks.specs.declared.constraint.Constraint.{Constraint}
use Rattle.isle_blocks.specs.declared.ids.BindingId.{BindingId}
use Rattle.isle_blocks.specs.declared.rule.Rule.{Rule}
use Rattle.isle_blocks.specs.Building.Standing.{StandEach}
use Rattle.isle_blocks.specs.DefinedSets.{IsMadeAt}
use Rattle.isle_blocks.specs.Rows.{rows_of, test_of}
use Rattle.isle_blocks.specs.RuleSets.{RulesOverSites}
use Rattle.isle_blocks.specs.Trees.Choices.{HavePriorities}
use Rattle.isle_blocks.specs.Trees.Premises.{IsRunnableSet}
use Rattle.isle_blocks.specs.Trees.Promises.{all_rules}
use Rattle.isle_blocks.specs.Trees.SiteTrees.{tree_of}
use Rattle.isle_blocks.specs.Trees.View.{id_of, read_or, rule_joins, option_site, with_option, call_at, calls_at, rules_of}
use Rattle.isle_blocks.proofs.Closure.Trees.{at_row, get_row}
use Rattle.isle_blocks.proofs.Counting.{place_of}
use Rattle.isle_blocks.proofs.Trees.Asked.{its_test}
use Rattle.isle_blocks.proofs.Trees.Chosen.{get_there, placed_rule, rule_placed}
use Rattle.isle_blocks.proofs.Trees.Effects.{row_option, same_option}
use Rattle.isle_blocks.proofs.Trees.Listed.{site_kinded}
use Rattle.isle_blocks.proofs.Trees.Reading.{read_true}
use Rattle.isle_blocks.proofs.Trees.Standing.{tree_one}
use Rattle.isle_blocks.proofs.Trees.Used.{used_has}
use Rattle.isle_blocks.proofs.Trees.WellMade.{derived_test, joined_other, test_wanted, wanted_test}

-- what stands for a number without a rule
abbrev no_rule : TypedRule
no_rule = record {
  root = 0;
  args = no_typed;
  iflets = [];
  right = built_bool 0 true;
  variables = [];
  priority = pos 0;
  pos = record { file = 0; offset = 0 };
  name = None;
}

-- The place of a set's rule among the typed rules.
abbrev pub place_at : List ℕ → ℕ → ℕ
place_at places i = read_or 0 (λ (p : ℕ). p) (slice_get places i)

-- The typed rule there.
abbrev pub rule_at : List TypedRule → List ℕ → ℕ → TypedRule
rule_at rules places i = read_or no_rule (λ (r : TypedRule). r) (slice_get rules (place_at places i))

module _ (name : Sym → List ℕ) (p : CheckedProgram) (sources : List source.Rule) (term : ℕ) (set : RulesOverSites)
    (h : IsRunnableSet name p.terms sources p.rules term set) where
  -- what is said of the program's terms
  abbrev facts : TermFacts
  facts = p.terms

  -- the entries of the set's sites
  abbrev rows : List Row
  rows = rows_of name set.sites

  -- the set as trees see it
  abbrev R : Rules Constraint Held
  R = rules_of name set

  -- what a rule is made of
  abbrev Made : ℕ → Rule → Type 0
  Made q r = IsMadeAt name p.terms sources p.rules term set.sites q r

  -- a number's tree
  abbrev tree : ℕ → Site
  tree = tree_of name set.sites

  -- the place of a rule
  abbrev place : ℕ → ℕ
  place i = place_at h.is.places i

  -- the typed rule there
  abbrev rule : ℕ → TypedRule
  rule i = rule_at p.rules h.is.places i

  -- Each rule has a place, and is made of the typed rule there.
  its_rule : (i : ℕ) (r : Rule) → slice_get set.rules i ≡ Some r → (m : Made (place i) r) × (rule i ≡ m.reached.rule)
  its_rule i r at =
      let (q, at_place, m) = placed_rule name p.terms sources p.rules term set h i r at in
      let here : place i ≡ q = rw at_place refl in
      let n : Made (place i) r = subst (λ (z : ℕ). Made z r) (sym here) m in (n, rw n.reached.at refl)

  -- A rule left is one of the set's.
  left_rule : (i : ℕ) → Elem i (all_rules set) → (r : Rule) × (slice_get set.rules i ≡ Some r)
  left_rule i left = get_there set.rules i (below_less i (length set.rules) left)

  -- ---- which rules are left

  -- Each is a rule of the term.
  pub listed_are : (i : ℕ) → Elem i (all_rules set) → IsRuleAt p term (place_at h.is.places i) (rule_at p.rules h.is.places i)
  listed_are i left =
      let (r, at) = left_rule i left in
      let (m, is) = its_rule i r at in
      record { listed = m.reached.at ∙ ap Some (sym is); of_term = ap (λ (x : TypedRule). x.root) is ∙ m.reached.of_term }

  -- Each rule of the term that may match is left.
  pub all_are : (j : ℕ) (other : TypedRule) → IsRuleAt p term j other → (IsUnreachable (DemandOf p.terms other) → ⊥)
      → (i : ℕ) × Elem i (all_rules set) × (rule_at p.rules h.is.places i ≡ other)
  all_are j other is may =
      let inside = (h.is.listed.all j).1 (record { rule = other; at = is.listed; of_term = is.of_term; may = may }) in
      let (i, at_place) = place_of h.is.places j inside in
      let (r, at, m) = rule_placed name p.terms sources p.rules term set h i j at_place in
      (i, elem_below i (length set.rules) (slice_get_within set.rules i r at), rw (at_place, is.listed) refl)

  -- They have their priorities.
  pub priorities_are : HavePriorities sources p.rules → (i : ℕ) → Elem i (all_rules set)
      → (rules_of name set).prio i ≡ (rule_at p.rules h.is.places i).priority
  priorities_are priorities i left =
      let (r, at) = left_rule i left in
      let (m, is) = its_rule i r at in
      rw at (m.told.prio ∙ priorities (place i) m.source m.reached.rule m.source_at m.reached.at ∙ ap (λ (x : TypedRule). x.priority) (sym is))

  -- ---- their tests

  -- what a rule wants is derived from its demands
  pub wants_are : (i s : ℕ) (c : Constraint) → Elem i (all_rules set) → (rules_of name set).at i s ≡ Some (has c)
      → Derived (DemandOf p.terms (rule_at p.rules h.is.places i)) (constrained (tree_of name set.sites s) (test_of name c))
  wants_are i s c left e =
      let (r, at, t) = wanted_test name p.terms sources p.rules term set h i s c e in
      let (m, is) = its_rule i r at in
      let (u, au, du) = derived_test name p.terms sources p.rules term set h (place i) r m s c t in
      let there = subst (λ (z : Site). Derived (DemandOf p.terms m.reached.rule) (constrained z (test_of name c)))
      (sym (tree_one name set.sites h.is.table u s au)) du in
      subst (λ (x : TypedRule). Derived (DemandOf p.terms x) (constrained (tree s) (test_of name c))) (sym is) there

  -- and all that is derived is wanted
  pub all_wants_are : (i : ℕ) (u : Site) (k : meaning.Constraint) → Elem i (all_rules set)
      → Derived (DemandOf p.terms (rule_at p.rules h.is.places i)) (constrained u k)
      → (s : ℕ) × (c : Constraint) × (tree_of name set.sites s ≡ u) × ((rules_of name set).at i s ≡ Some (has c)) × (test_of name c ≡ k)
  all_wants_are i u k left e =
      let (r, at) = left_rule i left in
      let (m, is) = its_rule i r at in
      let d = subst (λ (x : TypedRule). Derived (DemandOf p.terms x) (constrained u k)) is e in
      let closed = m.closed in
      let (id, test, inside, at_id, what) = closed.tests.all u k d in
      let (c, has_it, same) = its_test name p.terms sources p.rules term set h i r at (place i) m u id.0 k at_id d in
      (id.0, c, tree_one name set.sites h.is.table u id.0 at_id, test_wanted name p.terms sources p.rules term set h i id.0 r c at has_it, same)

  -- Joined sites are left equal.
  pub joins_are : (i a b : ℕ) → Elem i (all_rules set) → (rules_of name set).joins i a b ≡ true → a ≢ b
      → Closed (DemandOf p.terms (rule_at p.rules h.is.places i)) (equal (tree_of name set.sites a) (tree_of name set.sites b))
  joins_are i a b left e differ =
      let (r, at, j) = read_true (rule_joins a b) (slice_get set.rules i) e in
      let (m, is) = its_rule i r at in
      let closed = m.closed in
      let (s, u, here, there, d) = closed.equalities.left (id_of a) (id_of b) (λ q. differ (ap (λ (z : BindingId). z.0) q)) j in
      let one = subst (λ (z : Site). Closed (DemandOf p.terms m.reached.rule) (equal z u)) (sym (tree_one name set.sites h.is.table s a here)) d in
      let two = subst (λ (z : Site). Closed (DemandOf p.terms m.reached.rule) (equal (tree a) z))
      (sym (tree_one name set.sites h.is.table u b there)) one in
      subst (λ (x : TypedRule). Closed (DemandOf p.terms x) (equal (tree a) (tree b))) (sym is) two

  -- A joined site is equal to another.
  pub joined_are : (i a b : ℕ) → Elem i (all_rules set) → (rules_of name set).joins i a b ≡ true
      → (u : Site) × Derived (DemandOf p.terms (rule_at p.rules h.is.places i)) (equal (tree_of name set.sites a) u)
  joined_are i a b left e =
      let (r, at, j) = read_true (rule_joins a b) (slice_get set.rules i) e in
      let (m, is) = its_rule i r at in
      let (s, u, here, d, none) = joined_other name p.terms sources p.rules term set h (place i) r m a b j in
      let one = subst (λ (z : Site). Derived (DemandOf p.terms m.reached.rule) (equal z u)) (sym (tree_one name set.sites h.is.table s a here)) d in
      (u, subst (λ (x : TypedRule). Derived (DemandOf p.terms x) (equal (tree a) u)) (sym is) one)

  -- and all that are left equal are joined
  pub all_joins_are : (i : ℕ) (u v : Site) → Elem i (all_rules set) → Closed (DemandOf p.terms (rule_at p.rules h.is.places i)) (equal u v)
      → (a : ℕ) × (b : ℕ) × (tree_of name set.sites a ≡ u) × (tree_of name set.sites b ≡ v) × ((rules_of name set).joins i a b ≡ true)
  all_joins_are i u v left e =
      let (r, at) = left_rule i left in
      let (m, is) = its_rule i r at in
      let d = subst (λ (x : TypedRule). Closed (DemandOf p.terms x) (equal u v)) is e in
      let closed = m.closed in
      let (x, y, at_x, at_y, j) = closed.equalities.all u v d in
      (x.0, y.0, tree_one name set.sites h.is.table u x.0 at_x, tree_one name set.sites h.is.table v y.0 at_y, rw at j)

  -- ---- what they use stands in the table

  -- Of each site that a rule uses.
  pub used_stand : (i s : ℕ) → Elem i (all_rules set) → Used (rules_of name set) i s → (row : Row) × (slice_get (rows_of name set.sites) s ≡ Some row)
  used_stand i s left u =
      let (r, at) = left_rule i left in
      let (m, is) = its_rule i r at in
      let (t, at_t, ok) = used_has name p.terms sources p.rules term set h i r at (place i) m s u in at_row name set.sites t s at_t

  -- ---- their right sides

  -- the option that a number is the content of, by its row
  option_at : (k : ℕ) (row : Row) → slice_get rows k ≡ Some row → read_or None option_site (slice_get set.sites k) ≡ row_option row
  option_at k row e = let (b, at, is) = get_row name set.sites k row e in rw at (sym (same_option name b) ∙ ap row_option is)

  -- a call, and its content where it may fail
  call_is : (m b : Bool) (t n : ℕ) (ss : Sites) (id : BindingId) → At rows (answer_site m b (constructor_call t ss (suc n))) id.0
      → map tree (call_at set.sites id) ≡ with_content b (constructor_call t ss (suc n))
  call_is true b t n ss id at = absurd (site_kinded name p.terms sources p.rules term set h (iterator (constructor_call t ss (suc n))) id.0 at)
  call_is false true t n ss id (j, row, at) =
      let call = constructor_call t ss (suc n) in
      let o : read_or None option_site (slice_get set.sites id.0) ≡ Some j = option_at id.0 (match_some_row j) row in
      let one : tree j ≡ call = tree_one name set.sites h.is.table call j at in
      let two : tree id.0 ≡ match_some call = tree_one name set.sites h.is.table (match_some call) id.0 (j, row, at) in
      ap (λ (x : Option ℕ). map tree (with_option x id.0)) o ∙ (λ i. one i ∷ two i ∷ [])
  call_is false false t n ss id (js, row, at) =
      let call = constructor_call t ss (suc n) in
      let o : read_or None option_site (slice_get set.sites id.0) ≡ None = option_at id.0 (constructor_row t js (suc n)) row in
      let one : tree id.0 ≡ call = tree_one name set.sites h.is.table call id.0 (js, row, at) in
      ap (λ (x : Option ℕ). map tree (with_option x id.0)) o ∙ ap (λ (s : Site). s ∷ []) one

  -- so all calls of some steps
  calls_by : (vars : ℕ → Site) (steps : List Step) (ids : List BindingId) → StandEach rows ids (map (step_site facts vars) steps)
      → map tree (calls_at set.sites ids) ≡ calls_of facts vars steps
  calls_by vars [] [] st = refl
  calls_by vars [] (id ∷ ids) st = absurd st
  calls_by vars (s ∷ steps) [] st = absurd st
  calls_by vars (s ∷ steps) (id ∷ ids) st =
      let one = call_is (facts.multi s.term) (facts.partial s.term) s.term s.place (sites_of facts vars s.args) id (st.0) in
      let rest = calls_by vars steps ids (st.1) in
      map-append tree (call_at set.sites id) (calls_at set.sites ids) ∙ (λ i. one i ++ rest i)

  -- A rule's calls are those of its right side, each before its content where it may fail.
  pub calls_are : (i : ℕ) → Elem i (all_rules set) → map (tree_of name set.sites) ((rules_of name set).calls i)
      ≡ calls_of p.terms (vars_of p.terms (rule_at p.rules h.is.places i)) (steps_of p.terms (rule_at p.rules h.is.places i).right)
  calls_are i left =
      let (r, at) = left_rule i left in
      let (m, is) = its_rule i r at in
      let x = m.reached.rule in
      let own : map tree (calls_at set.sites r.impure) ≡ calls_of facts (vars_of facts x) (steps_of facts x.right) =
      calls_by (vars_of facts x) (steps_of facts x.right) r.impure m.effects in
      subst (λ (y : TypedRule). map tree (R.calls i) ≡ calls_of facts (vars_of facts y) (steps_of facts y.right)) (sym is) (rw at own)

  -- Its result is the right side's.
  pub result_are : (i : ℕ) → Elem i (all_rules set)
      → tree_of name set.sites ((rules_of name set).result i) ≡ result_of p.terms (p.terms.partial term) (rule_at p.rules h.is.places i)
  result_are i left =
      let (r, at) = left_rule i left in
      let (m, is) = its_rule i r at in
      let own = tree_one name set.sites h.is.table (result_of facts (facts.partial m.reached.rule.root) m.reached.rule) r.result.0 m.value in
      let of_term : tree r.result.0 ≡ result_of facts (facts.partial term) m.reached.rule =
      own ∙ ap (λ (t : ℕ). result_of facts (facts.partial t) m.reached.rule) m.reached.of_term in
      subst (λ (y : TypedRule). tree (R.result i) ≡ result_of facts (facts.partial term) y) (sym is) (rw at of_term)
