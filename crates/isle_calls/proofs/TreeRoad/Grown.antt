-- The trees of a compiled program are those of its terms.
use Rattle.std.proofs.Common.{◌≡◌, inl, inr, ℕ, zero, suc, Bool, true, false, List, [], ◌∷◌, Contains, Option, Some, None, slice_get, arith, refl, sym, subst, ap, ◌∙◌}
use Rattle.std.specs.Prelude.{◌==◌, if◌then◌else◌}
use Rattle.std.specs.List.{list_any}
use Rattle.std.proofs.lemmas.Bool.{cases_eq, eqb-true, eq-eqb, ne_eqb}
use Rattle.isle_ast.specs.Positions.Files.{SourceFile}
use Rattle.isle_trees.specs.Counting.{steps_at_most}
use Rattle.isle_types.specs.declared.ids.Sym.{Sym}
use Rattle.isle_types.specs.declared.ids.TermId.{TermId}
use Rattle.isle_containers.proofs.MergedTables.{any-map}
use Rattle.isle_rules.specs.Shown.TermTables.{TermTables}
use Rattle.isle_rules.specs.Definitions.{declared_by}
use Rattle.isle_rules.specs.TypedRules.{TypedRule}
use Rattle.isle_meaning.specs.Machine.Trees.{IsTermTree}
use Rattle.isle_meaning.proofs.Spelling.Ordered.{any_at}
use Rattle.isle_blocks.specs.Building.Naming.{name_by}
use Rattle.isle_blocks.specs.DefinedSets.{AreDefined, IsSetOf, IsTermSet, HasRules, facts_by, name_of, rules_by}
use Rattle.isle_blocks.specs.RuleSets.{RulesOverSites}
use Rattle.isle_blocks.specs.Trees.Shown.{BlockShown}
use Rattle.isle_blocks.specs.Trees.TermTrees.{HaveEachRule, IsTreeOfSet, set_steps}
use Rattle.isle_blocks.proofs.Trees.TermTrees.Whole.{tree_is_of_term}
use Rattle.isle_program.specs.declared.program.Program.{Program}
use Rattle.isle_calls.specs.Inside.Blocks.Frames.{IsGrown}
use Rattle.isle_program.specs.Compiled.{IsProgramOf, max_levels, max_nodes}
use Rattle.isle_program.specs.Facts.Reach.{is_root}
use Rattle.isle_program.specs.Facts.Steps.{set_of, steps_in, steps_of}
use Rattle.isle_program.specs.Meanings.{checked, may_run, rule_shown}
use Rattle.isle_program.specs.Programs.{types_of, terms_of, rule_sets_of, set_trees_of}
use Rattle.isle_calls.specs.TreeCalls.{IsCompiled}
use Rattle.isle_program.specs.Trees.{AreSetTrees, IsSetTree, set_and_tree, tree_or_none}
use Rattle.isle_program.proofs.SoundPrograms.Agreeing.{rules_agree, terms_agree}
use Rattle.isle_program.proofs.SoundPrograms.Known.{sound_of}

-- a term's set that is there is found with a tree
found_for : (sets : List (TermId × RulesOverSites)) (trees : List BlockShown) (t : ℕ) (own : TermId × RulesOverSites) → AreSetTrees sets trees
    → Contains sets own → own.0.0 ≡ t → (found : RulesOverSites × BlockShown) × (set_and_tree sets trees t ≡ Some found)
found_for [] trees t own zip (k, low, at) e = absurd (omega (arith, low))
found_for (first ∷ sets) [] t own zip inside e = absurd zip
found_for (first ∷ sets) (tree ∷ trees) t own zip (zero, low, at) e =
    let here : first ≡ own = at in
    let same : first.0.0 ≡ t = ap (λ (x : TermId × RulesOverSites). x.0.0) here ∙ e in (
      (first.1, tree),
      ap (λ (b : Bool). if b then Some (first.1, tree) else set_and_tree sets trees t) (eq-eqb first.0.0 t same),
    )
found_for (first ∷ sets) (tree ∷ trees) t own zip (suc k, low, at) e =
    elim (first.0.0 == t)
    as (λ b. (found : RulesOverSites × BlockShown) × ((if b then Some (first.1, tree) else set_and_tree sets trees t) ≡ Some found)) [
      | true ↦ ((first.1, tree), refl)
      | false ↦ found_for sets trees t own zip.1 (k, omega (arith, low), at) e
    ]

-- what is found is a term's set and its tree
pub found_is : (sets : List (TermId × RulesOverSites)) (trees : List BlockShown) (t : ℕ) (found : RulesOverSites × BlockShown)
    → AreSetTrees sets trees
    → set_and_tree sets trees t ≡ Some found
    → (own : TermId × RulesOverSites) × Contains sets own × (own.0.0 ≡ t) × (own.1 ≡ found.0) × IsSetTree found.0 found.1
found_is [] trees t found zip e = absurd cc
found_is (first ∷ sets) [] t found zip e = absurd zip
found_is (first ∷ sets) (tree ∷ trees) t found zip e = elim (cases_eq first.0.0 t) [
  | inl same ↦
      let q : Some (first.1, tree) ≡ Some found =
      sym (ap (λ (b : Bool). if b then Some (first.1, tree) else set_and_tree sets trees t) (eq-eqb first.0.0 t same)) ∙ e in
      let its : (first.1, tree) ≡ found = cc in (
        first,
        (0, omega arith, refl),
        same,
        ap (λ (x : RulesOverSites × BlockShown). x.0) its,
        subst (λ (x : RulesOverSites × BlockShown). IsSetTree x.0 x.1) its zip.0,
      )
  | inr other ↦
      let q : set_and_tree sets trees t ≡ Some found =
      sym (ap (λ (b : Bool). if b then Some (first.1, tree) else set_and_tree sets trees t) (ne_eqb first.0.0 t other)) ∙ e in
      let (own, (k, low, at), of, set, is) = found_is sets trees t found zip.1 q in
      (own, (suc k, omega (arith, low), at), of, set, is)
]

-- the set is the term's
found_set : (sets : List (TermId × RulesOverSites)) (trees : List BlockShown) (t : ℕ) (found : RulesOverSites × BlockShown)
    → set_and_tree sets trees t ≡ Some found → set_of sets t ≡ Some found.0
found_set [] trees t found e = absurd cc
found_set (first ∷ sets) [] t found e = absurd cc
found_set (first ∷ sets) (tree ∷ trees) t found e = elim (first.0.0 == t)
    as (λ b. (if b then Some (first.1, tree) else set_and_tree sets trees t) ≡ Some found
    → (if b then Some first.1 else set_of sets t) ≡ Some found.0) [
      | true ↦ λ q. let its : (first.1, tree) ≡ found = cc in ap (λ (x : RulesOverSites × BlockShown). Some x.0) its
      | false ↦ λ q. found_set sets trees t found q
    ] e

-- the term of a rule of the table has rules
has_rules : (program : Program) (typed : List TypedRule) → (checked program).rules ≡ typed → (t : ℕ) → is_root (terms_of program) t ≡ true
    → HasRules typed t
has_rules program typed same t e =
    let shown : list_any (λ (rule : TypedRule). rule.root == t) (checked program).rules ≡ true =
    any-map (λ (rule : TypedRule). rule.root == t) (rule_shown (types_of program).names) (terms_of program).rules ∙ e in
    let (i, rule, at, root) = any_at (λ (rule : TypedRule). rule.root == t) (checked program).rules shown in
    record { place = i; rule = rule; at = ap (λ (l : List TypedRule). slice_get l i) (sym same) ∙ at; of_term = eqb-true rule.root t root }

-- a program of files
module _ (program : Program) (files : List SourceFile) (is : IsProgramOf files program) where
  -- its terms and types
  abbrev env : TermTables
  env = terms_of program

  -- its definitions
  abbrev pub defined : AreDefined env
  defined = record {
    tyenv = types_of program;
    types = is.types;
    levels = max_levels;
    max = max_nodes;
    defs = is.defs;
    once = is.once;
    shows = is.terms;
    few = is.few;
  }

  abbrev name : Sym → List ℕ
  name = name_by (types_of program).names

  -- its tables say what they do
  same_terms : (checked program).terms ≡ facts_by env defined
  same_terms = terms_agree (types_of program) env (declared_by is.types env.expands is.terms.environment) is.terms.declared

  same_rules : (checked program).rules ≡ rules_by env defined
  same_rules = rules_agree (types_of program).names is.terms.environment.rules env.rules is.terms.rules

  -- a tree that is found is that of the term
  of_found : (t : ℕ) → may_run program t → (found : RulesOverSites × BlockShown)
      → set_and_tree (rule_sets_of program) (set_trees_of program) t ≡ Some found
      → IsTreeOfSet (checked program) (may_run program) t name found.0 found.1
  of_found t may found e =
      let (own, (k, low, at), of, set, tree) = found_is (rule_sets_of program) (set_trees_of program) t found is.trees e in
      let its : IsTermSet env defined own = subst (IsTermSet env defined) at (is.sets.each k own low) in
      let of_term : IsSetOf (name_of env defined) (facts_by env defined) env.rules (rules_by env defined) t own.1 =
      subst (λ (u : ℕ). IsSetOf (name_of env defined) (facts_by env defined) env.rules (rules_by env defined) u own.1) of its.1 in
      let of_set : IsSetOf (name_of env defined) (facts_by env defined) env.rules (rules_by env defined) t found.0 =
      subst (IsSetOf (name_of env defined) (facts_by env defined) env.rules (rules_by env defined) t) set of_term in
      tree_is_of_term env defined t found.0 found.1 of_set tree.builds (checked program) (may_run program) same_terms same_rules
      (sound_of program).sound may

  -- and one is found
  some_found : (t : ℕ) → may_run program t
      → (found : RulesOverSites × BlockShown) × (set_and_tree (rule_sets_of program) (set_trees_of program) t ≡ Some found)
  some_found t may =
      let (set, inside) = is.sets.all t (has_rules program (rules_by env defined) same_rules t may.rules) in
      found_for (rule_sets_of program) (set_trees_of program) t (record { 0 = t }, set) is.trees inside refl

  -- so each term that can be run has its tree
  tree_for : (t : ℕ) → may_run program t → (o : Option (RulesOverSites × BlockShown))
      → set_and_tree (rule_sets_of program) (set_trees_of program) t ≡ o
      → (its : IsTermTree (checked program) (may_run program) t (tree_or_none name o))
      × ((found : RulesOverSites × BlockShown) → o ≡ Some found → HaveEachRule found.0 its.left
      × (steps_at_most its.set its.left ≡ set_steps found.0))
  tree_for t may None e = let (found, q) = some_found t may in absurd (let z : None ≡ Some found = sym e ∙ q in cc)
  tree_for t may (Some found) e =
      let (its, left, few) = of_found t may found e in (
        its,
        λ other q. let same : found ≡ other = cc in
            subst (λ (x : RulesOverSites × BlockShown). HaveEachRule x.0 its.left × (steps_at_most its.set its.left ≡ set_steps x.0)) same
            (left, few),
      )

  -- a term's rules take no more steps than its rule set says
  few_steps : (t : ℕ) (may : may_run program t)
      → (let its = (tree_for t may (set_and_tree (rule_sets_of program) (set_trees_of program) t) refl).0 in
      steps_at_most its.set its.left ≡ steps_in (rule_sets_of program) t)
  few_steps t may =
      let (found, e) = some_found t may in
      ((tree_for t may (set_and_tree (rule_sets_of program) (set_trees_of program) t) refl).1 found e).1
      ∙ sym (ap steps_of (found_set (rule_sets_of program) (set_trees_of program) t found e))

  grown_by : IsGrown program
  grown_by = record {
    trees = record {
      of_term = λ t may. (tree_for t may (set_and_tree (rule_sets_of program) (set_trees_of program) t) refl).0;
    };
    returns = λ t found e.
        let (own, inside, of, set, tree) = found_is (rule_sets_of program) (set_trees_of program) t found is.trees e in tree.returns;
    left = λ t may found e. ((tree_for t may (set_and_tree (rule_sets_of program) (set_trees_of program) t) refl).1 found e).0;
    few = few_steps;
  }

-- The trees of a compiled program are those of its terms.
pub compiled_grown : (program : Program) → IsCompiled program → IsGrown program
compiled_grown program c = grown_by program c.files c.is
