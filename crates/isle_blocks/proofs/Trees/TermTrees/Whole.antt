-- The tree that is built of a term's rule set is that of the term's rules.
use Rattle.std.proofs.Common.{◌≡◌, ℕ, List, [], true, length, refl, sym, subst, ap, ◌∙◌}
use Rattle.std.proofs.lemmas.Option.{slice_get_within}
use Rattle.isle_types.specs.declared.ids.Sym.{Sym}
use Rattle.isle_rules.specs.declared.rules.Rule as source
use Rattle.isle_rules.specs.Shown.TermTables.{TermTables}
use Rattle.isle_rules.specs.TypedRules.{TypedRule}
use Rattle.isle_meaning.specs.Facts.{TermFacts}
use Rattle.isle_meaning.specs.Held.{Held}
use Rattle.isle_meaning.specs.Sites.{Site}
use Rattle.isle_meaning.specs.Sorts.{plain_sort, sort}
use Rattle.isle_meaning.specs.Machine.Trees.{IsTermTree, option_sort_if}
use Rattle.isle_meaning.specs.SoundPrograms.{IsSound}
use Rattle.isle_meaning.specs.Worlds.{CheckedProgram}
use Rattle.isle_trees.specs.Builds.{Builds, IsTreeOf}
use Rattle.isle_trees.specs.Rules.{Asked, Elem, Rules, Used}
use Rattle.isle_trees.specs.Scopes.{nothing_known}
use Rattle.isle_trees.proofs.Whole.{whole_closed}
use Rattle.isle_trees.proofs.Building.Lists.{elem_below}
use Rattle.isle_blocks.specs.declared.constraint.Constraint.{Constraint}
use Rattle.isle_blocks.specs.DefinedSets.{AreDefined, IsSetOf, facts_by, name_of, rules_by}
use Rattle.isle_blocks.specs.Rows.{IsInjective}
use Rattle.isle_blocks.specs.RuleSets.{RulesOverSites}
use Rattle.isle_blocks.specs.Trees.Choices.{HavePriorities}
use Rattle.isle_blocks.specs.Trees.Premises.{IsRunnableSet}
use Rattle.isle_blocks.specs.Trees.Promises.{IsBuilt, all_rules}
use Rattle.isle_blocks.specs.Trees.Shown.{BlockShown}
use Rattle.isle_blocks.specs.Trees.SiteTrees.{tree_of}
use Rattle.isle_blocks.specs.Trees.TermTrees.{IsTreeOfSet, TreesAreOfTerms, term_tree}
use Rattle.isle_blocks.specs.Trees.View.{rules_of}
use Rattle.isle_blocks.proofs.Building.Naming.{name_by_injective}
use Rattle.isle_blocks.proofs.Trees.Chosen.{no_done}
use Rattle.isle_blocks.proofs.Trees.Defined.{definitions_have_priorities}
use Rattle.isle_blocks.proofs.Trees.Effects.{is_single}
use Rattle.isle_blocks.proofs.Trees.Exact.{met_passes, passed_meets}
use Rattle.isle_blocks.proofs.Trees.Listed.{are_listed, no_iterator, site_kinded, uses_no_multi}
use Rattle.isle_blocks.proofs.Trees.Matched.{knows_asked}
use Rattle.isle_blocks.proofs.Trees.Promises.TypedHeld.{values_count}
use Rattle.isle_blocks.proofs.Trees.Respected.{respects}
use Rattle.isle_blocks.proofs.Trees.TermTrees.Rules.{all_are, all_joins_are, all_wants_are, calls_are, joined_are, joins_are, listed_are}
use Rattle.isle_blocks.proofs.Trees.TermTrees.Rules.{place_at, priorities_are, result_are, rule_at, used_stand, wants_are}
use Rattle.isle_blocks.proofs.Trees.TermTrees.Tables.{bound_are, effects_are, opened_are_there, opens_are, parts_are, parts_are_there, parts_beyond, row_stands}
use Rattle.isle_blocks.proofs.Trees.TermTrees.Tables.{sites_are, tree_once}
use Rattle.isle_blocks.proofs.Trees.TermTrees.Typing.{called_are, extracts_are, impure_are, inputs_are, makes_are, pure_are, result_is_typed, runnable}
use Rattle.isle_blocks.proofs.Trees.TermTrees.Typing.{singles_are}
use Rattle.isle_blocks.proofs.Trees.TermTrees.Counted.{steps_counted}
use Rattle.isle_blocks.proofs.Trees.WellMade.{made_rule, no_loops, well_made}

module _ (name : Sym → List ℕ) (injective : IsInjective name) (p : CheckedProgram) (run : ℕ → Type 0) (sound : IsSound p run)
    (sources : List source.Rule) (priorities : HavePriorities sources p.rules) (term : ℕ) (runs : run term) (set : RulesOverSites)
    (is : IsSetOf name p.terms sources p.rules term set) (block : BlockShown)
    (built : Builds (rules_of name set) (all_rules set) nothing_known block.tree) where
  -- the set as trees see it
  abbrev R : Rules Constraint Held
  R = rules_of name set

  -- the set is that of a runnable term
  abbrev h : IsRunnableSet name p.terms sources p.rules term set
  h = runnable name p run sound sources term runs set is injective

  -- the typed rule of each
  abbrev rule : ℕ → TypedRule
  rule i = rule_at p.rules is.places i

  -- a number's tree
  abbrev tree : ℕ → Site
  tree = tree_of name set.sites

  -- the set, and its tree
  set_tree : IsTreeOf R (all_rules set) block.tree
  set_tree = record {
    made = well_made name p.terms sources p.rules term set h;
    single = is_single name p.terms sources p.rules term set h;
    no_multi = uses_no_multi name p.terms sources p.rules term set h (all_rules set);
    builds = built;
  }

  -- a rule's result is of the term's type
  gives_its_type : (i : ℕ) → Elem i (all_rules set)
      → sort p.terms (p.terms.inputs term) (tree_of name set.sites ((rules_of name set).result i))
      ≡ option_sort_if (p.terms.partial term) (plain_sort (p.terms.type_of term))
  gives_its_type i left =
      let its = listed_are name p sources term set h i left in
      ap (sort p.terms (p.terms.inputs term)) (result_are name p sources term set h i left)
      ∙ result_is_typed name p run sound sources term runs set is (place_at is.places i) (rule i) its.listed its.of_term

  -- the tree is that of the term's rules
  abbrev is_tree : IsTermTree p run term (term_tree name set block)
  is_tree = record {
    set = rules_of name set;
    left = all_rules set;
    rule = λ i. rule_at p.rules is.places i;
    place = λ i. place_at is.places i;
    site = tree_of name set.sites;
    tree = set_tree;
    fields = are_listed name p.terms sources p.rules term set h;
    tests = λ c x. (passed_meets name c x, met_passes name c x);
    closed = whole_closed R (all_rules set) block.tree (well_made name p.terms sources p.rules term set h)
        (are_listed name p.terms sources p.rules term set h) built;
    sited = sites_are name set.sites is.table;
    parts = parts_are name set.sites;
    beyond = parts_beyond name set.sites;
    effects = effects_are name set.sites;
    bound = bound_are name set.sites;
    opens = λ k row m at made. opens_are name set.sites (no_iterator name p.terms sources p.rules term set h) set.rules k row m at made;
    opened_there = opened_are_there name set.sites set.rules;
    single = singles_are name p run sound sources term runs set is;
    listed = listed_are name p sources term set h;
    all = all_are name p sources term set h;
    priority = priorities_are name p sources term set h priorities;
    wants = wants_are name p sources term set h;
    all_wants = all_wants_are name p sources term set h;
    joins = joins_are name p sources term set h;
    joined = joined_are name p sources term set h;
    all_joins = all_joins_are name p sources term set h;
    calls = calls_are name p sources term set h;
    result = result_are name p sources term set h;
    returned = λ i left. refl;
    whole = λ i s left inside. used_stand name p sources term set h i s left (Used.by_right s inside);
    once = tree_once name set.sites is.table injective;
    stand = parts_are_there name set.sites is.table;
    tested = λ i s x left e. used_stand name p sources term set h i s left (Used.by_asked s (Asked.by_demand s x e));
    grouped = λ i s u left e. used_stand name p sources term set h i s left (Used.by_asked s (Asked.by_class s u e));
    pure = pure_are name p run sound sources term runs set is;
    impure = impure_are name p run sound sources term runs set is;
    kinded = λ k row at. site_kinded name p.terms sources p.rules term set h (tree k) k (row_stands name set.sites is.table k row at);
    called = called_are name p run sound sources term runs set is;
    inputs = inputs_are name p run sound sources term runs set is;
    extracts = extracts_are name p run sound sources term runs set is;
    makes = makes_are name p run sound sources term runs set is;
    gives_type = gives_its_type;
    respects = λ c args allowed typed own. respects name p.terms sources p.rules term set h c args [] allowed
        (values_count p.values args (p.terms.inputs term) own) (no_done name set p.terms);
    asked = λ c args allowed typed own covers. knows_asked name p.terms sources p.rules term set h c args []
        (λ place rule at root. covers place rule (record { listed = at; of_term = root }));
  }

  -- each rule of the set is left, and they take as many steps at most as the set says
  pub tree_of_set : IsTreeOfSet p run term name set block
  tree_of_set = (
    is_tree,
    λ i rule at. elem_below i (length set.rules) (slice_get_within set.rules i rule at),
    steps_counted name set (λ i r at s.
        let (place, m) = made_rule name p.terms sources p.rules term set h i r at in no_loops name p.terms sources p.rules term set h place r m s),
  )

-- So is that of each term of definitions that a sound program of them runs.
pub tree_is_of_term : (env : TermTables) (d : AreDefined env) (term : ℕ) (set : RulesOverSites) (block : BlockShown)
    → IsSetOf (name_of env d) (facts_by env d) env.rules (rules_by env d) term set → IsBuilt set block
    → (p : CheckedProgram) (run : ℕ → Type 0) → p.terms ≡ facts_by env d → p.rules ≡ rules_by env d → IsSound p run → run term
    → IsTreeOfSet p run term (name_of env d) set block
tree_is_of_term env d term set block is built p run same_terms same_rules sound runs =
    let name = name_of env d in
    let by_terms = subst (λ (f : TermFacts). IsSetOf name f env.rules (rules_by env d) term set) (sym same_terms) is in
    let whole = subst (λ (rules : List TypedRule). IsSetOf name p.terms env.rules rules term set) (sym same_rules) by_terms in
    let priorities = subst (HavePriorities env.rules) (sym same_rules) (definitions_have_priorities env d) in
    tree_of_set name (name_by_injective d.tyenv.names d.once) p run sound env.rules priorities term runs set whole block (built name)

pub trees_are_of_terms : TreesAreOfTerms
trees_are_of_terms env d term set block is built p run same_terms same_rules sound runs =
    tree_is_of_term env d term set block is built p (λ t. run t ≡ true) same_terms same_rules sound runs
