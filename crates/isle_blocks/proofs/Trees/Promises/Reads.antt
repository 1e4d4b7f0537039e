-- What the steps of a rule set's tree read, and what its arms bind.
use Rattle.std.proofs.Common.{◌≡◌, ℕ, List, [], ◌∷◌, Bool, false, Some, map, ◌∙◌}
use Rattle.isle_types.specs.declared.ids.Sym.{Sym}
use Rattle.isle_meaning.specs.Held.{Held}
use Rattle.isle_trees.specs.Builds.{wanting, not_wanting, without, Returns, Builds, BuildsArms}
use Rattle.isle_trees.specs.Reads.{more, know, know_fields, IsReadable, is_bound, computed, IsInOrder, IsClosed, AreClosed}
use Rattle.isle_trees.specs.Rules.{has, one_value, Rules}
use Rattle.isle_trees.specs.Scopes.{Scope, join, release, inside, on_match, on_equal, on_loop, counted, others}
use Rattle.isle_trees.specs.Tree.{Steps, done, «match», equal, loop, give, Arms, no_arm, arm}
use Rattle.isle_trees.proofs.Whole.{whole_closed, whole_fields}
use Rattle.isle_blocks.specs.declared.binding.Binding.{Binding}
use Rattle.isle_blocks.specs.declared.constraint.Constraint.{Constraint}
use Rattle.isle_blocks.specs.Constraints.{bindings_made}
use Rattle.isle_blocks.specs.DefinedSets.{facts_by, name_of, rules_by}
use Rattle.isle_blocks.specs.RuleSets.{RulesOverSites}
use Rattle.isle_blocks.specs.Trees.ElaboratedSets.{IsElaboratedSet}
use Rattle.isle_blocks.specs.Trees.Promises.{all_rules, IsBuilt, IsCheckedSet}
use Rattle.isle_blocks.specs.Trees.ReadPromises.{ReadsWhatIsBound, BindsFields, ArmsBindFields, BindsItsFields, BindsFieldsByTests}
use Rattle.isle_blocks.specs.Trees.Shown.{BlockShown}
use Rattle.isle_blocks.specs.Trees.View.{id_of, place_of, rules_of}
use Rattle.isle_blocks.proofs.Trees.Bags.DefinedMany.{built_sets_are_elaborated}
use Rattle.isle_blocks.proofs.Trees.Elaborated as any_set
use Rattle.isle_blocks.proofs.Trees.Found.{fields_looked_up}
use Rattle.isle_blocks.proofs.Trees.Used.{has_its_tests}
use Rattle.isle_blocks.proofs.Trees.WellMade.{well_made}

-- ---- what is at hand asks no names

module _ (name other : Sym → List ℕ) (set : RulesOverSites) where
  readable_named : (env : ℕ → Bool) (s : ℕ) → IsReadable (rules_of name set) env s → IsReadable (rules_of other set) env s
  readable_named env _ (IsReadable.is_bound s e) = is_bound s e
  readable_named env _ (IsReadable.computed s n parts) = computed s n (λ p m. readable_named env p (parts p m))

  order_named : (env : ℕ → Bool) (xs : List ℕ) → IsInOrder (rules_of name set) env xs → IsInOrder (rules_of other set) env xs
  order_named env [] o = tt
  order_named env (x ∷ xs) o = (o.0, (λ p m. readable_named env p (o.1 p m)), order_named (more env x) xs (o.2))

  mutual
    -- Nor does whether each step reads what is at hand.
    pub closed_named : (env : ℕ → Bool) (T : Steps Constraint) → IsClosed (rules_of name set) env T → IsClosed (rules_of other set) env T
    closed_named env done c = tt
    closed_named env («match» binds s arms next) c = (
      order_named env binds (c.0),
      (
        readable_named (know env binds) s (c.1.0),
        (arms_named (know env binds) s arms (c.1.1.0), closed_named (know env binds) next (c.1.1.1)),
      ),
    )
    closed_named env (equal binds a b body next) c = (
      order_named env binds (c.0),
      (
        readable_named (know env binds) a (c.1.0),
        (
          readable_named (know env binds) b (c.1.1.0),
          (closed_named (know env binds) body (c.1.1.1.0), closed_named (know env binds) next (c.1.1.1.1)),
        ),
      ),
    )
    closed_named env (loop binds x body next) c = (
      order_named env binds (c.0),
      (c.1.0, (closed_named (more (know env binds) x) body (c.1.1.0), closed_named (know env binds) next (c.1.1.1))),
    )
    closed_named env (give binds i next) c =
        (order_named env binds (c.0), (readable_named (know env binds) _ (c.1.0), closed_named (know env binds) next (c.1.1)))

    pub arms_named : (env : ℕ → Bool) (s : ℕ) (arms : Arms Constraint) → AreClosed (rules_of name set) env s arms
        → AreClosed (rules_of other set) env s arms
    arms_named env s no_arm c = tt
    arms_named env s (arm test bindings body later) c =
        (c.0, (closed_named (know_fields env bindings) body (c.1.0), arms_named env s later (c.1.1)))

-- ---- the fields of arms

module _ (name : Sym → List ℕ) (set : RulesOverSites)
    (look : (i s : ℕ) (c : Constraint) → (rules_of name set).at i s ≡ Some (has c)
    → (rules_of name set).fields s c ≡ map (λ (b : Binding). place_of b set.sites) (bindings_made c (id_of s))) where
  -- the set as trees see it
  abbrev R : Rules Constraint Held
  R = rules_of name set

  returns_bind : (T : Steps Constraint) (left : List ℕ) (sc : Scope Constraint) → Returns R left sc T → BindsFields set.sites T
  returns_bind done left sc b = tt
  returns_bind («match» binds s arms next) left sc b = absurd b
  returns_bind (equal binds x y body next) left sc b = absurd b
  returns_bind (loop binds x body next) left sc b = absurd b
  returns_bind (give binds i next) left sc (first, (after, each, rest)) = returns_bind next (without i left) after rest

  mutual
    -- Where fields are looked up, the arms of a tree that is built bind them.
    pub steps_bind : (T : Steps Constraint) (left : List ℕ) (sc : Scope Constraint) → Builds R left sc T → BindsFields set.sites T
    steps_bind done left sc b = tt
    steps_bind (give binds i next) left sc b = returns_bind (give binds i next) left sc (b.1)
    steps_bind («match» binds s arms next) left sc (best, (after, bs, inner, rest)) =
        (arms_bind arms (counted R (on_match s) left) after s inner, steps_bind next (others R (on_match s) left) after rest)
    steps_bind (equal binds x y body next) left sc (best, (after, bs, inner, rest)) =
        (steps_bind body (counted R (on_equal x y) left) (join after x y) inner, steps_bind next (others R (on_equal x y) left) after rest)
    steps_bind (loop binds x body next) left sc (s, value, best, (after, bs, inner, rest)) = (
      steps_bind body (counted R (on_loop s) left) (inside R after s one_value) inner,
      steps_bind next (others R (on_loop s) left) (release after s) rest,
    )

    pub arms_bind : (arms : Arms Constraint) (left : List ℕ) (sc : Scope Constraint) (s : ℕ) → BuildsArms R left sc s arms
        → ArmsBindFields set.sites s arms
    arms_bind no_arm left sc s b = tt
    arms_bind (arm c bindings body later) left sc s b = (
      b.1 ∙ look (b.0.0.0) s c (b.0.0.2),
      steps_bind body (wanting R s c left) (inside R sc s (has c)) (b.2),
      arms_bind later (not_wanting R s c left) sc s (b.3),
    )

-- ---- what is promised

-- A set that `check` gives has rules as elaboration makes them.
pub checked_elaborated : (set : RulesOverSites) (h : IsCheckedSet set)
    → IsElaboratedSet (name_of h.env h.defined) (facts_by h.env h.defined) h.env.rules (rules_by h.env h.defined) h.term.0 set
checked_elaborated set h = built_sets_are_elaborated h.env h.defined h.term.0 set (h.is.1)

pub built_reads : (set : RulesOverSites) (block : BlockShown) → IsCheckedSet set → IsBuilt set block → ReadsWhatIsBound set block
built_reads set block h built name =
    let own = name_of h.env h.defined in
    let facts = facts_by h.env h.defined in
    let rules = rules_by h.env h.defined in
    let is = checked_elaborated set h in
    closed_named own name set (λ s. false) block.tree
    (whole_closed (rules_of own set) (all_rules set) block.tree (any_set.well_made own facts h.env.rules rules h.term.0 set is)
    (any_set.are_listed own facts h.env.rules rules h.term.0 set is) (built own))

pub built_fields : (set : RulesOverSites) (block : BlockShown) → IsCheckedSet set → IsBuilt set block → BindsItsFields set block
built_fields set block h built =
    let own = name_of h.env h.defined in
    let facts = facts_by h.env h.defined in
    let rules = rules_by h.env h.defined in
    let is = checked_elaborated set h in
    steps_bind own set
    (fields_looked_up own set (any_set.well_made own facts h.env.rules rules h.term.0 set is)
    (any_set.opening_is own facts h.env.rules rules h.term.0 set is))
    block.tree (all_rules set) _ (built own)

pub built_by_tests : (set : RulesOverSites) (block : BlockShown) → IsBuilt set block → BindsFieldsByTests set block
built_by_tests set block built env d term is =
    whole_fields (rules_of (name_of env d) set) (all_rules set) block.tree
    (well_made (name_of env d) (facts_by env d) env.rules (rules_by env d) term set is)
    (has_its_tests (name_of env d) (facts_by env d) env.rules (rules_by env d) term set is) (built (name_of env d))
