-- What a step of the builder finds where the best test is known, over plain variables.
use Rattle.std.proofs.Common.{◌≡◌, ℕ, ◌<◌, List, Some, None, length, drop, get_or, slice_get, sym, ◌∙◌, ap, subst}
use Rattle.isle_trees.specs.Rules.{Elem, has, one_value}
use Rattle.isle_trees.specs.Scopes.{Scope, Test, on_loop, counts, is_want, release}
use Rattle.isle_trees.specs.Ranking.{AreWithin}
use Rattle.isle_trees.specs.Search.{IsInOrder}
use Rattle.isle_trees.specs.Builds.{wanting}
use Rattle.isle_trees.proofs.Basics.{counted_has, from_filter, one_of, others_left}
use Rattle.isle_trees.proofs.Building.Lists.{drop_elem, elem_at}
use Rattle.isle_trees.proofs.Building.InOrder.{counted_in_order, others_in_order}
use Rattle.isle_trees.proofs.Building.Sorting.{best_within}
use Rattle.isle_blocks.specs.declared.constraint.Constraint.{Constraint}
use Rattle.isle_blocks.specs.declared.serializer.work.Open.{Open}
use Rattle.isle_blocks.specs.RuleSets.{RulesOverSites}
use Rattle.isle_blocks.specs.Inside.Trees.Builder.{IsSerializable, rules_in, scope_of}
use Rattle.isle_blocks.specs.Trees.View.{has_loop, read_or, test_at, want_at}
use Rattle.isle_blocks.specs.Inside.Trees.Work.{AreRules, IsSplit}
use Rattle.isle_blocks.proofs.Trees.Reading.{read_some, test_want, want_test}

module _ (set : RulesOverSites) (o : Open) (t : Test) (chosen rest : List ℕ) (split : IsSplit set o t chosen rest) where
  -- its sites are the set's
  pub test_within : IsSerializable set → AreWithin t (length set.sites)
  test_within good = best_within (rules_in set) (length set.sites) o.left.items (scope_of set o.known) t good.within split.best

  -- those that it counts, and the others, are in order, and the set's rules
  pub chosen_ordered : IsInOrder (rules_in set) chosen
  chosen_ordered = counted_in_order (rules_in set) t o.left.items chosen split.chosen_is split.open_is.order

  pub rest_ordered : IsInOrder (rules_in set) rest
  rest_ordered = others_in_order (rules_in set) t o.left.items rest split.rest_is split.open_is.order

  pub chosen_left : (i : ℕ) → Elem i chosen → Elem i o.left.items
  chosen_left i m = (from_filter (counts (rules_in set) t o.left.items) o.left.items i (subst (λ (l : List ℕ). Elem i l) split.chosen_is m)).0

  pub chosen_rules : AreRules set chosen
  chosen_rules i m = split.open_is.rules i (chosen_left i m)

  pub rest_left : (i : ℕ) → Elem i rest → Elem i o.left.items
  rest_left i m = others_left (rules_in set) t o.left.items i (subst (λ (l : List ℕ). Elem i l) split.rest_is m)

  pub rest_rules : AreRules set rest
  rest_rules i m = split.open_is.rules i (rest_left i m)

-- what a copy is released to
pub released_copy : (copy mid last : Scope Constraint) (s : ℕ) → copy ≡ mid → last ≡ release copy s → last ≡ release mid s
released_copy copy mid last s e f = f ∙ ap (λ (x : Scope Constraint). release x s) e

-- a rule that a loop counts takes one value
pub loop_wants : (set : RulesOverSites) (o : Open) (s : ℕ) (chosen rest : List ℕ) → IsSplit set o (on_loop s) chosen rest → (i : ℕ) → Elem i chosen
    → (rules_in set).at i s ≡ Some one_value
loop_wants set o s chosen rest split i m =
    one_of ((rules_in set).at i s)
    ((counted_has (rules_in set) (on_loop s) o.left.items i (subst (λ (l : List ℕ). Elem i l) split.chosen_is m)).1)

-- the first of those that a test counts is one of them
pub first_chosen : (set : RulesOverSites) (o : Open) (t : Test) (chosen rest : List ℕ) → IsSplit set o t chosen rest → Elem (get_or chosen 0 0) chosen
first_chosen set o t chosen rest split =
    elem_at chosen 0 0 (subst (λ (l : List ℕ). 0 < length l) (sym split.chosen_is) split.best.useful)

-- a rule's test of a site is what it wants, and what it wants is its test
pub test_wanted : (set : RulesOverSites) (i s : ℕ) (c : Constraint) → (rules_in set).at i s ≡ Some (has c)
    → read_or None (test_at s) (slice_get set.rules i) ≡ Some c
test_wanted set i s c e =
    let (r, at, w) = read_some (want_at s) (slice_get set.rules i) (has c) e in
    rw at (want_test (has_loop s r) (test_at s r) c w)

pub wanted_test : (set : RulesOverSites) (i s : ℕ) (c : Constraint) → read_or None (test_at s) (slice_get set.rules i) ≡ Some c
    → (rules_in set).at i s ≡ Some (has c)
wanted_test set i s c e =
    let (r, at, t) = read_some (test_at s) (slice_get set.rules i) c e in
    rw at (test_want (has_loop s r) (test_at s r) c t)

-- rules of a group from a place on are of the group
pub run_left : (set : RulesOverSites) (s start : ℕ) (c : Constraint) (group rules : List ℕ) → rules ≡ wanting (rules_in set) s c (drop start group)
    → (i : ℕ) → Elem i rules → Elem i group
run_left set s start c group rules e i m =
    drop_elem i start group
    ((from_filter (λ j. is_want (rules_in set).tests (has c) ((rules_in set).at j s)) (drop start group) i (subst (λ (l : List ℕ). Elem i l) e m)).0)

pub run_rules : (set : RulesOverSites) (s start : ℕ) (c : Constraint) (group rules : List ℕ) → rules ≡ wanting (rules_in set) s c (drop start group)
    → AreRules set group → AreRules set rules
run_rules set s start c group rules e h i m = h i (run_left set s start c group rules e i m)
