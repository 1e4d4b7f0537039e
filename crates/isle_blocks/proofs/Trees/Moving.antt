-- What laying out a node does to what is still to be laid out.
use Rattle.std.proofs.Common.{◌≡◌, ℕ, ◌++◌, List, [], ◌∷◌, Option, Some, refl, sym, ◌∙◌, ap, subst, arith, drop, append_assoc}
use Rattle.std.proofs.lemmas.List.{append-nil}
use Rattle.isle_trees.specs.Bag.{IsSameBag}
use Rattle.isle_trees.specs.Rules.{has, one_value}
use Rattle.isle_trees.specs.Scopes.{Scope, release, join, inside, on_match, on_equal, on_loop}
use Rattle.isle_trees.specs.Builds.{Builds, BuildsArms, HasNoTest}
use Rattle.isle_trees.specs.Counting.{weight}
use Rattle.isle_trees.specs.Ranking.{Emits}
use Rattle.isle_trees.specs.Search.{IsRun}
use Rattle.isle_trees.proofs.Basics.{some_elem}
use Rattle.isle_trees.proofs.Weight.{first_weighs}
use Rattle.isle_trees.proofs.Building.Reorder.{same_arms, same_weight}
use Rattle.isle_trees.proofs.Building.Sorting.{chosen_some, equal_builds, loop_builds, match_builds, one_arm, returns_build}
use Rattle.isle_trees.proofs.Building.Weights.{after_weighs, arm_share, joined_less, loop_same, looped_less, rest_share, useful_weighs}
use Rattle.isle_blocks.specs.declared.ids.BindingId.{BindingId}
use Rattle.isle_blocks.specs.declared.constraint.Constraint.{Constraint}
use Rattle.isle_blocks.specs.declared.serializer.node.Node.{Node}
use Rattle.isle_blocks.specs.declared.serializer.node.Node.TheVariants as nodes
use Rattle.isle_blocks.specs.declared.serializer.work.Open.{Open}
use Rattle.isle_blocks.specs.declared.serializer.work.Task.{Task}
use Rattle.isle_blocks.specs.declared.serializer.work.Task.TheVariants as tasks
use Rattle.isle_blocks.specs.RuleSets.{RulesOverSites}
use Rattle.isle_blocks.specs.Rows.{numbers_of}
use Rattle.isle_blocks.specs.Trees.Nodes.{fields_of, first_arms, first_steps, later, Piece, put, read}
use Rattle.isle_blocks.specs.Inside.Trees.Builder.{IsSerializable, rules_in, scope_of}
use Rattle.isle_blocks.specs.Inside.Trees.Work.{AreArms, AreReturns, IsDue, IsFan, IsOfRule, IsOpen, IsSplit, Moves, task_size, WantsArms, WantsBlock}
use Rattle.isle_blocks.proofs.Trees.Working.{sizes_two, told_one}

-- a step that matches a site
pub moved_match : (set : RulesOverSites) (o arms : Open) (chosen rest : List ℕ) (s : BindingId) (after : Scope Constraint) (old : List ℕ)
    (binds : List BindingId) (node : Node) (w0 w1 w2 : List Task) (n0 n1 : List Node)
    → IsSplit set o (on_match s.0) chosen rest → Emits (rules_in set) (scope_of set o.known) (s.0 ∷ []) old (numbers_of binds) after → old ≡ []
    → node ≡ nodes.Match binds s → n1 ≡ n0 ++ node ∷ [] → WantsBlock set rest after w0 w1
    → AreArms set s.0 arms.left.items arms.known arms.marks (numbers_of arms.ready.items) → scope_of set arms.known ≡ after
    → IsSameBag chosen arms.left.items
    → w2 ≡ w1 ++ tasks.Arms s 0 arms ∷ [] → Moves set (tasks.Block o) w0 w2 n0 n1
moved_match set o arms chosen rest s after old binds node w0 w1 w2 n0 n1 split emits none is e want fan at same f =
    let R = rules_in set in
    let sc = scope_of set o.known in
    let best = split.best in
    let again = after_weighs R sc after emits.all emits.ending in
    let share = rest_share R o.left.items chosen rest sc after (on_match s.0) again split.chosen_is split.rest_is in
    let useful = useful_weighs R o.left.items chosen sc after (on_match s.0) best split.chosen_is in
    let g : weight R (scope_of set arms.known) arms.left.items ≡ weight R after chosen =
    ap (λ (x : Scope Constraint). weight R x arms.left.items) at ∙ sym (same_weight R after chosen arms.left.items same) in
    let two = sizes_two set want.task (tasks.Arms s 0 arms) in
    let z = want.size in
    record {
      tasks = want.task ∷ tasks.Arms s 0 arms ∷ [];
      added = node ∷ [];
      work = f ∙ ap (λ (x : List Task). x ++ tasks.Arms s 0 arms ∷ []) want.work ∙ append_assoc w0 (want.task ∷ []) (tasks.Arms s 0 arms ∷ []);
      nodes = e;
      valid = (
        want.valid,
        (
          record {
            arms = fan;
            more = chosen_some R o.left.items chosen arms.left.items sc
                (on_match s.0) best split.chosen_is same;
          },
          tt,
        ),
      );
      told = told_one set node (subst (IsOfRule set) (sym is) tt);
      smaller = omega arith;
      due = λ pieces d.
          let P : Node → Type 0 = λ x. Builds R o.left.items sc (first_steps (put x pieces)) in
          let A : Scope Constraint → Type 0 = λ x. BuildsArms R arms.left.items x s.0 (first_arms pieces) in
          let B : List ℕ → Type 0 = λ l. Builds R l after (first_steps (later pieces)) in
          let inner : BuildsArms R chosen after s.0 (first_arms pieces) =
          same_arms R (first_arms pieces) arms.left.items chosen after s.0 (λ h. sym (same h)) (subst A at d.0.1) in
          subst P (sym is)
          (match_builds R o.left.items chosen sc after s.0 old (numbers_of binds) (first_arms pieces) (first_steps (later pieces)) best none emits
          split.chosen_is inner (subst B split.rest_is (want.due (later pieces) d.1)));
      rest = λ pieces. let P : Node → Type 0 = λ x. later (put x pieces) ≡ later (later pieces) in subst P (sym is) refl;
    }

-- a step that compares two sites
pub moved_equal : (set : RulesOverSites) (o : Open) (chosen rest : List ℕ) (a b : BindingId) (after inner : Scope Constraint) (old : List ℕ)
    (binds : List BindingId) (node : Node) (w0 w1 w2 : List Task) (n0 n1 : List Node)
    → IsSerializable set → IsSplit set o (on_equal a.0 b.0) chosen rest
    → Emits (rules_in set) (scope_of set o.known) (a.0 ∷ b.0 ∷ []) old (numbers_of binds) after → old ≡ [] → node ≡ nodes.Equal binds a b
    → n1 ≡ n0 ++ node ∷ [] → WantsBlock set rest after w0 w1 → inner ≡ join after a.0 b.0 → WantsBlock set chosen inner w1 w2
    → Moves set (tasks.Block o) w0 w2 n0 n1
moved_equal set o chosen rest a b after inner old binds node w0 w1 w2 n0 n1 good split emits none is e want in_is body =
    let R = rules_in set in
    let sc = scope_of set o.known in
    let best = split.best in
    let again = after_weighs R sc after emits.all emits.ending in
    let share = rest_share R o.left.items chosen rest sc after (on_equal a.0 b.0) again split.chosen_is split.rest_is in
    let less = joined_less R o.left.items chosen sc after inner a.0 b.0 emits.all good.grouped best emits.ending split.chosen_is in_is in
    let two = sizes_two set want.task body.task in
    let z = want.size in
    let y = body.size in
    record {
      tasks = want.task ∷ body.task ∷ [];
      added = node ∷ [];
      work = body.work ∙ ap (λ (x : List Task). x ++ body.task ∷ []) want.work ∙ append_assoc w0 (want.task ∷ []) (body.task ∷ []);
      nodes = e;
      valid = (want.valid, (body.valid, tt));
      told = told_one set node (subst (IsOfRule set) (sym is) tt);
      smaller = omega arith;
      due = λ pieces d.
          let P : Node → Type 0 = λ x. Builds R o.left.items sc (first_steps (put x pieces)) in
          let B : List ℕ → Type 0 = λ l. Builds R l after (first_steps (later pieces)) in
          let after_it : Builds R rest after (first_steps (later pieces)) = want.due (later pieces) d.1 in
          subst P (sym is)
          (equal_builds R o.left.items chosen sc after inner a.0 b.0 old (numbers_of binds) (first_steps pieces)
          (first_steps (later pieces)) best none emits
          split.chosen_is in_is (body.due pieces d.0.1) (subst B split.rest_is after_it));
      rest = λ pieces. let P : Node → Type 0 = λ x. later (put x pieces) ≡ later (later pieces) in subst P (sym is) refl;
    }

-- a step that takes one value of a multi call
pub moved_loop : (set : RulesOverSites) (o : Open) (chosen rest : List ℕ) (s x : BindingId) (freed after inner last : Scope Constraint) (old : List ℕ)
    (binds : List BindingId) (node : Node) (w0 w1 w2 : List Task) (n0 n1 : List Node)
    → IsSerializable set → IsSplit set o (on_loop s.0) chosen rest → freed ≡ release (scope_of set o.known) s.0
    → Emits (rules_in set) freed (s.0 ∷ []) old (numbers_of binds) after → old ≡ [] → (rules_in set).value s.0 ≡ Some x.0
    → node ≡ nodes.Loop binds x → n1 ≡ n0 ++ node ∷ [] → last ≡ release after s.0
    → WantsBlock set rest last w0 w1 → inner ≡ inside (rules_in set) after s.0 one_value → WantsBlock set chosen inner w1 w2
    → Moves set (tasks.Block o) w0 w2 n0 n1
moved_loop set o chosen rest s x freed after inner last old binds node w0 w1 w2 n0 n1 good split free emits none value is e end want in_is body =
    let R = rules_in set in
    let sc = scope_of set o.known in
    let best = split.best in
    let again = loop_same R sc freed after last s.0 emits.all free emits.ending end in
    let share = rest_share R o.left.items chosen rest sc last (on_loop s.0) again split.chosen_is split.rest_is in
    let less = looped_less R o.left.items chosen sc freed after inner s.0 emits.all good.listed best free emits.ending split.chosen_is in_is in
    let same : weight R last chosen ≡ weight R after chosen = ap (λ (y : Scope Constraint). weight R y chosen) end in
    let two = sizes_two set want.task body.task in
    let z = want.size in
    let y = body.size in
    record {
      tasks = want.task ∷ body.task ∷ [];
      added = node ∷ [];
      work = body.work ∙ ap (λ (v : List Task). v ++ body.task ∷ []) want.work ∙ append_assoc w0 (want.task ∷ []) (body.task ∷ []);
      nodes = e;
      valid = (want.valid, (body.valid, tt));
      told = told_one set node (subst (IsOfRule set) (sym is) tt);
      smaller = omega arith;
      due = λ pieces d.
          let P : Node → Type 0 = λ v. Builds R o.left.items sc (first_steps (put v pieces)) in
          let B : List ℕ → Type 0 = λ l. Builds R l last (first_steps (later pieces)) in
          let after_it : Builds R rest last (first_steps (later pieces)) = want.due (later pieces) d.1 in
          subst P (sym is)
          (loop_builds R o.left.items chosen sc freed after inner last s.0 x.0 old (numbers_of binds) (first_steps pieces)
          (first_steps (later pieces)) best
          none free emits split.chosen_is in_is end value (body.due pieces d.0.1) (subst B split.rest_is after_it));
      rest = λ pieces. let P : Node → Type 0 = λ v. later (put v pieces) ≡ later (later pieces) in subst P (sym is) refl;
    }

-- an arm
pub moved_arm : (set : RulesOverSites) (o : Open) (s : BindingId) (start : ℕ) (test : Constraint) (rules : List ℕ)
    (end : ℕ) (inner : Scope Constraint)
    (bindings : List (Option BindingId)) (node : Node) (w0 w1 w2 : List Task) (n0 n1 : List Node)
    → IsSerializable set → IsFan set s.0 start o → IsRun (rules_in set) s.0 start o.left.items test rules end
    → fields_of bindings ≡ (rules_in set).fields s.0 test → node ≡ nodes.Arm test bindings → n1 ≡ n0 ++ node ∷ []
    → WantsArms set (drop end o.left.items) (scope_of set o.known) s.0 w0 w1
    → inner ≡ inside (rules_in set) (scope_of set o.known) s.0 (has test) → WantsBlock set rules inner w1 w2
    → Moves set (tasks.Arms s start o) w0 w2 n0 n1
moved_arm set o s start test rules end inner bindings node w0 w1 w2 n0 n1 good fan is_run fields is e want in_is body =
    let R = rules_in set in
    let sc = scope_of set o.known in
    let group = drop start o.left.items in
    let rest = drop end o.left.items in
    let share = arm_share R sc inner s.0 test group rules rest good.same good.same_self good.listed fan.arms.untested is_run.least in_is is_run.run
    is_run.rest in
    let two = sizes_two set want.task body.task in
    let z = want.size in
    let y = body.size in
    record {
      tasks = want.task ∷ body.task ∷ [];
      added = node ∷ [];
      work = body.work ∙ ap (λ (x : List Task). x ++ body.task ∷ []) want.work ∙ append_assoc w0 (want.task ∷ []) (body.task ∷ []);
      nodes = e;
      valid = (want.valid, (body.valid, tt));
      told = told_one set node (subst (IsOfRule set) (sym is) tt);
      smaller = omega arith;
      due = λ pieces d.
          let P : Node → Type 0 = λ x. BuildsArms R group sc s.0 (first_arms (put x pieces)) in
          let after_it : BuildsArms R rest sc s.0 (first_arms (later pieces)) = want.due (later pieces) d.1 in
          subst P (sym is)
          (one_arm R sc inner s.0 test group rules rest (fields_of bindings) (first_steps pieces)
          (first_arms (later pieces)) is_run.least fields in_is
          is_run.run is_run.rest (body.due pieces d.0.1) after_it);
      rest = λ pieces. let P : Node → Type 0 = λ x. later (put x pieces) ≡ later (later pieces) in subst P (sym is) refl;
    }

-- the returns of a block
pub moved_returns : (set : RulesOverSites) (o : Open) (w0 : List Task) (n0 n1 : List Node) → IsOpen set o
    → HasNoTest (rules_in set) o.left.items (scope_of set o.known) → AreReturns set o.left.items (scope_of set o.known) n0 n1
    → Moves set (tasks.Block o) w0 w0 n0 n1
moved_returns set o w0 n0 n1 is none r =
    let R = rules_in set in
    let one = some_elem o.left.items is.some in
    let f = first_weighs R (scope_of set o.known) o.left.items one.0 one.1 in
    record {
      tasks = [];
      added = r.added;
      work = sym (append-nil w0);
      nodes = r.nodes;
      valid = tt;
      told = r.told;
      smaller = omega arith;
      due = λ pieces d. returns_build R o.left.items (scope_of set o.known) (first_steps (read r.added pieces)) none (r.returns pieces);
      rest = λ pieces. r.rest pieces;
    }

-- one node that nothing is part of
pub moved_one : (set : RulesOverSites) (task : Task) (node : Node) (w0 : List Task) (n0 n1 : List Node) → task_size set task ≡ 1
    → n1 ≡ n0 ++ node ∷ [] → IsOfRule set node → ((pieces : List Piece) → IsDue set task (put node pieces))
    → ((pieces : List Piece) → later (put node pieces) ≡ pieces) → Moves set task w0 w0 n0 n1
moved_one set task node w0 n0 n1 z e told due rest = record {
  tasks = [];
  added = node ∷ [];
  work = sym (append-nil w0);
  nodes = e;
  valid = tt;
  told = told_one set node told;
  smaller = omega arith;
  due = λ pieces d. due pieces;
  rest = λ pieces. rest pieces;
}
