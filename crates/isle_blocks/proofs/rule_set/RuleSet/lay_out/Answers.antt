use Rattle.std.proofs.Common.{◌≡◌, ◌+◌, ◌≤◌, ◌++◌, ◌∷◌, [], List, subst, sym, rules, arith}
use Rattle.isle_trees.specs.Builds.{Builds}
use Rattle.isle_blocks.specs.declared.serializer.node.Node.{Node}
use Rattle.isle_blocks.specs.declared.serializer.work.Task.{Task}
use Rattle.isle_blocks.specs.Trees.Nodes.{first_steps, read}
use Rattle.isle_blocks.specs.Inside.Trees.Builder.{rules_in, scope_of}
use Rattle.isle_blocks.specs.Inside.Trees.Work.{AreDue, AreTasks, sizes}
use Rattle.isle_blocks.proofs.Trees.Working.{begun, begun_valid, tasks_right, turned, turned_smaller, turned_told, turned_valid}
use Rattle.isle_blocks.proofs.rule_set.RuleSet.lay_out.Goals as goal

pub work-init : goal.work-init
work-init c =
    let set = c.args.self.now in
    let sc = scope_of set c.args.known in
    record {
      valid = begun_valid set c.args.left.items sc c.new-work.result.items c.push_body.new.work.items c.new-work.ensures.items
          c.in_ok-push_body.ensures;
      told = λ n m. absurd (subst (λ (l : List Node). Rattle.isle_trees.specs.Rules.Elem n l) c.new-nodes.ensures.items m);
      so_far = λ pieces d.
          let P : List Node → Type 0 = λ l. Builds (rules_in set) c.args.left.items sc (first_steps (read l pieces)) in
          subst P (sym c.new-nodes.ensures.items)
          (begun set c.args.left.items sc c.new-work.result.items c.push_body.new.work.items c.new-work.ensures.items
          c.in_ok-push_body.ensures pieces d);
    }

pub work-preserved : goal.work-preserved
work-preserved c =
    let set = c.args.self.now in
    let sc = scope_of set c.args.known in
    let e : c.work.work.items ≡ c.pop.new.self.items ++ c.in-Some.task ∷ [] = search rules in
    record {
      valid = turned_valid set c.in-Some.task c.work.work.items c.pop.new.self.items c.advance.new.work.items
          c.work.nodes.items c.advance.new.nodes.items e
          c.work.invariant.valid c.in_ok-advance.ensures;
      told = turned_told set c.in-Some.task c.pop.new.self.items c.advance.new.work.items c.work.nodes.items c.advance.new.nodes.items
          c.in_ok-advance.ensures c.work.invariant.told;
      so_far = turned set c.args.left.items sc c.in-Some.task c.work.work.items c.pop.new.self.items c.advance.new.work.items c.work.nodes.items
          c.advance.new.nodes.items e c.in_ok-advance.ensures c.work.invariant.so_far;
    }

pub work-smaller : goal.work-smaller
work-smaller c =
    let set = c.args.self.now in
    let e : c.work.work.items ≡ c.pop.new.self.items ++ c.in-Some.task ∷ [] = search rules in
    let l : sizes set c.advance.new.work.items + 1 ≤ sizes set c.work.work.items =
    turned_smaller set c.in-Some.task c.work.work.items c.pop.new.self.items c.advance.new.work.items c.work.nodes.items c.advance.new.nodes.items e
    c.in_ok-advance.ensures in
    omega (arith, l)

pub advance-requires-clause-task : goal.advance-requires-clause-task
advance-requires-clause-task c =
    let set = c.args.self.now in
    let e : c.work.work.items ≡ c.pop.new.self.items ++ c.in-Some.task ∷ [] = search rules in
    let P : List Task → Type 0 = λ l. AreTasks set l in
    let v : AreTasks set (c.in-Some.task ∷ []) = tasks_right set c.pop.new.self.items (c.in-Some.task ∷ []) (subst P e c.work.invariant.valid) in
    v.0

pub returns-clause-builds : goal.returns-clause-builds
returns-clause-builds c =
    let set = c.args.self.now in
    let e : c.work.work.items ≡ [] = search rules in
    let P : List Task → Type 0 = λ l. AreDue set l [] in
    c.work.invariant.so_far [] (subst P (sym e) tt)
