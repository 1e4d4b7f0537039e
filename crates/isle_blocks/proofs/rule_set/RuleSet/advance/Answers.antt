use Rattle.std.proofs.Common.{subst, sym, refl}
use Rattle.isle_blocks.specs.declared.serializer.node.Node.TheVariants as nodes
use Rattle.isle_blocks.specs.declared.serializer.work.Task.{Task}
use Rattle.isle_blocks.specs.declared.serializer.work.Task.TheVariants as tasks
use Rattle.isle_blocks.specs.Inside.Trees.Work.{Moves}
use Rattle.isle_blocks.proofs.Trees.Moving.{moved_one}
use Rattle.isle_blocks.proofs.rule_set.RuleSet.advance.Goals as goal

pub returns-in_ok-push_node-in-End : goal.returns-in_ok-push_node-in-End
returns-in_ok-push_node-in-End c =
    let set = c.args.self.now in
    let P : Task → Type 0 = λ t. Moves set t c.args.work.now.items c.args.work.now.items c.args.nodes.now.items c.push_node.new.nodes.items in
    subst P (sym c.in-End.is)
    (moved_one set tasks.End nodes.End c.args.work.now.items c.args.nodes.now.items c.push_node.new.nodes.items
    refl c.in_ok-push_node-in-End.ensures tt
    (λ pieces. refl) (λ pieces. refl))

pub returns-in_ok-push_node-in-NoArm : goal.returns-in_ok-push_node-in-NoArm
returns-in_ok-push_node-in-NoArm c =
    let set = c.args.self.now in
    let P : Task → Type 0 = λ t. Moves set t c.args.work.now.items c.args.work.now.items c.args.nodes.now.items
    c.push_node-in-NoArm.new.nodes.items in
    subst P (sym c.in-NoArm.is)
    (moved_one set tasks.NoArm nodes.NoArm c.args.work.now.items c.args.nodes.now.items c.push_node-in-NoArm.new.nodes.items refl
    c.in_ok-push_node-in-NoArm.ensures tt (λ pieces. refl) (λ pieces. refl))
