use Rattle.isle_program.specs.Programs.{value_facts}
use Rattle.isle_calls.proofs.Stores.Sharing.{put_stands}
use Rattle.isle_calls.proofs.store.Store.share_node.Goals as goal

pub returns-clause-stand : goal.returns-clause-stand
returns-clause-stand c =
    put_stands (value_facts c.args.program.now) c.intern.ensures.kept c.args.node.now c.in_ok-stored.stored c.args.done.now.items
    c.stored_node.new.done.items c.push.new.self.items c.in_ok-number.number c.in_ok-number.ensures.number c.in_ok-stored.ensures.stored
    c.in_ok-stored.ensures.left c.in_ok-push.ensures.items
