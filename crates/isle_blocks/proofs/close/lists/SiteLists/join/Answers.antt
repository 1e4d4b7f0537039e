use Rattle.isle_blocks.proofs.Closure.Lists.{list_joined}
use Rattle.isle_blocks.proofs.close.lists.SiteLists.join.Goals as goal

pub returns : goal.returns
returns c =
    list_joined c.self.inside.lists.items c.args.self.now c.args.from c.args.to c.index_mut.result.now c.try_take.new.dest
    c.index_mut-2.result.now c.append.new.self
    c.in_ok-moved.moved c.self.view_is c.requires.from_in c.requires.to_in c.requires.apart c.index_mut.ensures.value c.in_ok-moved.ensures.value
    c.in_ok-moved.ensures.after.0 c.index_mut-2.ensures.value c.in_ok-append.ensures.items
