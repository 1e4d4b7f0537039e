use Rattle.std.proofs.Common.{◌++◌, [], ap, ◌∙◌}
use Rattle.isle_blocks.proofs.Closure.Lists.{list_read, list_written}
use Rattle.isle_blocks.proofs.close.lists.SiteLists.take.Goals as goal

pub returns-clause-taken : goal.returns-clause-taken
returns-clause-taken c =
    c.in_ok-append.ensures.items
    ∙ ap (λ l. c.args.others.now.items ++ l) (list_read c.self.inside.lists.items c.args.self.now c.args.of
    c.index_mut.result.now c.self.view_is c.requires c.index_mut.ensures.value)

pub returns-clause-left : goal.returns-clause-left
returns-clause-left c =
    list_written c.self.inside.lists.items c.args.self.now c.args.of c.index_mut.result.now c.append.new.other (λ l. []) c.self.view_is c.requires
    c.index_mut.ensures.value c.in_ok-append.ensures.other_items
