use Rattle.std.proofs.Common.{◌++◌, ◌∷◌, []}
use Rattle.isle_blocks.proofs.Closure.Lists.{list_written}
use Rattle.isle_blocks.proofs.close.lists.SiteLists.add.Goals as goal

pub returns : goal.returns
returns c =
    list_written c.self.inside.lists.items c.args.self.now c.args.of c.index_mut.result.now c.push.new.self
    (λ l. l ++ c.args.site ∷ []) c.self.view_is c.requires
    c.index_mut.ensures.value c.in_ok-push.ensures.items
