use Rattle.std.proofs.Common.{sym, ◌∙◌, refl}
use Rattle.isle_trees.proofs.Building.Gathering.{gathers_new}
use Rattle.isle_blocks.specs.Rows.{numbers_of}
use Rattle.isle_blocks.proofs.Trees.Binding.{numbers_push}
use Rattle.isle_blocks.proofs.serializer.binding.gather_one.Goals as goal

pub returns : goal.returns
returns c =
    let site = c.args.site in
    let marks = c.args.marks.now in
    let list = c.args.list.now.items in
    gathers_new site.0 marks c.set.new.self (numbers_of list) (numbers_of c.push.new.self.items)
    c.requires (sym c.is_set.ensures ∙ c.if-is_set.false) (c.in_ok-set.ensures ∙ rw c.index.ensures refl)
    (numbers_push c.push.new.self.items list site c.in_ok-push.ensures.items)
