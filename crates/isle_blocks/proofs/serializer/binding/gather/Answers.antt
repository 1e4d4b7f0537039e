use Rattle.std.proofs.Common.{arith, take}
use Rattle.isle_trees.proofs.Building.Gathering.{gathers_more}
use Rattle.isle_blocks.specs.Rows.{numbers_of}
use Rattle.isle_blocks.specs.Trees.View.{id_of}
use Rattle.isle_blocks.proofs.Trees.Binding.{number_elem, numbers_more}
use Rattle.isle_blocks.proofs.serializer.binding.gather.Goals as goal

pub gather_one-requires : goal.gather_one-requires
gather_one-requires c =
    let l = c.requires _ (number_elem c.args.sites.now c.loop-site.site-index (id_of 0) c.loop-site-test.true) in
    let e = c.loop-site.invariant.size in
    omega (arith, l, e)

pub loop-site-preserved : goal.loop-site-preserved
loop-site-preserved c =
    rw (numbers_more c.args.sites.now c.loop-site.site-index (id_of 0) c.loop-site-test.true)
    (gathers_more (numbers_of (take c.loop-site.site-index c.args.sites.now)) _ c.args.marks.now c.loop-site.marks c.gather_one.new.marks
    (numbers_of c.args.list.now.items) (numbers_of c.loop-site.list.items) (numbers_of c.gather_one.new.list.items)
    c.loop-site.invariant c.in_ok-gather_one.ensures)
