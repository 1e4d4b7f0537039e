use Rattle.std.proofs.Common.{arith, sym, ◌<◌, Some, ◌≡◌, slice_get}
use Rattle.isle_blocks.specs.Inside.Trees.Builder.{source_in}
use Rattle.isle_blocks.proofs.Trees.Openers.{source_part}
use Rattle.isle_blocks.proofs.rule_set.RuleSet.add_made.Goals as goal

pub add_site-requires : goal.add_site-requires
add_site-requires c =
    let e : source_in (slice_get c.args.self.now.sites c.args.site.0) ≡ Some c.in-Some.source.0 = search (c.in-Some.ensures, sym) in
    let l : c.in-Some.source.0 < c.args.site.0 =
    c.requires.lower c.args.site.0 c.in-Some.source.0 (source_part c.args.self.now c.args.site.0 c.in-Some.source.0 e) in
    let m = c.requires.site in
    omega (arith, l, m)
