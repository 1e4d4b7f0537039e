use Rattle.std.proofs.Common.{◌<◌, length, sym, ◌∙◌, arith}
use Rattle.isle_blocks.specs.Rows.{numbers_of}
use Rattle.isle_blocks.specs.Inside.Trees.Builder.{rules_in, scope_of}
use Rattle.isle_blocks.proofs.Trees.Binding.{numbers_push}
use Rattle.isle_blocks.proofs.Trees.Marking.Spreading.{spreads_new, spreads_over}
use Rattle.isle_blocks.proofs.Trees.Order.{same_is}
use Rattle.isle_blocks.proofs.rule_set.RuleSet.spread_one.Goals as goal

pub returns-then-not-needs_mark : goal.returns-then-not-needs_mark
returns-then-not-needs_mark c =
    let R = rules_in c.args.self.now in
    let sc = scope_of c.args.self.now c.args.known.now in
    let s = c.args.site.0 in
    spreads_over R sc s c.args.marks.now (numbers_of c.args.list.now.items)
    (sym c.needs_mark.ensures ∙ c.if-not-needs_mark.true)

pub set_mark-requires : goal.set_mark-requires
set_mark-requires c = let l = c.requires.site in let e = c.requires.size in omega (arith, l, e)

pub returns : goal.returns
returns c =
    let R = rules_in c.args.self.now in
    let sc = scope_of c.args.self.now c.args.known.now in
    let s = c.args.site.0 in
    let marks = c.args.marks.now in
    let low : s < length marks = let l = c.requires.site in let e = c.requires.size in omega (arith, l, e) in
    spreads_new R same_is sc s marks c.set_mark.new.marks (numbers_of c.args.list.now.items) (numbers_of c.push.new.self.items) low
    (sym c.needs_mark.ensures ∙ c.if-not-needs_mark.false) c.in_ok-set_mark.ensures
    (numbers_push c.push.new.self.items c.args.list.now.items c.args.site c.in_ok-push.ensures.items)
