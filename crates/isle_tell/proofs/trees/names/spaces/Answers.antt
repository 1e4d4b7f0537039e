use Rattle.std.proofs.Common.{◌≡◌, ◌+◌, ◌++◌, ◌∙◌, suc, ap, arith, codes}
use Rattle.isle_tell.specs.TreeTexts.Names.{indent}
use Rattle.isle_tell.proofs.TreeTexts.Joined.{indent_more}
use Rattle.isle_tell.proofs.trees.names.spaces.Goals as goal

pub loop-preserved : goal.loop-preserved
loop-preserved c =
    let next : suc c.loop.counter ≡ c.loop.counter + 1 = omega arith in
    c.in_ok-push_str.ensures.bytes ∙ ap (λ l. l ++ codes "  ") c.loop.invariant ∙ indent_more c.loop.counter ∙ ap indent next
