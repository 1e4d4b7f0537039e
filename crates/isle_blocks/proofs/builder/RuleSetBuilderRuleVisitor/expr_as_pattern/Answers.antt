use Rattle.std.proofs.Common.{refl}
use Rattle.isle_blocks.proofs.builder.RuleSetBuilderRuleVisitor.expr_as_pattern.Goals as goal

pub returns : goal.returns
returns c =
    let asked = rw c.bindings.ensures at c.in_ok-calls.ensures in
    rw (← c.self.view_is, c.in_ok-extend_from_slice.ensures.items, c.as_slice-2.ensures.value, c.in_ok-tests.ensures, c.as_slice.ensures.value)
    (refl, (c.in_ok-calls.calls.items, asked, refl))
