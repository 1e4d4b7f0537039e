use Rattle.std.proofs.Common.{length, sym, ap, ◌∙◌, arith}
use Rattle.isle_syntax.specs.declared.gap.Mark.TheVariants.{Opens, Neither}
use Rattle.isle_syntax.proofs.Tokens.Comments.{comment_step, closing_step}
use Rattle.isle_syntax.proofs.gap.after_comment.Goals as goal

pub bytes-preserved-in-Closes : goal.bytes-preserved-in-Closes
bytes-preserved-in-Closes c = record {
  few = omega (arith, ap length c.in-Some.ensures, ap length c.in-Some-front.ensures);
  same = sym (closing_step c.bytes.open c.in-Some.first c.in-Some-front.second _ _ _ c.in-Some.ensures c.in-Some-front.ensures c.in-Closes.ensures
      c.if-open-eq0.false) ∙ c.bytes.invariant.same;
}

pub bytes-preserved-in-Opens : goal.bytes-preserved-in-Opens
bytes-preserved-in-Opens c = record {
  few = omega (arith, ap length c.in-Some.ensures, ap length c.in-Some-front.ensures);
  same = sym (comment_step c.bytes.open c.in-Some.first c.in-Some-front.second _ _ _ Opens c.in-Some.ensures c.in-Some-front.ensures
      c.in-Opens.ensures) ∙ c.bytes.invariant.same;
}

pub bytes-preserved : goal.bytes-preserved
bytes-preserved c = record {
  few = omega (arith, ap length c.in-Some.ensures);
  same = sym (comment_step c.bytes.open c.in-Some.first c.in-Some-front.second _ _ _ Neither c.in-Some.ensures c.in-Some-front.ensures
      c.in-Neither.ensures) ∙ c.bytes.invariant.same;
}
