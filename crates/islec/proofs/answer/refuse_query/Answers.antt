use Rattle.std.proofs.Common.{◌∙◌, subst, sym}
use Rattle.std.proofs.lemmas.Result.{IfOk-weaker}
use Rattle.islec.specs.Reasons.{IsReason}
use Rattle.islec.proofs.answer.refuse_query.Goals as goal

pub returns : goal.returns
returns c = IfOk-weaker c.refused.result _ _ (λ reply told. (c.in-Some.cause, sym c.cause_of.ensures ∙ c.in-Some.is, told))
    (c.refused.ensures c.args.explain (subst (IsReason c.args.explain) (sym c.as_str.ensures.value) c.in_ok-reason.ensures))
