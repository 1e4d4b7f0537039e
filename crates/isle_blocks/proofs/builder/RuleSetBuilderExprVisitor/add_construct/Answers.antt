use Rattle.std.proofs.lemmas.Result.{err_from_is_err_and}
use Rattle.isle_blocks.specs.Inside.Building.Steps.{values_of}
use Rattle.isle_blocks.proofs.Building.Waiting.{makes_waits}
use Rattle.isle_blocks.proofs.builder.RuleSetBuilderExprVisitor.add_construct.Goals as goal

pub returns-in_err-parameters : goal.returns-in_err-parameters
returns-in_err-parameters c =
    let p = err_from_is_err_and c.from_residual.result c.from_residual.ensures.1 in
    rw (p.1) (makes_waits c.args.pure (values_of c.args.inputs.items) c.args.term c.args.infallible c.args.multi c.args.self.now p.0 p.2)
