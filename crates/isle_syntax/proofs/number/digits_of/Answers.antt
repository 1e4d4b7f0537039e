use Rattle.std.proofs.Common.{length, ap, ◌∙◌, ◌-◌, take, drop, arith}
use Rattle.isle_syntax.specs.Tokens.Integers.{continues_digits}
use Rattle.isle_syntax.proofs.Tokens.Runs.{after_run-le, run_taken, run_dropped}
use Rattle.isle_syntax.proofs.number.digits_of.Goals as goal

pub overflow_sub-bytes : goal.overflow_sub-bytes
overflow_sub-bytes c = omega (arith, after_run-le (continues_digits c.args.radix) c.args.bytes.now, ap length c.after_digits-rest.ensures)

pub split_at-requires : goal.split_at-requires
split_at-requires c = omega arith

pub returns-clause-run : goal.returns-clause-run
returns-clause-run c =
    c.split_at.ensures.front ∙ ap (λ r. take (length c.args.bytes.now - length r) c.args.bytes.now) c.after_digits-rest.ensures
    ∙ run_taken (continues_digits c.args.radix) c.args.bytes.now

pub returns-clause-rest : goal.returns-clause-rest
returns-clause-rest c =
    c.split_at.ensures.back ∙ ap (λ r. drop (length c.args.bytes.now - length r) c.args.bytes.now) c.after_digits-rest.ensures
    ∙ run_dropped (continues_digits c.args.radix) c.args.bytes.now
