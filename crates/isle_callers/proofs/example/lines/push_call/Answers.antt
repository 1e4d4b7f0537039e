use Rattle.std.proofs.Common.{string_bytes}
use Rattle.isle_callers.proofs.LineLemmas.{next_argument}
use Rattle.isle_callers.proofs.example.lines.push_call.Goals as goal

pub loop-arg-preserved : goal.loop-arg-preserved
loop-arg-preserved c =
    next_argument (string_bytes c.args.lines.now) c.args.name.now c.args.args.now c.loop-arg.arg-index c.arg-item.result
    (string_bytes c.loop-arg.lines) (string_bytes c.push_str-in-loop-arg.new.self) (string_bytes c.push_value.new.lines)
    c.loop-arg-test.true c.arg-item.is c.loop-arg.invariant c.in_ok-push_str-3.ensures.bytes c.in_ok-push_value.ensures
