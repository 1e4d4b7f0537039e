use Rattle.std.proofs.Common.{sym, ◌∙◌}
use Rattle.isle_syntax.proofs.Productions.RuleSteps.{takes_priority}
use Rattle.isle_syntax.proofs.parser.Parser.take_priority.Goals as goal

pub returns-clause-taken : goal.returns-clause-taken
returns-clause-taken c =
    takes_priority c.args.self.now c.is_priority.new.self c.integer.new.self c.in_ok-literal.field-0-0 c.in_ok-literal.literal
    c.in_ok-is_priority.ensures.known
    (sym c.in_ok-is_priority.ensures.priority ∙ c.if-not-branch.false) c.in_ok-literal.ensures c.priority.result c.priority.ensures
