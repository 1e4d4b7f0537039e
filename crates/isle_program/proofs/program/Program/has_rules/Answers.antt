use Rattle.std.proofs.Common.{ap, ◌∙◌}
use Rattle.std.specs.Prelude.{not}
use Rattle.isle_program.proofs.ProgramFacts.RootedTerms.{root_listed}
use Rattle.isle_program.proofs.program.Program.has_rules.Goals as goal

pub returns : goal.returns
returns c = ap not c.is_empty.ensures ∙ root_listed c.args.self.now c.args.term.0 c.rules_of.result.now c.rules_of.ensures
