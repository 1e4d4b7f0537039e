use Rattle.std.proofs.Common.{take}
use Rattle.std.specs.List.{AllZip}
use Rattle.isle_types.specs.TypeTables.{TypeTables}
use Rattle.isle_program.specs.Plain.LaidOut.Rules.{IsRuleLaidOut}
use Rattle.isle_program.proofs.program.lay_rules.Given as goal

abbrev pub invariant-loop-rule : goal.invariant-loop-rule
invariant-loop-rule l = (types : TypeTables) → AllZip (IsRuleLaidOut types l.termenv) (take l.rule-index l.termenv.rules) l.laid.items
