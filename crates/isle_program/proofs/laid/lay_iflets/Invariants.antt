use Rattle.std.proofs.Common.{take}
use Rattle.std.specs.List.{AllZip}
use Rattle.isle_types.specs.TypeTables.{TypeTables}
use Rattle.isle_rules.specs.declared.rules.IfLet.{IfLet as Condition}
use Rattle.isle_program.specs.Plain.LaidOut.Words.{IsLaidOut}
use Rattle.isle_program.specs.declared.laid.Laid.{Laid as LaidExpr}
use Rattle.isle_program.proofs.laid.lay_iflets.Given as goal

abbrev pub invariant-loop-iflet : goal.invariant-loop-iflet
invariant-loop-iflet l = (tyenv : TypeTables)
    → AllZip (λ (iflet : Condition) (laid : LaidExpr). IsLaidOut tyenv l.termenv iflet.rhs laid) (take l.iflet-index l.iflets) l.laid.items
