use Rattle.std.proofs.Common.{take}
use Rattle.std.specs.List.{AllZip}
use Rattle.isle_types.specs.Environment.{Environment}
use Rattle.isle_types.specs.TypeEnvs.{Shows}
use Rattle.isle_rules.specs.Definitions.{IsTypeNumber}
use Rattle.isle_rules.specs.Shown.ShownTerms.{numbers_of}
use Rattle.isle_terms.proofs.env.terms.known_types.Given as goal

abbrev pub invariant-loop-name : goal.invariant-loop-name
invariant-loop-name l = (types : Environment) → Shows l.tyenv types
    → AllZip (IsTypeNumber types) (take l.name-index l.names) (numbers_of l.made.items)
