use Rattle.std.proofs.Common.{◌≡◌, map, List}
use Rattle.isle_ast.specs.declared.ast.Def.{Def}
use Rattle.isle_types.specs.Environment.{Environment}
use Rattle.isle_types.specs.TypeEnvs.{Shows}
use Rattle.isle_rules.specs.Signatures.{Signature}
use Rattle.isle_rules.specs.Definitions.{converters_in, names_of_terms}
use Rattle.isle_terms.specs.Inside.Collecting.NameTables.{IsTableOf}
use Rattle.isle_terms.proofs.Collections.ReadConverters.{ReadUpTo}
use Rattle.isle_terms.proofs.env.converters.collect_converters.Given as goal

abbrev pub invariant-loop-converter : goal.invariant-loop-converter
invariant-loop-converter l = (types : Environment) (defs : List Def) (signatures : List Signature) → Shows l.tyenv types
    → IsTableOf (names_of_terms signatures) l.terms → map (λ converter. converter.now) l.converters ≡ converters_in defs
    → ReadUpTo types defs signatures l.converter-index l.table l.initial.errors.items l.errors.items
