use Rattle.std.proofs.Common.{take, length, ◌-◌}
use Rattle.isle_types.specs.IntTypes.{builtin_names}
use Rattle.isle_types.specs.Environment.{Environment}
use Rattle.isle_types.specs.TypeEnvs.{Shows}
use Rattle.isle_rules.specs.Definitions.{terms_of_types}
use Rattle.isle_terms.specs.Inside.Collecting.DeclaredTerms.{AddsTerms}
use Rattle.isle_terms.proofs.env.type_terms.add_type_terms.Given as goal

abbrev pub invariant-loop-ty : goal.invariant-loop-ty
invariant-loop-ty l = (types : Environment) → Shows l.tyenv types
    → AddsTerms l.tyenv.names (terms_of_types (length builtin_names) (take (l.ty-index - length builtin_names) types.types)) l.initial.terms.items
    l.terms.items
