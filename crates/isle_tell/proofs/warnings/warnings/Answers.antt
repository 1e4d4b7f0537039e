use Rattle.std.proofs.lemmas.List.Elements.{All-same, All-nil}
use Rattle.std.proofs.lemmas.List.Sorted.{All-permutation}
use Rattle.isle_ast.specs.Positions.Printable.{IsPrintablePos}
use Rattle.isle_tell.specs.Inside.Warnings.{WarningAt}
use Rattle.isle_tell.proofs.warnings.warnings.Goals as goal

pub returns-clause-placed : goal.returns-clause-placed
returns-clause-placed c = λ files defs.
    let none = All-same (WarningAt (IsPrintablePos files)) _ _ c.new-found.ensures.items (All-nil (WarningAt (IsPrintablePos files))) in
    let rules = c.in_ok-warn_of_rules.ensures files defs none in
    let terms = c.in_ok-warn_of_terms.ensures files defs rules in
    let extractors = c.in_ok-warn_of_extractors.ensures files defs terms in
    All-permutation (WarningAt (IsPrintablePos files)) _ _ c.in_ok-sort_warnings.ensures.moved
    (c.in_ok-warn_of_converters.ensures files defs extractors)
