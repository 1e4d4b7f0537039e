use Rattle.std.proofs.Common.{ap, arith}
use Rattle.isle_ast.specs.Trees.PatternShape.{pattern_of}
use Rattle.isle_ast.proofs.Trees.Innermost.{args_below, subpats_below}
use Rattle.isle_rules.specs.Readings.Needs.{needed, all_needed}
use Rattle.isle_rules.proofs.Needs.{needed_below}
use Rattle.isle_rules.proofs.env.needs.+needed.Goals as goal

pub needed_arguments-needed_by_all-requires : goal.needed_arguments-needed_by_all-requires
needed_arguments-needed_by_all-requires t c = (
  omega (
    arith,
    args_below c.args.template.now c.innermost.result.now _ _ _ c.as_slice.result.now c.innermost.ensures c.in-Term.is c.as_slice.ensures,
  ),
  (let same = needed_below c.args.template.now c.innermost.result.now c.innermost.ensures in
      let here = ap (λ q. needed (pattern_of q)) c.in-Term.is in
      let below = ap all_needed c.as_slice.ensures in
      omega arith),
)

pub needed_arguments-needed_by_all-requires-in-And :
    goal.needed_arguments-needed_by_all-requires-in-And
needed_arguments-needed_by_all-requires-in-And t c = (
  omega (
    arith,
    subpats_below c.args.template.now c.innermost.result.now _ _ c.as_slice-in-And.result.now c.innermost.ensures c.in-And.is
        c.as_slice-in-And.ensures,
  ),
  (let same = needed_below c.args.template.now c.innermost.result.now c.innermost.ensures in
      let here = ap (λ q. needed (pattern_of q)) c.in-And.is in
      let below = ap all_needed c.as_slice-in-And.ensures in
      omega arith),
)
