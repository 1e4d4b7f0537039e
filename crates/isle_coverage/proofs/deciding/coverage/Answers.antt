use Rattle.std.proofs.Common.{sym, subst}
use Rattle.isle_blocks.specs.RuleSets.{RulesOverSites}
use Rattle.isle_coverage.specs.Inside.Numbered.{IsNumbered}
use Rattle.isle_coverage.proofs.Covering.{judged}
use Rattle.isle_coverage.proofs.deciding.coverage.Goals as goal

pub returns : goal.returns
returns c = λ files compiled may.
    let (own, inside, of, same) = c.in-Some.ensures in
    let numbered : IsNumbered c.args.program.now own.1 c.in_ok-numbered.numbered =
    subst (λ (set : RulesOverSites). IsNumbered c.args.program.now set c.in_ok-numbered.numbered) (sym same) c.in_ok-numbered.ensures in
    judged c.args.program.now files compiled c.args.term.0 may own inside of c.in_ok-numbered.numbered numbered c.in_ok-verdict.verdict
    c.in_ok-verdict.ensures
