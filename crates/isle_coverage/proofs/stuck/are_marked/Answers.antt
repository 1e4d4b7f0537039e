use Rattle.std.proofs.Common.{All, subst, sym, ◌∙◌, arith}
use Rattle.std.proofs.lemmas.List.{take_all}
use Rattle.std.proofs.lemmas.List.Elements.{All-more}
use Rattle.isle_coverage.specs.Inside.Reached.{IsMarked}
use Rattle.isle_coverage.proofs.stuck.are_marked.Goals as goal

pub loop-number-preserved : goal.loop-number-preserved
loop-number-preserved c = All-more (IsMarked c.args.marks.now) c.args.numbers.now c.loop-number.number-index 0 c.loop-number-test.true
    c.loop-number.invariant (sym c.is_marked.ensures ∙ c.if-not-is_marked.false)

pub returns : goal.returns
returns c = λ e. subst (All (IsMarked c.args.marks.now))
    (take_all c.loop-number.number-index c.args.numbers.now (omega (arith, c.loop-number-test.false))) c.loop-number.invariant
