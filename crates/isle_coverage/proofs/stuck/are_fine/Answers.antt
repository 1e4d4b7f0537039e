use Rattle.std.proofs.Common.{All, subst, arith}
use Rattle.std.proofs.lemmas.List.{take_all}
use Rattle.std.proofs.lemmas.List.Elements.{All-more}
use Rattle.isle_types.specs.declared.ids.TermId.{TermId}
use Rattle.isle_coverage.specs.Inside.Reached.{IsFine}
use Rattle.isle_coverage.proofs.stuck.are_fine.Goals as goal

pub loop-term-preserved : goal.loop-term-preserved
loop-term-preserved c = λ files compiled.
    let other : TermId = record { 0 = 0 } in
    All-more (IsFine c.args.program.now c.args.marks.now) c.args.terms.now c.loop-term.term-index other c.loop-term-test.true
    (c.loop-term.invariant files compiled) (c.in_ok-is_fine.ensures c.if-not-branch.false files compiled)

pub returns : goal.returns
returns c = λ e files compiled. subst (All (IsFine c.args.program.now c.args.marks.now))
    (take_all c.loop-term.term-index c.args.terms.now (omega (arith, c.loop-term-test.false))) (c.loop-term.invariant files compiled)
