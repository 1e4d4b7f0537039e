use Rattle.std.proofs.Common.{sym, subst}
use Rattle.std.proofs.lemmas.Result.{IfOk-weaker, on_err_weaker}
use Rattle.isle_meaning.specs.GroundValues.{values_of}
use Rattle.isle_rules.specs.Values.{value_list}
use Rattle.isle_calls.specs.Calls.Answers.{answers_in}
use Rattle.isle_program.specs.Meanings.{checked}
use Rattle.islec.specs.Replies.{BeginsBy, TellsBy}
use Rattle.islec.proofs.answer.trace_by.Goals as goal

pub returns-then-manner-clause-ran : goal.returns-then-manner-clause-ran
returns-then-manner-clause-ran g c = IfOk-weaker c.trace_plain.result _ _ (λ both told.
    let program = c.args.program.now in
    let (made, has, tells) = told c.requires.callable c.requires.typed in (
      made,
      has,
      subst (λ b. TellsBy b program (answers_in program (g.V.World.constructs c.args.world.now) (g.V.World.extracts c.args.world.now))
          c.args.manner.depth c.args.term.0 (values_of (checked program).values (value_list c.args.args.items)) both.0 made)
          (sym c.if-manner.true) tells,
    ))
    c.trace_plain.ensures.ran

pub returns-then-manner-clause-lost : goal.returns-then-manner-clause-lost
returns-then-manner-clause-lost g c = on_err_weaker c.trace_plain.result (λ lost.
    let program = c.args.program.now in
    let (made, has, begun) = lost c.requires.callable c.requires.typed in (
      made,
      has,
      subst (λ b. BeginsBy b program (answers_in program (g.V.World.constructs c.args.world.now) (g.V.World.extracts c.args.world.now))
          c.args.manner.depth c.args.term.0 (values_of (checked program).values (value_list c.args.args.items)) made) (sym c.if-manner.true) begun,
    ))
    c.trace_plain.ensures.lost

pub returns-else-manner-clause-ran : goal.returns-else-manner-clause-ran
returns-else-manner-clause-ran g c = IfOk-weaker c.trace.result _ _ (λ both told.
    let program = c.args.program.now in
    let (made, has, tells) = told c.requires.compiled c.requires.callable c.requires.typed in (
      made,
      has,
      subst (λ b. TellsBy b program (answers_in program (g.V.World.constructs c.args.world.now) (g.V.World.extracts c.args.world.now))
          c.args.manner.depth c.args.term.0 (values_of (checked program).values (value_list c.args.args.items)) both.0 made)
          (sym c.if-manner.false) tells,
    ))
    c.trace.ensures.ran

pub returns-else-manner-clause-lost : goal.returns-else-manner-clause-lost
returns-else-manner-clause-lost g c = on_err_weaker c.trace.result (λ lost.
    let program = c.args.program.now in
    let (made, has, begun) = lost c.requires.compiled c.requires.callable c.requires.typed in (
      made,
      has,
      subst (λ b. BeginsBy b program (answers_in program (g.V.World.constructs c.args.world.now) (g.V.World.extracts c.args.world.now))
          c.args.manner.depth c.args.term.0 (values_of (checked program).values (value_list c.args.args.items)) made) (sym c.if-manner.false) begun,
    ))
    c.trace.ensures.lost
