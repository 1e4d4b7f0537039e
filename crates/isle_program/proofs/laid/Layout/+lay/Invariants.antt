use Rattle.std.proofs.Common.{take}
use Rattle.isle_program.specs.Inside.Plain.LaidOut.Expressions.{StandForTheSame, Restores, LaysExprs, LaysBindings}
use Rattle.isle_program.proofs.laid.Layout.+lay.Given as goal

abbrev pub invariant-enter-loop-binding : goal.invariant-enter-loop-binding
invariant-enter-loop-binding l = record {
  before : Restores l.hidden.items l.self l.initial.self;
  laid : LaysBindings l.termenv (take l.binding-index l.bindings) l.initial.self l.self;
}

abbrev pub invariant-lay_all-loop-expr : goal.invariant-lay_all-loop-expr
invariant-lay_all-loop-expr l = record {
  same : StandForTheSame l.initial.self l.self;
  laid : LaysExprs l.termenv (take l.expr-index l.exprs) l.initial.self l.self l.numbers.items;
}
