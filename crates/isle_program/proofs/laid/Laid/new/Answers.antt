use Rattle.std.proofs.Common.{refl}
use Rattle.isle_program.specs.declared.laid.Layout.{Layout}
use Rattle.isle_program.proofs.Plain.LaidOut.Exprs.{laid_out}
use Rattle.isle_program.proofs.laid.Laid.new.Goals as goal

pub returns : goal.returns
returns c =
    let old : Layout = record { alloc = c.args.alloc; parts = c.new.result; calls = c.new-2.result; bound = c.new-3.result } in
    laid_out c.args.termenv.now c.args.expr.now old c.lay.new.self
    (record { parts = c.lay.new.self.parts; calls = c.lay.new.self.calls; result = c.in_ok-result.result })
    c.new.ensures.items c.new-2.ensures.items c.new-3.ensures.items refl refl c.in_ok-result.ensures.laid
