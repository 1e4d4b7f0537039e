use Rattle.std.proofs.Common.{refl}
use Rattle.isle_blocks.proofs.builder.RuleSetBuilder.intern.Goals as goal
use Rattle.isle_blocks.proofs.builder.RuleSetBuilder.intern.Goals.{in-Ok, in-Err-Size, in-Err-Memory}

pub returns : goal.returns
returns c = elim c.match-intern.branch [
  | in-Ok w ↦ rw (w.result-is, ← c.self.view_is) (c.intern.new.self, w.in-Ok.ensures.ok, refl)
  | in-Err-Size w ↦ rw (w.result-is, ← c.self.view_is, w.in-Err-Size.ensures.err) (w.in-Err-Size.ensures.full w.in-Err-Size.field-0-is, refl)
  | in-Err-Memory w ↦ rw (w.result-is, ← c.self.view_is, w.in-Err-Memory.ensures.err) (tt, refl)
]
