use Rattle.std.proofs.Common.{inr, refl}
use Rattle.islec.proofs.program.unread.Goals as goal

pub returns-in-Ok : goal.returns-in-Ok
returns-in-Ok c = inr (c.in-Ok.words, c.in-Ok.ensures, refl)
