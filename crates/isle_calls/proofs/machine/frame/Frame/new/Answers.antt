use Rattle.std.proofs.Common.{sym, refl, subst}
use Rattle.isle_calls.specs.Inside.Blocks.Frames.{BeginsAt, found_in}
use Rattle.isle_calls.proofs.TreeRoad.Beginning.{frame_begun}
use Rattle.isle_calls.proofs.machine.frame.Frame.new.Goals as goal

pub returns : goal.returns
returns c = λ k stored program depth term stand ready.
    frame_begun k stored _ (found_in k.program k.term) (sym depth) (sym term) stand ready refl c.new.ensures c.new-2.ensures.items refl refl
    (subst (λ p. BeginsAt (found_in p k.term) c.start.result.0.now c.start.result.1) (sym program)
    (subst (λ t. BeginsAt (found_in c.args.program.now t) c.start.result.0.now c.start.result.1) (sym term) c.start.ensures))
