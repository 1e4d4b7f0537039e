use Rattle.std.proofs.Common.{rules}
use Rattle.isle_blocks.proofs.serializer.known.Known.key_with.Goals as goal
use Rattle.isle_blocks.proofs.serializer.known.Known.key_with.Goals.{in-Match, in-Equal, in-Loop}

pub returns : goal.returns
returns c = λ set.
    let s = c.state-state.ensures set in
    elim c.match-test.branch [ in-Match w ↦ search rules | in-Equal w ↦ search rules | in-Loop w ↦ search rules ]
