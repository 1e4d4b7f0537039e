use Rattle.isle_blocks.proofs.Trees.Respected.{held_agree}
use Rattle.isle_blocks.proofs.laws.answers_agree.Goals as goal

pub returns : goal.returns
returns c1 name facts sources rules term set h c d args done may = held_agree name facts sources rules term
    set h c d args done may.construct may.extract
