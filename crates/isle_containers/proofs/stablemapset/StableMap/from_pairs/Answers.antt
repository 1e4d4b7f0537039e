use Rattle.isle_containers.proofs.LaterPairs.{WholeRun-HoldsLastOf}
use Rattle.isle_containers.proofs.stablemapset.StableMap.from_pairs.Goals as goal

pub returns : goal.returns
returns g c =
    let put_in_turn = c.in_ok-collect.ensures.runs tt in
    record {
      made = (
        c.into_iter.result,
        c.into_iter.ensures.into_iter_gives,
        WholeRun-HoldsLastOf g.met.K.Eq.laws c.into_iter.result
            c.in_ok-collect.field-0 put_in_turn,
      );
    }
