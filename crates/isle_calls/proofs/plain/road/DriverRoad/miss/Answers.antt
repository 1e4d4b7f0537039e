use Rattle.isle_calls.proofs.plain.road.DriverRoad.miss.Goals as goal

pub returns : goal.returns
returns c = c.miss.ensures
