use Rattle.isle_calls.proofs.plain.road.DriverRoad.answer.Goals as goal

pub returns : goal.returns
returns c = c.answer.ensures
