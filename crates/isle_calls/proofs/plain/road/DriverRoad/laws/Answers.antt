use Rattle.isle_calls.proofs.PlainRoad.Frames.Ways.{plain_is_way}
use Rattle.isle_calls.proofs.plain.road.DriverRoad.laws.Goals as goal

pub returns : goal.returns
returns c = plain_is_way
