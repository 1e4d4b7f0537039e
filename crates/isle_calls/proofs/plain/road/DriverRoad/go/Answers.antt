use Rattle.std.proofs.Common.{◌++◌, subst}
use Rattle.isle_calls.specs.Inside.Plain.Frames.{FrameEnds}
use Rattle.isle_calls.proofs.plain.road.DriverRoad.go.Goals as goal

pub returns-in-On-clause-turned : goal.returns-in-On-clause-turned
returns-in-On-clause-turned g c = λ k since open_in is.
    let (made, has, ends) = c.in_ok-turn.ensures.ending k since open_in is in
    (made, has, subst (FrameEnds k c.turn.new.self.store c.turn.new.frame (since ++ made)) c.in-On.is ends)

pub returns-in-Leaves-clause-turned : goal.returns-in-Leaves-clause-turned
returns-in-Leaves-clause-turned g c = λ k since open_in is.
    let (made, has, ends) = c.in_ok-turn.ensures.ending k since open_in is in
    (made, has, subst (FrameEnds k c.turn.new.self.store c.turn.new.frame (since ++ made)) c.in-Leaves.is ends)

pub returns-in-Comes-clause-turned : goal.returns-in-Comes-clause-turned
returns-in-Comes-clause-turned g c = λ k since open_in is.
    let (made, has, ends) = c.in_ok-turn.ensures.ending k since open_in is in
    (made, has, subst (FrameEnds k c.turn.new.self.store c.turn.new.frame (since ++ made)) c.in-Comes.is ends)
