use Rattle.std.proofs.Common.{◌≡◌, Option, sym, ap, subst, ◌∙◌}
use Rattle.isle_meaning.specs.Got.{gives}
use Rattle.isle_meaning.specs.Machine.Runs.{read}
use Rattle.isle_calls.specs.declared.machine.frame.Frame.{Frame}
use Rattle.isle_calls.specs.declared.machine.holding.Holding.{Holding}
use Rattle.isle_calls.specs.Inside.Blocks.Frames.{IsFrameOf, sites_of_call}
use Rattle.isle_calls.specs.Inside.Blocks.Holdings.{TellsHeld}
use Rattle.isle_calls.proofs.TreeRoad.Checking.{equal_failed, equal_passed, reads_something, reads_there}
use Rattle.isle_calls.proofs.TreeRoad.Going.{going_longer}
use Rattle.isle_calls.proofs.TreeRoad.Held.{holds_longer}
use Rattle.isle_calls.proofs.machine.reading.Machine.compare.Goals.{then-is_same+in_ok-pass, else-is_same}
use Rattle.isle_calls.proofs.machine.reading.Machine.compare.Goals as goal

pub returns-in_default-clause-turned : goal.returns-in_default-clause-turned
returns-in_default-clause-turned c = λ k since same g.
    let old = c.args.self.now.store in let middle = c.read.new.self.store in let frame = c.args.frame.now in
    let told = reads_there k old middle frame since _ _ _ g c.args.self.now.program.now same c.args.a.0 c.in_ok-first.field-0
    c.in_ok-first.ensures.told in
    absurd (reads_something k old middle frame since _ _ _ g c.args.a.0 g.goes_on.0
    (subst (λ (o : Option Holding). TellsHeld middle o (read (sites_of_call k) k.args g.env c.args.a.0)) c.in_default.is told))

pub returns-in_default-2-clause-turned : goal.returns-in_default-2-clause-turned
returns-in_default-2-clause-turned c = λ k since same g.
    let middle = c.read.new.self.store in let new = c.read-2.new.self.store in let frame = c.args.frame.now in
    let longer = going_longer c.in_ok-first.ensures.kept k frame _ _ _ since g in
    let after : k.program ≡ c.read.new.self.program.now = same ∙ sym c.in_ok-first.ensures.program in
    let told = reads_there k middle new frame since _ _ _ longer c.read.new.self.program.now after c.args.b.0 c.in_ok-second.field-0
    c.in_ok-second.ensures.told in
    absurd (reads_something k middle new frame since _ _ _ longer c.args.b.0 g.goes_on.1
    (subst (λ (o : Option Holding). TellsHeld new o (read (sites_of_call k) k.args g.env c.args.b.0)) c.in_default-2.is told))

pub returns-clause-turned : goal.returns-clause-turned
returns-clause-turned c = λ k since same g.
    let old = c.args.self.now.store in let middle = c.read.new.self.store in let new = c.read-2.new.self.store in let frame = c.args.frame.now in
    let longer = going_longer c.in_ok-first.ensures.kept k frame _ _ _ since g in
    let last = going_longer c.in_ok-second.ensures.kept k frame _ _ _ since longer in
    let after : k.program ≡ c.read.new.self.program.now = same ∙ sym c.in_ok-first.ensures.program in
    let first = reads_there k old middle frame since _ _ _ g c.args.self.now.program.now same c.args.a.0 c.in_ok-first.field-0
    c.in_ok-first.ensures.told in
    let second = reads_there k middle new frame since _ _ _ longer c.read.new.self.program.now after c.args.b.0 c.in_ok-second.field-0
    c.in_ok-second.ensures.told in
    let (h, one, holds) = subst (λ (o : Option Holding). TellsHeld middle o (read (sites_of_call k) k.args g.env c.args.a.0)) c.in-Some.is first in
    let (j, other, also) = subst (λ (o : Option Holding). TellsHeld new o (read (sites_of_call k) k.args g.env c.args.b.0)) c.in-Some-2.is second in
    let decides = c.is_same.ensures h j (holds_longer c.in_ok-second.ensures.kept c.in-Some.first h holds) also in
    elim c.if-is_same.branch [
      | then-is_same+in_ok-pass w ↦
          let equal : h ≡ j = decides.0 w.if-is_same.true in
          let passing = equal_passed k new frame c.args.a c.args.b c.args.body c.args.behind since last h one (other ∙ ap gives (sym equal)) in
          subst (λ (f : Frame). IsFrameOf k new f since) (sym w.frame-is) (w.in_ok-pass.ensures k new since passing)
      | else-is_same w ↦
          let apart = equal_failed k new frame c.args.a c.args.b c.args.body c.args.behind since last h j one other
          (λ equal. let yes = decides.1 equal in let no = w.if-is_same.false in absurd cc) in
          subst (λ (f : Frame). IsFrameOf k new f since) (sym w.frame-is) apart
    ]
