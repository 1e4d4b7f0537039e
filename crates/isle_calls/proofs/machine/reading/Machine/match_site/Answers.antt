use Rattle.std.proofs.Common.{◌≡◌, Option, sym, subst, ◌∙◌}
use Rattle.isle_meaning.specs.Machine.Runs.{read}
use Rattle.isle_meaning.specs.Held.{Meets}
use Rattle.isle_blocks.specs.Building.Naming.{name_by}
use Rattle.isle_blocks.specs.Rows.{test_of}
use Rattle.isle_program.specs.declared.program.Program.{Program}
use Rattle.isle_calls.specs.declared.machine.holding.Holding.{Holding}
use Rattle.isle_calls.specs.Inside.Blocks.Frames.{sites_of_call}
use Rattle.isle_calls.specs.Inside.Blocks.Holdings.{TellsHeld}
use Rattle.isle_program.specs.Programs.{types_of}
use Rattle.isle_calls.proofs.TreeRoad.Checking.{arm_left, arm_passed, no_arm_left, reads_something, reads_there}
use Rattle.isle_calls.proofs.TreeRoad.Going.{going_longer}
use Rattle.isle_calls.proofs.machine.reading.Machine.match_site.Goals as goal

pub returns-in_default-clause-turned : goal.returns-in_default-clause-turned
returns-in_default-clause-turned c = λ k since same g.
    let old = c.args.self.now.store in let new = c.read.new.self.store in let frame = c.args.frame.now in let site = c.args.source.0 in
    let told = reads_there k old new frame since _ _ _ g c.args.self.now.program.now same site c.in_ok-held.field-0 c.in_ok-held.ensures.told in
    absurd (reads_something k old new frame since _ _ _ g site g.goes_on.0
    (subst (λ (o : Option Holding). TellsHeld new o (read (sites_of_call k) k.args g.env site)) c.in_default.is told))

pub loop-arm-init : goal.loop-arm-init
loop-arm-init c = λ k since same g.
    let old = c.args.self.now.store in let new = c.read.new.self.store in let frame = c.args.frame.now in let site = c.args.source.0 in
    let told = reads_there k old new frame since _ _ _ g c.args.self.now.program.now same site c.in_ok-held.field-0 c.in_ok-held.ensures.told in
    let (h, reads, holds) = subst (λ (o : Option Holding). TellsHeld new o (read (sites_of_call k) k.args g.env site)) c.in-Some.is told in
    record { going = going_longer c.in_ok-held.ensures.kept k frame _ _ _ since g; h = h; reads = reads; holds = holds }

pub returns-then-passes-clause-turned : goal.returns-then-passes-clause-turned
returns-then-passes-clause-turned c = λ k since same g.
    let new = c.read.new.self.store in
    let m = c.loop-arm.invariant k since same g in
    let program : c.read.new.self.program.now ≡ k.program = c.in_ok-held.ensures.program ∙ sym same in
    let meets = subst (λ (p : Program). Meets (test_of (name_by (types_of p).names) c.in-Some-next.arm.constraint) m.h) program
    ((c.passes.ensures m.h m.holds).0 c.if-passes.true) in
    c.in_ok-pass.ensures k new since (arm_passed k new c.loop-arm.frame c.args.source c.loop-arm.left c.args.behind c.in-Some.held since m
    c.in-Some-next.arm c.in-Some-next.others c.in-Some-next.ensures.arm c.in-Some-next.ensures.body meets)

pub loop-arm-preserved : goal.loop-arm-preserved
loop-arm-preserved c = λ k since same g.
    let new = c.read.new.self.store in
    let m = c.loop-arm.invariant k since same g in
    let program : c.read.new.self.program.now ≡ k.program = c.in_ok-held.ensures.program ∙ sym same in
    arm_left k new c.loop-arm.frame c.args.source c.loop-arm.left c.args.behind c.in-Some.held since m
    c.in-Some-next.arm c.in-Some-next.others c.in-Some-next.ensures.arm c.in-Some-next.ensures.rest
    (λ meets.
    let here = subst (λ (p : Program). Meets (test_of (name_by (types_of p).names) c.in-Some-next.arm.constraint) m.h) (sym program) meets in
    let yes = (c.passes.ensures m.h m.holds).1 here in
    let no = c.if-passes.false in absurd cc)

pub returns-clause-turned : goal.returns-clause-turned
returns-clause-turned c = λ k since same g.
    let new = c.read.new.self.store in
    let m = c.loop-arm.invariant k since same g in
    no_arm_left k new c.loop-arm.frame c.args.source c.loop-arm.left c.args.behind c.in-Some.held since m c.in_default-next.ensures.end
