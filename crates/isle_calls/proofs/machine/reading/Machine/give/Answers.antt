use Rattle.std.proofs.Common.{◌≡◌, Option, ℕ, sym, ap, subst, ◌∙◌}
use Rattle.isle_meaning.specs.Machine.Runs.{read}
use Rattle.isle_meaning.specs.Machine.Walkable.{CanRead}
use Rattle.isle_program.specs.declared.program.Program.{Program}
use Rattle.isle_calls.specs.declared.machine.holding.Holding.{Holding}
use Rattle.isle_calls.specs.Inside.Blocks.Frames.{may_fail, sites_of_call}
use Rattle.isle_calls.specs.Inside.Blocks.Holdings.{TellsHeld}
use Rattle.isle_program.specs.Meanings.{checked}
use Rattle.isle_calls.proofs.TreeRoad.Checking.{reads_something, reads_there}
use Rattle.isle_calls.proofs.TreeRoad.Giving.{given_always, given_turns}
use Rattle.isle_calls.proofs.machine.reading.Machine.give.Goals as goal

pub returns-in_default-clause-turned : goal.returns-in_default-clause-turned
returns-in_default-clause-turned c = λ k since rule pos behind same g.
    let old = c.args.self.now.store in let new = c.read.new.self.store in let frame = c.args.frame.now in let site = c.args.site.0 in
    let told = reads_there k old new frame since _ _ _ g c.args.self.now.program.now same site c.in_ok-held.field-0 c.in_ok-held.ensures.told in
    absurd (reads_something k old new frame since _ _ _ g site
    (subst (λ (s : ℕ). CanRead (sites_of_call k) g.known s) g.goes_on.1.result_at g.goes_on.0)
    (subst (λ (o : Option Holding). TellsHeld new o (read (sites_of_call k) k.args g.env site)) c.in_default.is told))

pub returns-in-Some-given_by-clause-turned : goal.returns-in-Some-given_by-clause-turned
returns-in-Some-given_by-clause-turned c = λ k since rule pos behind same g.
    let old = c.args.self.now.store in let new = c.read.new.self.store in let frame = c.args.frame.now in let site = c.args.site.0 in
    let told = reads_there k old new frame since _ _ _ g c.args.self.now.program.now same site c.in_ok-held.field-0 c.in_ok-held.ensures.told in
    let program : c.read.new.self.program.now ≡ k.program = c.in_ok-held.ensures.program ∙ sym same in
    let fails : c.is_partial.result ≡ may_fail k = c.is_partial.ensures ∙ ap (λ (p : Program). (checked p).terms.partial frame.term.0) program
    ∙ ap (λ (t : ℕ). (checked k.program).terms.partial t) g.for_call.term in
    given_turns k old frame rule pos c.args.site behind since g new c.in-Some.held c.is_partial.result c.given_by.result
    c.in-Some-given_by.number fails
    (subst (λ (o : Option Holding). TellsHeld new o (read (sites_of_call k) k.args g.env site)) c.in-Some.is told) (c.given_by.ensures new)
    c.in-Some-given_by.is

pub returns-in-None-clause-turned : goal.returns-in-None-clause-turned
returns-in-None-clause-turned c = λ k since rule pos behind same g.
    let old = c.args.self.now.store in let new = c.read.new.self.store in let frame = c.args.frame.now in let site = c.args.site.0 in
    let told = reads_there k old new frame since _ _ _ g c.args.self.now.program.now same site c.in_ok-held.field-0 c.in_ok-held.ensures.told in
    let program : c.read.new.self.program.now ≡ k.program = c.in_ok-held.ensures.program ∙ sym same in
    let fails : c.is_partial.result ≡ may_fail k = c.is_partial.ensures ∙ ap (λ (p : Program). (checked p).terms.partial frame.term.0) program
    ∙ ap (λ (t : ℕ). (checked k.program).terms.partial t) g.for_call.term in
    absurd (given_always k old frame rule pos c.args.site behind since g new c.in-Some.held c.is_partial.result c.given_by.result fails
    (subst (λ (o : Option Holding). TellsHeld new o (read (sites_of_call k) k.args g.env site)) c.in-Some.is told) (c.given_by.ensures new)
    c.in-None.is)
