-- The number is that of what is read, if it is a value.
use Rattle.std.proofs.Common.{Option, subst}
use Rattle.isle_meaning.specs.Machine.Runs.{read}
use Rattle.isle_calls.specs.declared.machine.holding.Holding.{Holding}
use Rattle.isle_calls.specs.Inside.Blocks.Frames.{rows_in}
use Rattle.isle_calls.specs.Inside.Blocks.Holdings.{TellsHeld}
use Rattle.isle_calls.proofs.TreeRoad.Reading.{plain_told, plain_none}
use Rattle.isle_calls.proofs.machine.reading.Machine.number.Goals as goal

pub returns-in-Some-clause-told : goal.returns-in-Some-clause-told
returns-in-Some-clause-told c args env around =
    let g = read (rows_in c.args.self.now.program.now c.args.frame.now.sites.now) args env c.args.site.0 in
    let new = c.read.new.self.store in
    plain_told new g c.in-Some.held c.number.result
    (subst (λ (o : Option Holding). TellsHeld new o g) c.in-Some.is (c.in_ok-held.ensures.told args env around)) (c.number.ensures new)

pub returns-in-None-clause-told : goal.returns-in-None-clause-told
returns-in-None-clause-told c args env around =
    let g = read (rows_in c.args.self.now.program.now c.args.frame.now.sites.now) args env c.args.site.0 in
    let new = c.read.new.self.store in
    plain_none new g (subst (λ (o : Option Holding). TellsHeld new o g) c.in-None.is (c.in_ok-held.ensures.told args env around))
