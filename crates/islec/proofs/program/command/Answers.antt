use Rattle.std.proofs.Common.{refl}
use Rattle.islec.specs.Endings.{told}
use Rattle.islec.proofs.EndingLemmas.{ends_done}
use Rattle.islec.proofs.program.command.Goals as goal

pub returns-in-Ok : goal.returns-in-Ok
returns-in-Ok g c =
    let begun = c.in-Ok.field-0 in
    let input = g.I.Read.remaining c.args.input.now in
    let left = g.I.Read.remaining c.perform.new.reader in
    let old = g.W.Write.contents c.args.output.now in
    let new = g.W.Write.contents c.perform.new.writer in
    record {
      ends =
          ends_done (g.D.Sources.gives c.args.disk.now) _ begun input left old new (g.D.Targets.replaced c.args.disk.now)
          (g.D.Targets.replaced c.perform.new.targets) c.perform.result
          (g.I.Read.remaining c.begin.new.input) c.in-Ok.ensures.begun c.perform.ensures.ends;
    }

pub returns-in-Err : goal.returns-in-Err
returns-in-Err g c = record { ends = told c.in-Err.unbegun c.in-Err.ensures.refused c.tell.result c.code.ensures c.tell.ensures refl }
