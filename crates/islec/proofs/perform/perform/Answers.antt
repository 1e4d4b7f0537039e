use Rattle.std.proofs.Common.{ℕ, List, String, ap, map, refl, sym, subst}
use Rattle.std.specs.Global.{Global}
use Rattle.std.specs.Prelude.{string_bytes}
use Rattle.isle_ast.specs.Positions.Files.{source_file}
use Rattle.islec.specs.Endings.{EndsBlocks, EndsJob}
use Rattle.islec.specs.Worlds.{world_file}
use Rattle.islec.specs.declared.line.Job.{Job}
use Rattle.islec.proofs.JobLemmas.{run_ends, check_ends, blocks_ends, fmt_ends}
use Rattle.islec.proofs.perform.perform.Goals.{in-Run, in-Check, in-Blocks, in-Fmt}
use Rattle.islec.proofs.perform.perform.Goals as goal

pub returns : goal.returns
returns g c =
    let files = map source_file c.args.texts.items in
    let world = world_file c.args.world in
    let input = g.R.Read.remaining c.args.reader.now in
    let old = g.W.Write.contents c.args.writer.now in
    let before = g.T.Targets.replaced c.args.targets.now in
    record {
      ends = (
        c.match-job.status,
        c.code.ensures,
        elim c.match-job.branch [
          | in-Run w ↦
              let left = g.R.Read.remaining w.run-done.new.reader in
              let new = g.W.Write.contents w.conclude-status.new.writer in
              let did = w.run-done.ensures in
              rw (w.status-is, w.writer-is, w.reader-is, w.targets-is)
              (subst (λ (j : Job). EndsJob j files world input left old new before before w.conclude-status.result) (sym w.in-Run.is) (
                run_ends w.in-Run.manner files world input left old (g.W.Write.contents w.run-done.new.writer)
                    w.run-done.result w.conclude-status.result new w.conclude-status.ensures did.answered did.all_well
                    did.some_refused did.refused did.other did.cut did.memory,
                refl,
              ))
          | in-Check w ↦
              let new = g.W.Write.contents w.conclude-status-in-Check.new.writer in
              let did = w.check-done.ensures in
              rw (w.status-is, w.writer-is, w.reader-is, w.targets-is)
              (subst (λ (j : Job). EndsJob j files world input input old new before before w.conclude-status-in-Check.result) (sym w.in-Check.is) (
                check_ends w.in-Check.telling files old (g.W.Write.contents w.check-done.new.writer) w.check-done.result
                    w.conclude-status-in-Check.result new
                    w.conclude-status-in-Check.ensures did.accepted did.refused did.other did.cut did.memory,
                refl,
                refl,
              ))
          | in-Blocks w ↦
              let new = g.W.Write.contents w.conclude-status-in-Blocks.new.writer in
              let did = w.blocks-done.ensures in
              rw (w.status-is, w.writer-is, w.reader-is, w.targets-is)
              (subst (λ (j : Job). EndsJob j files world input input old new before before w.conclude-status-in-Blocks.result) (sym w.in-Blocks.is) (
                subst (λ (names : List (List ℕ)). EndsBlocks names w.in-Blocks.dot files old new w.conclude-status-in-Blocks.result)
                    (ap (λ (l : List (String Global)). map string_bytes l) w.as_slice.ensures.value)
                    (blocks_ends (map string_bytes w.as_slice.result.now) w.in-Blocks.dot files old
                    (g.W.Write.contents w.blocks-done.new.writer) w.blocks-done.result
                    w.conclude-status-in-Blocks.result new w.conclude-status-in-Blocks.ensures did.drawn did.unknown
                    did.refused did.other did.cut did.memory),
                refl,
                refl,
              ))
          | in-Fmt w ↦
              let new = g.W.Write.contents w.conclude-status-in-Fmt.new.writer in
              let after = g.T.Targets.replaced w.format-done.new.targets in
              rw (w.status-is, w.writer-is, w.reader-is, w.targets-is)
              (subst (λ (j : Job). EndsJob j files world input input old new before after w.conclude-status-in-Fmt.result) (sym w.in-Fmt.is) (
                fmt_ends w.in-Fmt.printing files old (g.W.Write.contents w.format-done.new.writer) before after w.format-done.result
                    w.conclude-status-in-Fmt.result new w.conclude-status-in-Fmt.ensures w.format-done.ensures.ends,
                refl,
              ))
        ],
      );
    }
