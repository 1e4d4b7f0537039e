use Rattle.std.proofs.Common.{ap, drop, ◌∙◌}
use Rattle.std.proofs.KnownBytes.{Appends-kept}
use Rattle.std.proofs.lemmas.List.{take_rest}
use Rattle.islec.proofs.WritingLemmas.{Appends-take}
use Rattle.islec.proofs.serve.write_text.Goals.{in-Ok, in-Err}
use Rattle.islec.proofs.serve.write_text.Goals as goal

pub loop-preserved : goal.loop-preserved
loop-preserved g c =
    let (within, same, wrote) = c.loop.invariant in
    elim c.match-write.branch [
      | in-Ok w ↦
          let rest = take_rest c.as_bytes-bytes.result.now c.loop.written ∙ ap (drop c.loop.written) same in
          let both = Appends-take _ _ _ c.loop.written w.in-Ok.count c.args.text.now _ rest within wrote w.in-Ok.ensures.bound
          w.in-Ok.ensures.bytes in
          rw w.written-is (both.0, same, both.1)
      | in-Err w ↦ rw w.written-is (within, same, Appends-kept _ _ _ _ wrote w.in-Err.ensures.bytes)
    ]
