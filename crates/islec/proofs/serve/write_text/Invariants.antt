-- `written` bytes of the text stand behind what the writer held.
use Rattle.std.proofs.Common.{◌≡◌, ◌≤◌, length, take}
use Rattle.std.specs.Io.KnownBytes.{Appends}
use Rattle.islec.proofs.serve.write_text.Given as goal

abbrev pub invariant-loop : goal.invariant-loop
invariant-loop g l =
    (l.written ≤ length l.text) × (l.bytes ≡ l.text)
    × Appends (g.W.Write.contents l.initial.writer) (g.W.Write.contents l.writer) (take l.written l.text)
