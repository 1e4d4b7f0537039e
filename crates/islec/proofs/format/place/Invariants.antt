-- The files so far are put in their place where they aren't their prints, and nothing is written.
use Rattle.std.proofs.Common.{◌≡◌, take, map, string_bytes}
use Rattle.islec.specs.Outputs.{Puts, changed_of}
use Rattle.islec.proofs.format.place.Given as goal

abbrev pub invariant-loop-file : goal.invariant-loop-file
invariant-loop-file g l = record {
  put : Puts (g.T.Targets.replaced l.initial.targets) (g.T.Targets.replaced l.targets)
      (changed_of (take l.file l.files) (map string_bytes (take l.file l.prints)));
  unwritten : g.W.Write.contents l.writer ≡ g.W.Write.contents l.initial.writer;
}
