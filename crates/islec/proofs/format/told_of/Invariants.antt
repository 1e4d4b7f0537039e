-- What is told of the files so far.
use Rattle.std.proofs.Common.{take, map, string_bytes}
use Rattle.islec.specs.Formatting.{TellsEach}
use Rattle.islec.proofs.format.told_of.Given as goal

abbrev pub invariant-loop-file : goal.invariant-loop-file
invariant-loop-file l = TellsEach l.output (take l.file l.files) (map string_bytes (take l.file l.prints)) (string_bytes l.told)
