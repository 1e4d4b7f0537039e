-- The prints of the files so far.
use Rattle.std.proofs.Common.{take, map, string_bytes}
use Rattle.islec.specs.Formatting.{ArePrints}
use Rattle.islec.proofs.format.prints_of.Given as goal

abbrev pub invariant-loop-file : goal.invariant-loop-file
invariant-loop-file l = ArePrints l.printing.keep l.printing.width 0 (take l.file l.files) (map string_bytes l.prints.items)
