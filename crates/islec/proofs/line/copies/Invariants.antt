use Rattle.std.proofs.Common.{◌≡◌, map, take}
use Rattle.islec.specs.Lines.{names_of}
use Rattle.islec.proofs.line.copies.Given as goal

-- the copies so far are of the names before here
abbrev pub invariant-loop-name : goal.invariant-loop-name
invariant-loop-name l = names_of l.copies ≡ map (λ name. name.now) (take l.name-index l.names)
