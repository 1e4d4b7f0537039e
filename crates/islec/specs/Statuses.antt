-- How a command ends.
use Rattle.std.specs.Prelude.{◌≡◌, ℕ, List, Option, Result, Ok, Err, codes}
use Rattle.islec.specs.declared.serve.ServeFault.{ServeFault}
use Rattle.islec.specs.declared.serve.ServeFault.TheVariants.{Read, Write, Memory}
use Rattle.islec.specs.declared.status.Status.{Status}
use Rattle.islec.specs.declared.status.Status.TheVariants.{AllWell, TextsRefused, Usage, SomeRefused, InputOutput, OutOfMemory}
use Rattle.islec.specs.Writing.{AppendsBeginning}

-- the exit status
abbrev pub code_of : Status → ℕ
code_of AllWell = 0
code_of TextsRefused = 1
code_of Usage = 2
code_of SomeRefused = 3
code_of InputOutput = 4
code_of OutOfMemory = 5

-- a status of a command that came to its end: all was well, or texts or some query were refused
abbrev pub IsEnd : Status → Type 0
IsEnd AllWell = Unit {0}
IsEnd TextsRefused = Unit {0}
IsEnd Usage = ⊥
IsEnd SomeRefused = Unit {0}
IsEnd InputOutput = ⊥
IsEnd OutOfMemory = ⊥

-- the status of a command that came to its end or met a fault: where memory ran out a beginning of the line `out of memory` is written
abbrev pub EndsAs : Result Status ServeFault → Status → (old new : Option (List ℕ)) → Type 0
EndsAs (Ok own) status old new = (status ≡ own) × (new ≡ old)
EndsAs (Err Read) status old new = (status ≡ InputOutput) × (new ≡ old)
EndsAs (Err Write) status old new = (status ≡ InputOutput) × (new ≡ old)
EndsAs (Err Memory) status old new = (status ≡ OutOfMemory) × AppendsBeginning old new (codes "out of memory\n")
