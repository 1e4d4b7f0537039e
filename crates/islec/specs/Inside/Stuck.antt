-- Terms of which no call is stuck, one by one.
use Rattle.std.specs.Prelude.{List, [], ◌∷◌, ⊤}
use Rattle.isle_types.specs.declared.ids.TermId.{TermId}
use Rattle.isle_program.specs.declared.program.Program.{Program}
use Rattle.islec.specs.Missing.{IsNeverStuckTerm}

-- each of these terms is covered or partial, if it can be run
abbrev pub AreNeverStuck : Program → List TermId → Type 0
AreNeverStuck program [] = ⊤
AreNeverStuck program (term ∷ terms) = IsNeverStuckTerm program term × AreNeverStuck program terms
