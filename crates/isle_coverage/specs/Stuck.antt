-- Calls of which none is ever stuck.
use Rattle.std.specs.Prelude.{◌≡◌, ◌⊎◌, ℕ, true}
use Rattle.isle_program.specs.declared.program.Program.{Program}
use Rattle.isle_program.specs.Facts.Reach.{Reaches}
use Rattle.isle_program.specs.Meanings.{checked}
use Rattle.isle_program.specs.Programs.{types_of, terms_of}
use Rattle.isle_coverage.specs.Covered.{IsNeverStuck}

-- a term is this one, or one that this one reaches
abbrev pub MayCome : Program → ℕ → ℕ → Type 0
MayCome program t u = (u ≡ t) ⊎ Reaches (types_of program) (terms_of program) t u

-- each term with rules to which a call of the term may come is never stuck
abbrev pub AreNeverStuck : Program → ℕ → Type 0
AreNeverStuck program t = (u : ℕ) → MayCome program t u → (checked program).has_rules u ≡ true → IsNeverStuck (checked program) u
