-- Files that are spelt one after another.
use Rattle.std.proofs.Common.{◌≡◌, ℕ, zero, suc, List, [], ◌∷◌, ◌++◌, ◌+◌, ◌<◌, ◌≤◌, length, take, take_all, add-one, ap, sym, ◌∙◌, refl}
use Rattle.std.proofs.Common.{append_assoc, append-nil, subst, arith, IfSome, slice_get}
use Rattle.isle_ast.specs.declared.ast.Def.{Def}
use Rattle.isle_ast.specs.Positions.Files.{SourceFile}
use Rattle.isle_syntax.specs.Grammar.Verdict.{Spells}
use Rattle.isle_program.specs.Compiled.{AreSpelt}

-- one file more at the end adds its definitions
pub AreSpelt-more : (first i number : ℕ) (files : List SourceFile) (defs these : List Def) → i < length files → number ≡ first + i
    → AreSpelt first (take i files) defs → IfSome (slice_get files i) (λ file. Spells number file.text these)
    → AreSpelt first (take (suc i) files) (defs ++ these)
AreSpelt-more first i number [] defs these within is spelt next =
    let none : ⊥ = omega (arith, within) in absurd none
AreSpelt-more first zero number (file ∷ others) defs these within is spelt next = (
  these,
  [],
  subst (λ n. Spells n file.text these) (omega arith) next,
  refl,
  ap (λ l. l ++ these) spelt ∙ sym (append-nil these),
)
AreSpelt-more first (suc i) number (file ∷ others) defs these within is spelt next = (
  spelt.0,
  spelt.1 ++ these,
  spelt.2,
  AreSpelt-more (suc first) i number others spelt.1 these (omega arith) (omega arith) spelt.3 next,
  ap (λ l. l ++ these) spelt.4 ∙ append_assoc spelt.0 spelt.1 these,
)

-- the same, as a loop goes on
pub AreSpelt-pushed : (i : ℕ) (files : List SourceFile) (defs these grown : List Def) → i < length files
    → AreSpelt 0 (take i files) defs → IfSome (slice_get files i) (λ file. Spells i file.text these)
    → grown ≡ defs ++ these → AreSpelt 0 (take (i + 1) files) grown
AreSpelt-pushed i files defs these grown within spelt next is =
    rw is (rw (add-one i) (AreSpelt-more 0 i i files defs these within (omega arith) spelt next))
