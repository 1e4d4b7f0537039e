-- The fault of the first file that has one.
use Rattle.std.proofs.Common.{◌≡◌, ◌<◌, ℕ, List, [], ◌∷◌, length, take, subst, arith, inl, inr, Vec, Option, Some, IfSome, slice_get}
use Rattle.std.proofs.lemmas.Option.{slice_get_cases}
use Rattle.std.specs.Global.{Global}
use Rattle.isle_ast.specs.declared.ast.Def.{Def}
use Rattle.isle_ast.specs.declared.error.Error.{Error}
use Rattle.isle_ast.specs.declared.refusal.Refusal.{Refusal}
use Rattle.isle_ast.specs.declared.refusal.Refusal.TheVariants.{Fault, Memory}
use Rattle.isle_ast.specs.Errors.{IfFault}
use Rattle.isle_ast.specs.Positions.Files.{SourceFile}
use Rattle.isle_syntax.specs.Grammar.Verdict.{IsFaultIn}
use Rattle.isle_program.specs.Compiled.{AreSpelt, IsFirstFault}

-- there is a file at a place in range
pub file_there : (files : List SourceFile) (place : ℕ) → place < length files → (file : SourceFile) × (slice_get files place ≡ Some file)
file_there files place within = elim ((slice_get_cases files place).1) as (λ _. (file : SourceFile) × (slice_get files place ≡ Some file)) [
  | inl there ↦ (there.0, there.2)
  | inr past ↦ absurd (omega (arith, past.0, within))
]

-- an error is the first fault, where the files before it are spelt
pub is_first_fault : (files : List SourceFile) (place : ℕ) (before : (defs : List Def) × AreSpelt 0 (take place files) defs) (error : Error)
    → place < length files
    → IfSome (slice_get files place) (λ file. IsFaultIn place file.text error) → IsFirstFault files error
is_first_fault files place before error within fault =
    let there = file_there files place within in
    record {
      place = place;
      file = there.0;
      defs = before.0;
      among = there.1;
      before = before.1;
      fault = subst (λ (o : Option SourceFile). IfSome o (λ file. IsFaultIn place file.text error)) there.1 fault;
    }

-- so is one that is alone in its list
pub first_fault_alone : (files : List SourceFile) (place : ℕ) (before : (defs : List Def) × AreSpelt 0 (take place files) defs)
    (told : Refusal (Vec Error Global)) → place < length files
    → IfSome (slice_get files place)
    (λ file. IfFault told (λ errors. (error : Error) × (errors.items ≡ error ∷ []) × IsFaultIn place file.text error))
    → IfFault told (λ errors. (error : Error) × (errors.items ≡ error ∷ []) × IsFirstFault files error)
first_fault_alone files place before (Memory e) within fault = tt
first_fault_alone files place before (Fault errors) within fault =
    let there = file_there files place within in
    let one = subst (λ (o : Option SourceFile). IfSome o
    (λ file. (error : Error) × (errors.items ≡ error ∷ []) × IsFaultIn place file.text error)) there.1 fault in (
      one.0,
      one.1,
      record {
        place = place;
        file = there.0;
        defs = before.0;
        among = there.1;
        before = before.1;
        fault = one.2;
      },
    )
