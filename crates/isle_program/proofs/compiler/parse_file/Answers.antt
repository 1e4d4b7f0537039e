use Rattle.std.proofs.Common.{◌≡◌, ℕ, List, [], ◌∷◌, ap, subst, Vec, Option, Some, None, IfSome}
use Rattle.std.specs.Option.{option_map}
use Rattle.std.specs.Global.{Global}
use Rattle.isle_ast.specs.Positions.Files.{SourceFile}
use Rattle.isle_ast.specs.declared.error.Error.{Error}
use Rattle.isle_ast.specs.declared.refusal.Refusal.{Refusal}
use Rattle.isle_ast.specs.declared.refusal.Refusal.TheVariants.{Fault, Memory}
use Rattle.isle_ast.specs.Errors.{IfFault, IsFaultAnd}
use Rattle.isle_syntax.specs.Grammar.Verdict.{IsWhole, IsFaultIn}
use Rattle.isle_syntax.proofs.Positions.SourcePositions.{places_from_source}
use Rattle.isle_syntax.proofs.Productions.OneReading.{refusal_in}
use Rattle.isle_program.proofs.compiler.parse_file.Goals as goal

-- the fault of a refusal, alone in a list
fault_alone : (Of : Error → Type 0) (refusal : Refusal Error) (told : Refusal (Vec Error Global)) → IfFault refusal Of
    → IfFault told (λ errors. IsFaultAnd refusal (λ error. errors.items ≡ error ∷ []))
    → IfFault told (λ errors. (error : Error) × (errors.items ≡ error ∷ []) × Of error)
fault_alone Of refusal (Memory e) wrong alone = tt
fault_alone Of (Memory e) (Fault errors) wrong alone = absurd alone
fault_alone Of (Fault error) (Fault errors) wrong alone = (error, alone, wrong)

-- what is true of a file's text, which is read
of_file : (P : List ℕ → Type 0) (file : Option SourceFile) (text : List ℕ) → Some text ≡ option_map (λ (f : SourceFile). f.text) file → P text
    → IfSome file (λ f. P f.text)
of_file P (Some file) text is p =
    let same : text ≡ file.text = cc in subst P same p
of_file P None text is p = tt

pub returns-in-Ok-clause-placed : goal.returns-in-Ok-clause-placed
returns-in-Ok-clause-placed c =
    places_from_source c.args.files.now c.new-2.result.source c.in-Ok.defs.items (rw c.new-2.ensures.source c.requires)
    (rw c.new-2.ensures.source c.in-Some.ensures.small) c.in-Ok.ensures.placed

pub returns-in-Err-clause-fault : goal.returns-in-Err-clause-fault
returns-in-Err-clause-fault c =
    let lexer = c.new-2.result in
    let whole : IsWhole c.in-Some.text.now lexer = record { size = ap (λ s. s.size) c.new-2.ensures.source; tokens = c.new-2.ensures.tokens } in
    let number = ap (λ s. s.file) c.new-2.ensures.source in
    let wrong = refusal_in c.args.file c.in-Some.text.now lexer c.in-Err.refusal whole number c.in-Err.ensures.fault c.in-Err.ensures.too_deep
    c.in-Err.ensures.kinds in
    let told = fault_alone (IsFaultIn c.args.file c.in-Some.text.now) c.in-Err.refusal c.alone.result wrong c.alone.ensures.fault in
    of_file (λ (text : List ℕ). IfFault c.alone.result (λ errors. (error : Error) × (errors.items ≡ error ∷ []) × IsFaultIn c.args.file text error)) _
    c.in-Some.text.now c.in-Some.ensures.text told
