-- What is written of the trees of a program's rules, by what its parts write.
use Rattle.std.proofs.Common.{◌≡◌, ◌≢◌, ◌<◌, ◌+◌, ◌∙◌, ◌++◌, ◌∷◌, [], inl, inr, ℕ, suc, List, Bool, false, Option, Some, None, Result, Ok, Err, IfOk, IfErr, subst, map, sym, ap, ap₂, take, drop, length, get_or, String, arith}
use Rattle.std.specs.Global.{Global}
use Rattle.std.specs.Prelude.{string_bytes}
use Rattle.std.proofs.Math.Seq.{drop-cons}
use Rattle.std.proofs.lemmas.List.{map-append, take-append-drop}
use Rattle.std.specs.Io.KnownBytes.{Appends}
use Rattle.isle_syntax.specs.Errors.{Report}
use Rattle.isle_ast.specs.Positions.Files.{SourceFile}
use Rattle.isle_types.specs.declared.ids.TermId.{TermId}
use Rattle.isle_types.proofs.DefinitionTurns.{take_here}
use Rattle.isle_program.specs.declared.compiler.Refused.{Refused}
use Rattle.isle_program.specs.declared.compiler.Refused.TheVariants.{Faults}
use Rattle.isle_program.specs.declared.program.Program.{Program}
use Rattle.isle_program.specs.Compiled.{AreAccepted, AreFaults, IsProgramOf, IfFaults}
use Rattle.isle_program.specs.Programs.{program_term}
use Rattle.islec.specs.Reasons.{ReportsFaults}
use Rattle.islec.specs.declared.serve.ServeFault.{ServeFault}
use Rattle.islec.specs.declared.serve.ServeFault.TheVariants.{Memory}
use Rattle.islec.specs.declared.status.Status.{Status}
use Rattle.islec.specs.declared.status.Status.TheVariants.{AllWell, Usage}
use Rattle.islec.specs.Drawing.{AreNamed, CutsTrees, DrawsTrees, IsUnknown, TellsTreesOf, WritesTrees, WritesUnknown, unknown_line}
use Rattle.islec.specs.Writing.{AppendsBeginning}
use Rattle.islec.proofs.RefusedFiles.{cuts_faults}

module _ (files all : List SourceFile) (same : files ≡ all) (program : Program) (is : IsProgramOf files program) (accepted : AreAccepted files)
    (names : List (List ℕ)) (dot : Bool) (old new : Option (List ℕ)) where
  pub draws_by : (r : Result Status ServeFault) → IfOk r (λ s. s ≡ AllWell → (text : List ℕ) × DrawsTrees program files names dot text
      × Appends old new text)
      → IfOk r (λ s. s ≡ AllWell → WritesTrees all names dot old new)
  draws_by (Err f) told = tt
  draws_by (Ok s) told = λ e.
      let (text, drawn, written) = told e in
      record {
        accepted = subst AreAccepted same accepted;
        program = program;
        is = subst (λ l. IsProgramOf l program) same is;
        text = text;
        drawn = subst (λ l. DrawsTrees program l names dot text) same drawn;
        written = written;
      }

  pub unknown_by : (r : Result Status ServeFault) → IfOk r (λ s. s ≡ Usage → (name : List ℕ) × IsUnknown program names name
      × Appends old new (unknown_line name))
      → IfOk r (λ s. s ≡ Usage → WritesUnknown all names old new)
  unknown_by (Err f) told = tt
  unknown_by (Ok s) told = λ e.
      let (name, unknown, written) = told e in
      record {
        accepted = subst AreAccepted same accepted;
        program = program;
        is = subst (λ l. IsProgramOf l program) same is;
        name = name;
        unknown = unknown;
        written = written;
      }

  pub draw_cut : (r : Result Status ServeFault)
      → IfErr r (λ f. f ≢ Memory → (text : List ℕ) × TellsTreesOf program files names dot text × AppendsBeginning old new text)
      → IfErr r (λ f. f ≢ Memory → CutsTrees all names dot old new)
  draw_cut (Ok s) told = tt
  draw_cut (Err f) told = λ e.
      let (text, tells, begun) = told e in
      inl (program, subst (λ l. IsProgramOf l program) same is, (text, subst (λ l. TellsTreesOf program l names dot text) same tells, begun))

module _ (files all : List SourceFile) (refused : Refused) (report : Report) (old new : Option (List ℕ)) (is : refused ≡ Faults report)
    (same : files ≡ all)
    (not_accepted : IfFaults refused (λ r. ¬ AreAccepted files)) (faults : IfFaults refused (λ r. AreFaults files r.errors))
    (of_files : IfFaults refused (λ r. r.files ≡ files)) where
  pub refusal_undrawn : (names : List (List ℕ)) (dot : Bool) (r : Result Status ServeFault)
      → IfErr r (λ f. f ≢ Memory → (text : List ℕ) × ReportsFaults false report text × AppendsBeginning old new text)
      → IfErr r (λ f. f ≢ Memory → CutsTrees all names dot old new)
  refusal_undrawn names dot (Ok s) wrote = tt
  refusal_undrawn names dot (Err f) wrote = λ e. let (text, told, cut) = wrote e in
      inr (cuts_faults false text files all refused report old new is same not_accepted faults of_files told cut)

-- names before a place, this one, and those after it
parted : (names : List (String Global)) (i : ℕ) (name : String Global) → i < length names → name ≡ get_or names i name
    → names ≡ take i names ++ name ∷ drop (i + 1) names
parted names i name low is =
    let next : suc i ≡ i + 1 = omega arith in
    sym (take-append-drop i names) ∙ ap (λ (l : List (String Global)). take i names ++ l)
    (drop-cons names i name low ∙ ap₂ (λ (n : String Global) (k : ℕ). n ∷ drop k names) (sym is) next)

module _ (program : Program) (names : List (String Global)) (terms : List TermId) (i : ℕ) (name : String Global) (low : i < length names)
    (is : name ≡ get_or names i name) (before : AreNamed program (map string_bytes (take i names)) terms) where
  -- one more name, that of a term
  pub one_more : (term : TermId) → program_term program (string_bytes name) ≡ Some term
      → AreNamed program (map string_bytes (take (i + 1) names)) (terms ++ term ∷ [])
  one_more term named =
      let all : take (i + 1) names ≡ take i names ++ name ∷ [] = take_here names i name low is in
      ap (λ (l : List (String Global)). map (program_term program) (map string_bytes l)) all
      ∙ ap (map (program_term program)) (map-append string_bytes (take i names) (name ∷ []))
      ∙ map-append (program_term program) (map string_bytes (take i names)) (string_bytes name ∷ [])
      ∙ ap₂ (λ (l m : List (Option TermId)). l ++ m) before (ap (λ (t : Option TermId). t ∷ []) named)
      ∙ sym (map-append Some terms (term ∷ []))

  -- a name that is that of no term
  pub first_unknown : program_term program (string_bytes name) ≡ None → IsUnknown program (map string_bytes names) (string_bytes name)
  first_unknown none = record {
    before = map string_bytes (take i names);
    after = map string_bytes (drop (i + 1) names);
    terms = terms;
    among = ap (map string_bytes) (parted names i name low is) ∙ map-append string_bytes (take i names) (name ∷ drop (i + 1) names);
    known = before;
    unknown = none;
  }
