-- How a text is formatted.
use Rattle.std.proofs.Common.{◌≡◌, ℕ, List, map, true, false, refl, sym, ap, subst, ◌∙◌}
use Rattle.std.specs.List.{All, list_any}
use Rattle.std.specs.Str.{IsUtf8}
use Rattle.std.proofs.lemmas.Bool.{false≢true}
use Rattle.isle_ast.specs.declared.refusal.Refusal.{Refusal}
use Rattle.isle_ast.specs.declared.refusal.Refusal.TheVariants.{Fault}
use Rattle.isle_ast.specs.declared.ast.Def.{Def}
use Rattle.isle_ast.specs.Trees.MacroArgs.{HasNoMacroArgs}
use Rattle.isle_ast.specs.Trees.WithoutPos.{def_without_pos}
use Rattle.isle_layout.specs.declared.to_sexpr.HasMacroArg.{HasMacroArg}
use Rattle.isle_layout.specs.DefSpellings.{OnFault, def_has_macro_arg}
use Rattle.isle_layout.specs.Prints.{print_of}
use Rattle.isle_syntax.specs.Grammar.Verdict.{Spells}
use Rattle.isle_layout.specs.Formats.{Formats, IsSettled, IsFaultless}
use Rattle.isle_layout.proofs.Layouts.MacroArgs.{defs_have_none}
use Rattle.isle_layout.proofs.SpeltTexts.SpeltDefs.{parsed_is_writable, parsed_without_pos_is_writable}
use Rattle.isle_syntax.proofs.Productions.OneReading.{whole_reading, spells_of, reading_of, spelt_has_no_fault}
use Rattle.isle_layout.proofs.Layouts.SameSpelling.{same_print}
use Rattle.isle_layout.proofs.ReadsBack.Prints.{AreWritable, print_reads_back}

-- no fault comes of definitions without numbered arguments of templates
pub never_refused : (refusal : Refusal HasMacroArg) (fault : HasMacroArg) (given defs : List Def) → refusal ≡ Fault fault → given ≡ defs
    → All HasNoMacroArgs defs
    → OnFault refusal (list_any def_has_macro_arg given ≡ true) → ⊥
never_refused refusal fault given defs e same none some =
    let found : list_any def_has_macro_arg given ≡ true = subst (λ r. OnFault r (list_any def_has_macro_arg given ≡ true)) e some in
    let without : list_any def_has_macro_arg given ≡ false = ap (list_any def_has_macro_arg) same ∙ defs_have_none defs none in
    false≢true (sym without ∙ found)

-- what a text spells can be written
pub spelt_is_writable : (file : ℕ) (text : List ℕ) (defs : List Def) → Spells file text defs → AreWritable defs
spelt_is_writable file text defs spells =
    let read = reading_of file text defs spells in
    parsed_is_writable text read.0 defs read.1 read.2

-- and so it can without positions
pub spelt_without_pos_is_writable : (file : ℕ) (text : List ℕ) (defs : List Def) → Spells file text defs → AreWritable (map def_without_pos defs)
spelt_without_pos_is_writable file text defs spells =
    let read = reading_of file text defs spells in
    parsed_without_pos_is_writable text read.0 defs (map def_without_pos defs) read.1 read.2 refl

-- a text spells one list of definitions
spelt_once : (file : ℕ) (text : List ℕ) (defs others : List Def) → Spells file text defs → Spells file text others → others ≡ defs
spelt_once file text defs others spells also =
    let whole = whole_reading file text in
    (spells whole.0 whole.1 whole.2).only others (also whole.0 whole.1 whole.2).spelt

-- so it is formatted in one way
pub formatted_once : (file width : ℕ) (text one other : List ℕ) → Formats file width text one → Formats file width text other → one ≡ other
formatted_once file width text one other f g =
    f.2 ∙ ap (print_of width) (spelt_once file text g.0 f.0 g.1 f.1) ∙ sym g.2

-- the print of what can be written is formatted to itself, as a file of any number
print_formats : (width : ℕ) (once : List ℕ) (defs : List Def) → IsUtf8 once → once ≡ print_of width defs → AreWritable defs → (file : ℕ)
    → Formats file width once once
print_formats width once defs u e w file =
    let whole = whole_reading file once in
    let back = (print_reads_back width once defs u e).1 w whole.0 whole.1 in (
      back.0,
      spells_of file once whole.0 back.0 whole.1 whole.2 back.1,
      e ∙ sym (same_print width back.0 defs back.2),
    )

-- what is formatted once is settled
pub formatted_settles : (file width : ℕ) (text once : List ℕ) → IsUtf8 once → Formats file width text once → IsSettled width once
formatted_settles file width text once u f =
    let again = print_formats width once f.0 u f.2 (spelt_is_writable file text f.0 f.1) in
    record {
      formats = again;
      only = λ other out g. formatted_once other width once out once g (again other);
    }

-- what is formatted to itself, as a file of any number, has no fault
pub settled_is_faultless : (width : ℕ) (text : List ℕ) → IsSettled width text → IsFaultless text
settled_is_faultless width text settled file error fault =
    let whole = whole_reading file text in
    let here = settled.formats file in
    spelt_has_no_fault whole.0 here.0 error (here.1 whole.0 whole.1 whole.2) (fault whole.0 whole.1 whole.2)
