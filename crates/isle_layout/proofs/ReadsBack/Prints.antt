-- The print of definitions reads back as them where they can be written, and only there.
use Rattle.std.proofs.Common.{◌≡◌, ℕ, List, [], ◌∷◌, ◌++◌, map, true, refl, sym, ap, subst, ◌∙◌, append_assoc, lit<}
use Rattle.std.specs.Prelude.{◌↔◌, codes}
use Rattle.std.specs.List.{All}
use Rattle.std.specs.Str.{IsUtf8}
use Rattle.std.proofs.lemmas.List.Elements.{All-nil, All-cons, All-head, All-tail}
use Rattle.isle_ast.specs.declared.ast.Def.{Def}
use Rattle.isle_syntax.specs.Tokens.TokensOf.{TokensOf}
use Rattle.isle_syntax.specs.Grammar.DefGrammar.{SpellsText}
use Rattle.isle_syntax.specs.Grammar.Verdict.{NestsWithin}
use Rattle.isle_ast.specs.Trees.WithoutPos.{def_without_pos}
use Rattle.isle_syntax.proofs.Tokens.Cuts.{utf8_behind_ascii}
use Rattle.isle_layout.specs.SExprTree.{sexpr_trees_of}
use Rattle.isle_layout.specs.Inside.SExprTokens.{HaveAtoms}
use Rattle.isle_layout.specs.DefSpellings.{def_sexpr}
use Rattle.isle_layout.specs.Layout.{layout}
use Rattle.isle_layout.specs.Prints.{def_print, print_of}
use Rattle.isle_layout.specs.Writable.{writable_def}
use Rattle.isle_layout.specs.ReadsBack.{IsReadAs}
use Rattle.isle_layout.proofs.Atoms.LayoutTokens.{printed, printed_tokens}
use Rattle.isle_layout.proofs.SpeltTexts.SpeltDefs.{parsed_is_writable}
use Rattle.isle_layout.proofs.SpeltTexts.WithoutPos.{writable_without_pos}
use Rattle.isle_layout.proofs.Atoms.EachAtom.{EachAtoms}
use Rattle.isle_layout.proofs.Atoms.PrintedTexts.{text_before, layout_texts, def_has_atoms}
use Rattle.isle_layout.proofs.ReadsBack.WholeTexts.{reads_back_text}
use Rattle.isle_syntax.proofs.Productions.OneReading.{one_text, whole_reading, tokens_alone}

-- each of some definitions can be written
abbrev pub AreWritable : List Def → Type 0
AreWritable defs = All (λ def. writable_def def ≡ true) defs

-- ---- what reads back can be written

head_same : {A : Type 0} {x y : A} {xs ys : List A} → x ∷ xs ≡ y ∷ ys → x ≡ y
head_same e = cc

tail_same : {A : Type 0} {x y : A} {xs ys : List A} → x ∷ xs ≡ y ∷ ys → xs ≡ ys
tail_same e = cc

-- definitions that are the same but for positions can both be written
pub writable_again : (read defs : List Def) → map def_without_pos read ≡ map def_without_pos defs → AreWritable read → AreWritable defs
writable_again read [] e w = All-nil (λ def. writable_def def ≡ true)
writable_again [] (d ∷ defs) e w = absurd (cc)
writable_again (r ∷ read) (d ∷ defs) e w =
    let first : writable_def d ≡ true = sym (writable_without_pos d) ∙ ap writable_def (sym (head_same e)) ∙ writable_without_pos r
    ∙ All-head (λ def. writable_def def ≡ true) r read w in
    All-cons (λ def. writable_def def ≡ true) d defs first
    (writable_again read defs (tail_same e) (All-tail (λ def. writable_def def ≡ true) r read w))

-- what some text reads back as can be written
pub read_is_writable : (text : List ℕ) (defs : List Def) → IsReadAs text defs → AreWritable defs
read_is_writable text defs back =
    let whole = whole_reading 0 text in
    let read = back whole.0 whole.1 in
    writable_again read.0 defs read.2 (parsed_is_writable text whole.0 read.0 whole.1 read.1)

-- ---- what can be written reads back

print_same : (width : ℕ) (defs : List Def) → printed width (map def_sexpr defs) ≡ print_of width defs
print_same width [] = refl
print_same width (d ∷ defs) = ap (λ text. def_print width d ++ text) (print_same width defs)

-- each atom of some definitions is text
abbrev pub AreTexts : List Def → Type 0
AreTexts defs = EachAtoms IsUtf8 (sexpr_trees_of (map def_sexpr defs))

-- as it is where they are printed as text
pub print_texts : (width : ℕ) (defs : List Def) → IsUtf8 (print_of width defs) → AreTexts defs
print_texts width [] u = tt
print_texts width (d ∷ defs) u =
    let whole = subst IsUtf8 (append_assoc (layout width 0 (def_sexpr d)) (codes "\n") (print_of width defs)) u in (
      layout_texts width 0 (def_sexpr d) (text_before (layout width 0 (def_sexpr d)) 10 (print_of width defs) (lit< tt) whole),
      print_texts width defs (utf8_behind_ascii (layout width 0 (def_sexpr d)) 10 (print_of width defs) whole (lit< tt)),
    )

have_atoms : (defs : List Def) → AreWritable defs → AreTexts defs → HaveAtoms (sexpr_trees_of (map def_sexpr defs))
have_atoms [] w u = tt
have_atoms (d ∷ defs) w u = (
  def_has_atoms d (All-head (λ def. writable_def def ≡ true) d defs w) u.0,
  have_atoms defs (All-tail (λ def. writable_def def ≡ true) d defs w) u.1,
)

-- definitions that can be written are read back from where they are printed as text
pub writable_reads_back : (width : ℕ) (defs : List Def) → IsUtf8 (print_of width defs) → AreWritable defs → IsReadAs (print_of width defs) defs
writable_reads_back width defs u w remaining whole =
    let texts = print_texts width defs u in
    let p = printed_tokens width (map def_sexpr defs) (have_atoms defs w texts) remaining.source in
    let tokens = subst (λ text. TokensOf remaining.source text p.0 remaining.source.size true) (print_same width defs) p.2 in
    let same = tokens_alone remaining.source (print_of width defs) remaining.left p.0 remaining.end remaining.source.size remaining.clean true
    whole.tokens tokens in
    let r = reads_back_text defs p.0 w texts p.1 in
    let spelt = subst (SpellsText r.0.0) (sym same.0) r.0.1 in
    let nests = subst NestsWithin (sym same.0) r.1 in (
      r.0.0,
      record { clean = same.2; spelt = spelt; nests = nests; only = λ others l. one_text remaining.left r.0.0 others spelt nests l },
      r.0.2,
    )

-- a print reads back as its definitions exactly where they can be written
pub print_reads_back : (width : ℕ) (text : List ℕ) (defs : List Def) → IsUtf8 text → text ≡ print_of width defs → IsReadAs text defs
    ↔ AreWritable defs
print_reads_back width text defs u e =
    (read_is_writable text defs, λ w. subst (λ t. IsReadAs t defs) (sym e) (writable_reads_back width defs (subst IsUtf8 e u) w))
