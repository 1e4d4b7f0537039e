-- Tokens of the S-expressions of definitions spell a text of these again, within the bound on open parentheses.
use Rattle.std.proofs.Common.{◌≡◌, List, [], ◌∷◌, map, true, Some, refl, leb-true}
use Rattle.std.specs.Prelude.{nat_le}
use Rattle.std.specs.List.{All}
use Rattle.std.specs.Str.{IsUtf8}
use Rattle.std.proofs.lemmas.List.Elements.{All-head, All-tail}
use Rattle.isle_ast.specs.declared.ast.Def.{Def}
use Rattle.isle_syntax.specs.Tokens.PlacedTokens.{Placed}
use Rattle.isle_syntax.specs.Grammar.Phrases.{Each, depth_left}
use Rattle.isle_syntax.specs.Grammar.DefGrammar.{SpellsText}
use Rattle.isle_ast.specs.Trees.WithoutPos.{def_without_pos}
use Rattle.isle_syntax.specs.Grammar.Verdict.{max_nesting, NestsWithin}
use Rattle.isle_syntax.proofs.Reading.SymbolKinds.{and_first, and_second}
use Rattle.isle_layout.specs.SExprTree.{sexpr_trees_of}
use Rattle.isle_layout.specs.Inside.SExprTokens.{SpellsSExpr}
use Rattle.isle_layout.specs.DefSpellings.{def_sexpr}
use Rattle.isle_layout.specs.Nesting.{nesting}
use Rattle.isle_layout.specs.Writable.{has_writable_words, writable_def}
use Rattle.isle_layout.proofs.Atoms.EachAtom.{EachAtom, EachAtoms}
use Rattle.isle_layout.proofs.ReadsBack.Rows.{reads_of}
use Rattle.isle_layout.proofs.ReadsBack.Defs.{reads_back_def}
use Rattle.isle_layout.proofs.ReadsBack.DepthsLeft.{depth_left_split}
use Rattle.isle_layout.proofs.ReadsBack.Depths.{def_fits}

-- a definition leaves as much room as there was
pub def_depth_left : (d : Def) (ts : List Placed) → writable_def d ≡ true → EachAtom IsUtf8 (def_sexpr d) → SpellsSExpr (def_sexpr d) ts
    → depth_left max_nesting ts ≡ Some max_nesting
def_depth_left d ts h u l =
    let words = and_first (has_writable_words d) (nat_le (nesting d) max_nesting) h in
    let few = leb-true (nesting d) max_nesting (and_second (has_writable_words d) (nat_le (nesting d) max_nesting) h) in
    (def_fits d words).within max_nesting ts few (reads_of (def_sexpr d) ts u l)

text_depth_left : (defs : List Def) (ts : List Placed) → All (λ def. writable_def def ≡ true) defs
    → EachAtoms IsUtf8 (sexpr_trees_of (map def_sexpr defs)) → Each SpellsSExpr (map def_sexpr defs) ts
    → depth_left max_nesting ts ≡ Some max_nesting
text_depth_left [] ts w u l = (λ i. depth_left max_nesting (l i))
text_depth_left (d ∷ defs) ts w u l =
    depth_left_split max_nesting max_nesting max_nesting ts l.0 l.1 l.2
    (def_depth_left d l.0 (All-head (λ def. writable_def def ≡ true) d defs w) u.0 l.3)
    (text_depth_left defs l.1 (All-tail (λ def. writable_def def ≡ true) d defs w) u.1 l.4)

-- definitions that the tokens spell, and that are these but for positions
abbrev TextAgain : List Def → List Placed → Type 0
TextAgain defs ts = (again : List Def) × SpellsText again ts × (map def_without_pos again ≡ map def_without_pos defs)

text_again : (defs : List Def) (ts : List Placed) → All (λ def. writable_def def ≡ true) defs → EachAtoms IsUtf8 (sexpr_trees_of (map def_sexpr defs))
    → Each SpellsSExpr (map def_sexpr defs) ts → TextAgain defs ts
text_again [] ts w u l = ([], l, refl)
text_again (d ∷ defs) ts w u l =
    let first = reads_back_def d l.0 (All-head (λ def. writable_def def ≡ true) d defs w) u.0 l.3 in
    let others = text_again defs l.1 (All-tail (λ def. writable_def def ≡ true) d defs w) u.1 l.4 in
    (first.0 ∷ others.0, (l.0, l.1, l.2, first.1, others.1), (λ i. first.2 i ∷ others.2 i))

-- tokens of definitions that can be written, and of which each atom is text, spell them again but for positions, and
-- open no more parentheses than may be open
pub reads_back_text : (defs : List Def) (ts : List Placed) → All (λ def. writable_def def ≡ true) defs
    → EachAtoms IsUtf8 (sexpr_trees_of (map def_sexpr defs)) → Each SpellsSExpr (map def_sexpr defs) ts
    → ((again : List Def) × SpellsText again ts × (map def_without_pos again ≡ map def_without_pos defs)) × NestsWithin ts
reads_back_text defs ts w u l = (text_again defs ts w u l, (max_nesting, text_depth_left defs ts w u l))
