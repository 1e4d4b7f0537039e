-- Tokens of the S-expressions of definitions spell these again.
use Rattle.std.proofs.Common.{◌≡◌, ℕ, List, [], ◌∷◌, ◌++◌, map, true, refl}
use Rattle.std.specs.Prelude.{nat_le, codes}
use Rattle.std.specs.Str.{IsUtf8}
use Rattle.isle_ast.specs.declared.ast.Extern.{Extern as ExternTree}
use Rattle.isle_ast.specs.declared.ast.Extern.TheVariants.{Constructor as extern_constructor, Extractor as extern_extractor, Const as extern_const}
use Rattle.isle_ast.specs.declared.ast.Def.{Def}
use Rattle.isle_ast.specs.declared.ast.Def.TheVariants.{TypeDef, Decl, Rule, Extractor, Extern, Converter, Pragma, Kept}
use Rattle.isle_ast.specs.Trees.PatternShape.{pattern_of}
use Rattle.isle_syntax.specs.Tokens.PlacedTokens.{Placed}
use Rattle.isle_syntax.specs.Tokens.Names.{is_symbol}
use Rattle.isle_syntax.specs.Grammar.Phrases.{◌⊙◌, Closes, Opening, Says}
use Rattle.isle_syntax.specs.Grammar.DefGrammar.{SpellsDef}
use Rattle.isle_ast.specs.Trees.WithoutPos.{def_without_pos}
use Rattle.isle_syntax.specs.Grammar.Verdict.{max_nesting}
use Rattle.isle_syntax.proofs.Reading.SymbolKinds.{and_first}
use Rattle.isle_layout.specs.SExprTree.{SExprTree, sexpr_atom}
use Rattle.isle_layout.specs.Inside.SExprTokens.{SpellsSExpr}
use Rattle.isle_layout.specs.Spellings.{listed, name_sexpr, pattern_sexpr, item_sexprs}
use Rattle.isle_layout.specs.DefSpellings.{flag, type_value_sexpr, decl_flags, extern_sexpr, rule_name, rule_priority, def_sexpr}
use Rattle.isle_layout.specs.Nesting.{nesting}
use Rattle.isle_layout.specs.Writable.{has_writable_words, writable_def}
use Rattle.isle_layout.proofs.Atoms.EachAtom.{EachAtom}
use Rattle.isle_layout.proofs.ReadsBack.Rows.{Reads, reads_of, Row, listed_row, Again}
use Rattle.isle_layout.proofs.ReadsBack.Trees.{word_again}
use Rattle.isle_layout.proofs.ReadsBack.Types.{type_again}
use Rattle.isle_layout.proofs.ReadsBack.Terms.{decl_again, extractor_again, extern_row, extern_again, converter_again, kept_again}
use Rattle.isle_layout.proofs.ReadsBack.Rules.{body_row, rule_again}

-- the word that a definition's parenthesis opens with, and what follows
behind_word : (w : List ℕ) (rest : List SExprTree) (ts : List Placed) → is_symbol w ≡ true → Reads (listed (sexpr_atom w ∷ rest)) ts
    → (Opening tt ⊙ (Says w tt ⊙ Row rest (Closes tt))) ts
behind_word w rest ts s l =
    let r = listed_row (sexpr_atom w ∷ rest) ts l in
    (r.0, r.1, r.2, r.3, (r.4.0, r.4.1, r.4.2, word_again w r.4.0 s r.4.3, r.4.4))

extern_listed : (x : ExternTree) (ts : List Placed) → Reads (extern_sexpr x) ts → Reads (listed (sexpr_atom (codes "extern") ∷ extern_row x)) ts
extern_listed (extern_constructor _ _ _) ts l = l
extern_listed (extern_extractor _ _ _ _) ts l = l
extern_listed (extern_const _ _ _) ts l = l

def_again : (d : Def) (ts : List Placed) → has_writable_words d ≡ true → Reads (def_sexpr d) ts → Again SpellsDef def_without_pos d ts
def_again (TypeDef t) ts h l =
    let r = behind_word (codes "type") (name_sexpr t.name ∷ (flag (codes "extern") t.is_extern
    ++ (flag (codes "nodebug") t.is_nodebug ++ (type_value_sexpr t.ty ∷ [])))) ts refl l in
    let a = type_again t r.4.1 h r.4.4 in
    (TypeDef a.0, (r.0, r.1, r.2, r.3, (r.4.0, r.4.1, r.4.2, r.4.3, a.1)), (λ i. TypeDef (a.2 i)))
def_again (Decl d) ts h l =
    let r = behind_word (codes "decl") (decl_flags d ++ (name_sexpr d.term ∷ listed (map name_sexpr d.arg_tys) ∷ name_sexpr d.ret_ty ∷ [])) ts refl l
    in
    let a = decl_again d r.4.1 h r.4.4 in
    (Decl a.0, (r.0, r.1, r.2, r.3, (r.4.0, r.4.1, r.4.2, r.4.3, a.1)), (λ i. Decl (a.2 i)))
def_again (Rule rule) ts h l =
    let r = behind_word (codes "rule") (rule_name rule.name ++ (rule_priority rule.prio ++ body_row rule)) ts refl l in
    let a = rule_again rule r.4.1 h r.4.4 in
    (Rule a.0, (r.0, r.1, r.2, r.3, (r.4.0, r.4.1, r.4.2, r.4.3, a.1)), (λ i. Rule (a.2 i)))
def_again (Extractor x) ts h l =
    let r = behind_word (codes "extractor") (listed (name_sexpr x.term ∷ map name_sexpr x.args) ∷ pattern_sexpr (pattern_of x.template) ∷ []) ts refl
    l in
    let a = extractor_again x r.4.1 h r.4.4 in
    (Extractor a.0, (r.0, r.1, r.2, r.3, (r.4.0, r.4.1, r.4.2, r.4.3, a.1)), (λ i. Extractor (a.2 i)))
def_again (Extern x) ts h l =
    let r = behind_word (codes "extern") (extern_row x) ts refl (extern_listed x ts l) in
    let a = extern_again x r.4.1 h r.4.4 in
    (Extern a.0, (r.0, r.1, r.2, r.3, (r.4.0, r.4.1, r.4.2, r.4.3, a.1)), (λ i. Extern (a.2 i)))
def_again (Converter c) ts h l =
    let r = behind_word (codes "convert") (name_sexpr c.inner_ty ∷ name_sexpr c.outer_ty ∷ name_sexpr c.term ∷ []) ts refl l in
    let a = converter_again c r.4.1 h r.4.4 in
    (Converter a.0, (r.0, r.1, r.2, r.3, (r.4.0, r.4.1, r.4.2, r.4.3, a.1)), (λ i. Converter (a.2 i)))
def_again (Pragma p) ts h l = absurd (cc)
def_again (Kept k) ts h l =
    let r = listed_row (name_sexpr k.word ∷ item_sexprs k.items) ts l in
    let a = kept_again k r.1 h r.4 in
    (Kept a.0, (r.0, r.1, r.2, r.3, a.1), (λ i. Kept (a.2 i)))

-- tokens of a definition that can be written, and of which each atom is text, spell it again but for positions
pub reads_back_def : (d : Def) (ts : List Placed) → writable_def d ≡ true → EachAtom IsUtf8 (def_sexpr d) → SpellsSExpr (def_sexpr d) ts
    → (e : Def) × SpellsDef e ts × (def_without_pos e ≡ def_without_pos d)
reads_back_def d ts h u l = def_again d ts (and_first (has_writable_words d) (nat_le (nesting d) max_nesting) h) (reads_of (def_sexpr d) ts u l)
