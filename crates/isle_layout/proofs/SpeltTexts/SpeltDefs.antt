-- A definition that is spelt in a text can be written.
use Rattle.std.proofs.Common.{ℤ, ◌≡◌, ℕ, suc, List, [], ◌∷◌, ◌++◌, map, Bool, Option, None, Some, true, false, refl, ap, ◌∙◌, sym, subst, le-leb}
use Rattle.std.proofs.Common.{eq-eqb, arith}
use Rattle.std.specs.Prelude.{nat_le, ◌&&◌, ◌||◌, ◌==◌, not, codes}
use Rattle.std.specs.List.{list_all, All}
use Rattle.std.proofs.lemmas.Bool.{and_from, and_parts, false≢true}
use Rattle.std.proofs.lemmas.List.Elements.{All-nil, All-cons, All-head, All-tail}
use Rattle.isle_ast.specs.declared.ast.Ident.{Ident}
use Rattle.isle_ast.specs.declared.ast.StructField.{StructField}
use Rattle.isle_ast.specs.declared.ast.Fields.{Fields}
use Rattle.isle_ast.specs.declared.ast.Fields.TheVariants.{Unit as no_fields, Struct as named_fields, Tuple as tuple_fields}
use Rattle.isle_ast.specs.declared.ast.Variant.{Variant}
use Rattle.isle_ast.specs.declared.ast.TypeValue.{TypeValue}
use Rattle.isle_ast.specs.declared.ast.TypeValue.TheVariants.{Primitive, Enum, Struct}
use Rattle.isle_ast.specs.declared.ast.«Type».{«Type» as TypeTree}
use Rattle.isle_ast.specs.declared.ast.Decl.{Decl as DeclTree}
use Rattle.isle_ast.specs.declared.ast.IfLet.{IfLet}
use Rattle.isle_ast.specs.declared.ast.Rule.{Rule as RuleTree}
use Rattle.isle_ast.specs.declared.ast.Extractor.{Extractor as ExtractorTree}
use Rattle.isle_ast.specs.declared.ast.Extern.{Extern as ExternTree}
use Rattle.isle_ast.specs.declared.ast.Extern.TheVariants.{Constructor as extern_constructor, Extractor as extern_extractor, Const as extern_const}
use Rattle.isle_ast.specs.declared.ast.Converter.{Converter as ConverterTree}
use Rattle.isle_ast.specs.declared.ast.Kept.{Kept as KeptTree}
use Rattle.isle_ast.specs.declared.ast.Def.{Def}
use Rattle.isle_ast.specs.declared.ast.Def.TheVariants.{TypeDef, Decl, Rule, Extractor, Extern, Converter, Pragma, Kept}
use Rattle.isle_ast.specs.Trees.PatternTree.{PatternTree, pattern_var, pattern_bind, pattern_bool, pattern_int, pattern_prim, pattern_term}
use Rattle.isle_ast.specs.Trees.PatternTree.{pattern_wildcard, pattern_and, pattern_macro_arg}
use Rattle.isle_ast.specs.Trees.PatternShape.{pattern_of}
use Rattle.isle_ast.specs.Trees.ExprTree.{ExprTree, expr_term, expr_var, expr_bool, expr_int, expr_prim, expr_let}
use Rattle.isle_ast.specs.Trees.ExprShape.{expr_of}
use Rattle.isle_syntax.specs.Tokens.PlacedTokens.{Placed, symbol}
use Rattle.isle_syntax.specs.Tokens.Names.{is_ident, is_word}
use Rattle.isle_syntax.specs.Grammar.Phrases.{◌⊙◌, Opening, Closes, SymbolOf, Flag, Each, Closed, next_symbol_is, first_pos, depth_left}
use Rattle.isle_syntax.specs.Grammar.TreeGrammar.{IsList}
use Rattle.isle_syntax.specs.Grammar.DefGrammar.{SpellsIdent, SpellsField, SpellsFields, IsFilled, numbered, SpellsVariant, bare, in_list}
use Rattle.isle_syntax.specs.Grammar.DefGrammar.{SpellsTypeValue, SpellsType, SpellsSignature, SpellsDecl, SpellsExtractor, SpellsExtern}
use Rattle.isle_syntax.specs.Grammar.DefGrammar.{SpellsConverter, SpellsName, SpellsPriority, SpellsIfLet, if_let, if_holds, IsRightSide}
use Rattle.isle_syntax.specs.Grammar.DefGrammar.{SpellsRightSide, SpellsRule, is_kept_word, SpellsKept, SpellsDef, SpellsText}
use Rattle.isle_syntax.specs.Grammar.Verdict.{max_nesting, NestsWithin, IsSpelt}
use Rattle.isle_syntax.specs.Tokens.RemainingTokens.{RemainingTokens}
use Rattle.isle_syntax.specs.Grammar.Verdict.{IsWhole}
use Rattle.isle_layout.specs.Inside.TextTokens.{AreTextTokens}
use Rattle.isle_layout.specs.Nesting.{nesting}
use Rattle.isle_layout.specs.Writable.{writable_ident, writable_pattern, writable_expr, writable_struct_field, writable_tuple_fields, is_filled}
use Rattle.isle_layout.specs.Writable.{writable_fields, writable_variant, writable_type_value, writable_type, is_free_of_flags, writable_decl}
use Rattle.isle_layout.specs.Writable.{writable_extractor, writable_extern, writable_converter, writable_rule_name, writable_priority, writable_iflet}
use Rattle.isle_layout.specs.Writable.{is_list, is_right_side, writable_rule, writable_kept, has_writable_words, writable_def}
use Rattle.isle_ast.specs.Trees.WithoutPos.{def_without_pos}
use Rattle.isle_layout.proofs.SpeltTexts.WithoutPos.{writable_without_pos}
use Rattle.isle_layout.proofs.SpeltTexts.DepthLeft.{between}
use Rattle.isle_layout.proofs.Atoms.TextTokens.{tokens_are_text}
use Rattle.isle_layout.proofs.SpeltTexts.Meanings.{Means, front_of, back_of, means_first, means_second, means_both, means_three, means_with}
use Rattle.isle_layout.proofs.SpeltTexts.Meanings.{means_symbol, means_each, means_flag}
use Rattle.isle_layout.proofs.SpeltTexts.SpeltTrees.{means_constant, pattern_means, expr_means, items_mean}
use Rattle.isle_layout.proofs.SpeltTexts.DefDepthLeft.{def_depths_left}

idents_mean : (xs : List Ident) → Means (list_all writable_ident xs) (Each SpellsIdent xs)
idents_mean xs = means_each writable_ident SpellsIdent (λ x. means_symbol is_ident x) xs

-- ---- types

field_means : (f : StructField) → Means (writable_struct_field f) (SpellsField f)
field_means f = means_second (means_both (means_symbol is_ident f.name) (means_first (means_symbol is_ident f.ty)))

filled : {A : Type 0} (xs : List A) → IsFilled xs → is_filled xs ≡ true
filled [] h = absurd h
filled (x ∷ xs) h = refl

numbered_filled : (n : ℕ) (xs : List Ident) → IsFilled xs → is_filled (numbered n xs) ≡ true
numbered_filled n [] h = absurd h
numbered_filled n (x ∷ xs) h = refl

numbered_writable : (n : ℕ) (xs : List Ident) → list_all writable_ident xs ≡ true → writable_tuple_fields n (numbered n xs) ≡ true
numbered_writable n [] h = refl
numbered_writable n (x ∷ xs) h =
    let parts = and_parts (writable_ident x) (list_all writable_ident xs) h in
    let others = writable_tuple_fields (suc n) (numbered (suc n) xs) in
    and_from (n == n && writable_ident x) others (and_from (n == n) (writable_ident x) (eq-eqb n n refl) parts.0)
    (numbered_writable (suc n) xs parts.1)

fields_mean : (f : Fields) → Means (writable_fields f) (SpellsFields f)
fields_mean no_fields = record { holds = λ ts text l. refl }
fields_mean (named_fields fs) = record {
  holds = λ ts text l.
      and_from (is_filled fs.fields) (list_all writable_struct_field fs.fields) (filled fs.fields l.1)
      ((means_first (means_each writable_struct_field SpellsField field_means fs.fields)).holds ts text l.0);
}
fields_mean (tuple_fields fs) = record {
  holds = λ ts text l.
      let idents = (means_first (idents_mean l.0)).holds ts text l.1 in
      ap (λ x. is_filled x && writable_tuple_fields 0 x) l.2
      ∙ and_from (is_filled (numbered 0 l.0)) (writable_tuple_fields 0 (numbered 0 l.0)) (numbered_filled 0 l.0 l.3) (numbered_writable 0 l.0 idents);
}

variant_writable : (v : Variant) (ts : List Placed) → AreTextTokens ts → SpellsVariant v ts → writable_variant v ≡ true
variant_writable v ts text (bare l place none) =
    ap (λ f. writable_ident v.name && writable_fields f) none ∙ and_from (writable_ident v.name) true l.1 refl
variant_writable v ts text (in_list l) = (means_second (means_both (means_symbol is_ident v.name) (fields_mean v.fields))).holds ts text l

value_means : (value : TypeValue) → Means (writable_type_value value) (SpellsTypeValue value)
value_means (Primitive x p) = means_second (means_second (means_first (means_symbol is_ident x)))
value_means (Enum variants p) =
    means_second (means_second (means_first (means_each writable_variant SpellsVariant (λ v. record { holds = variant_writable v }) variants)))
value_means (Struct fields p) = means_second (means_second (fields_mean fields))

type_means : (t : TypeTree) → Means (writable_type t) (SpellsType t)
type_means t =
    means_with (λ ts. t.pos ≡ t.name.1) (means_both (means_symbol is_ident t.name) (means_second (means_first (value_means t.ty))))

-- ---- terms

-- whether the first token is a symbol of some kind, where a name is the first
first_name : (q : List ℕ → Bool) (x : Ident) (u v ts : List Placed) → ts ≡ u ++ v → u ≡ symbol x.1 x.0 ∷ [] → next_symbol_is q ts ≡ q x.0
first_name q x u v ts e f = ap (next_symbol_is q) e ∙ ap (λ y. next_symbol_is q (y ++ v)) f

module _ (x : Ident) (M : List Placed → Type 0) where
  -- a name and what follows it
  abbrev Named : List Placed → Type 0
  Named = SymbolOf is_ident x ⊙ M

  not_named : (q : List ℕ → Bool) (ts : List Placed) → Named ts → next_symbol_is q ts ≡ false → not (q x.0) ≡ true
  not_named q ts l e = ap not (sym (first_name q x l.0 l.1 ts l.2 l.3.0) ∙ e)

  free_of_one : (w : List ℕ) (a : Bool) (ts : List Placed) → Flag w a Named ts → (a || not (is_word w x.0)) ≡ true
  free_of_one w true ts l = refl
  free_of_one w false ts l = not_named (is_word w) ts l.0 l.1

  free_of_two : (w v : List ℕ) (a b : Bool) (ts : List Placed) → Flag w a (Flag v b Named) ts → (a || b || not (is_word w x.0)) ≡ true
  free_of_two w v true b ts l = refl
  free_of_two w v false true ts l = refl
  free_of_two w v false false ts l = not_named (is_word w) ts l.0.0 l.1

  free_of_three : (w v u : List ℕ) (a b c : Bool) (ts : List Placed) → Flag w a (Flag v b (Flag u c Named)) ts
      → (a || b || c || not (is_word w x.0)) ≡ true
  free_of_three w v u true b c ts l = refl
  free_of_three w v u false true c ts l = refl
  free_of_three w v u false false true ts l = refl
  free_of_three w v u false false false ts l = not_named (is_word w) ts l.0.0.0 l.1

  free_of_four : (w v u t : List ℕ) (a b c d : Bool) (ts : List Placed) → Flag w a (Flag v b (Flag u c (Flag t d Named))) ts
      → (a || b || c || d || not (is_word w x.0)) ≡ true
  free_of_four w v u t true b c d ts l = refl
  free_of_four w v u t false true c d ts l = refl
  free_of_four w v u t false false true d ts l = refl
  free_of_four w v u t false false false true ts l = refl
  free_of_four w v u t false false false false ts l = not_named (is_word w) ts l.0.0.0.0 l.1

behind_flag : (w : List ℕ) (a : Bool) (L : List Placed → Type 0) (ts : List Placed) → Flag w a L ts → (u : List Placed) × L u
behind_flag w true L ts l = (l.1, l.4)
behind_flag w false L ts l = (ts, l.0)

signature_means : (d : DeclTree) → Means (writable_ident d.term && (list_all writable_ident d.arg_tys && writable_ident d.ret_ty)) (SpellsSignature d)
signature_means d =
    means_both (means_symbol is_ident d.term)
    (means_second (means_both (means_first (idents_mean d.arg_tys)) (means_first (means_symbol is_ident d.ret_ty))))

decl_writable : (d : DeclTree) (free : Bool) → free ≡ true
    → (writable_ident d.term && (list_all writable_ident d.arg_tys && writable_ident d.ret_ty)) ≡ true
    → (writable_ident d.term && free && list_all writable_ident d.arg_tys && writable_ident d.ret_ty) ≡ true
decl_writable d free f h =
    let outer = and_parts (writable_ident d.term) (list_all writable_ident d.arg_tys && writable_ident d.ret_ty) h in
    let inner = and_parts (list_all writable_ident d.arg_tys) (writable_ident d.ret_ty) outer.1 in
    let named = and_from (writable_ident d.term) free outer.0 f in
    and_from (writable_ident d.term && free && list_all writable_ident d.arg_tys) (writable_ident d.ret_ty)
    (and_from (writable_ident d.term && free) (list_all writable_ident d.arg_tys) named inner.0) inner.1

module _ (d : DeclTree) where
  abbrev behind_rec : List Placed → Type 0
  behind_rec = SpellsSignature d

  abbrev behind_partial : List Placed → Type 0
  behind_partial = Flag (codes "rec") d.rec behind_rec

  abbrev behind_multi : List Placed → Type 0
  behind_multi = Flag (codes "partial") d.partial behind_partial

  abbrev behind_pure : List Placed → Type 0
  behind_pure = Flag (codes "multi") d.multi behind_multi

  abbrev flagged : List Placed → Type 0
  flagged = Flag (codes "pure") d.pure behind_pure

  abbrev behind_term : List Placed → Type 0
  behind_term = Opening tt ⊙ (Closed SpellsIdent d.arg_tys ⊙ (SpellsIdent d.ret_ty ⊙ Closes tt))

  flags_mean : Means (writable_ident d.term && (list_all writable_ident d.arg_tys && writable_ident d.ret_ty)) flagged
  flags_mean =
      means_flag (codes "pure") d.pure (means_flag (codes "multi") d.multi
      (means_flag (codes "partial") d.partial (means_flag (codes "rec") d.rec (signature_means d))))

  free_of_flags : (ts : List Placed) → flagged ts → is_free_of_flags d ≡ true
  free_of_flags ts l =
      let m = behind_flag (codes "pure") d.pure behind_pure ts l in
      let p = behind_flag (codes "multi") d.multi behind_multi m.0 m.1 in
      let r = behind_flag (codes "partial") d.partial behind_partial p.0 p.1 in
      let pure = free_of_four d.term behind_term (codes "pure") (codes "multi") (codes "partial") (codes "rec") d.pure d.multi d.partial d.rec ts l in
      let multi = free_of_three d.term behind_term (codes "multi") (codes "partial") (codes "rec") d.multi d.partial d.rec m.0 m.1 in
      let partial = free_of_two d.term behind_term (codes "partial") (codes "rec") d.partial d.rec p.0 p.1 in
      let rec = free_of_one d.term behind_term (codes "rec") d.rec r.0 r.1 in
      and_from _ _ (and_from _ _ (and_from _ _ pure multi) partial) rec

  decl_holds : (ts : List Placed) → AreTextTokens ts → SpellsDecl d ts → writable_decl d ≡ true
  decl_holds ts text l = decl_writable d (is_free_of_flags d) (free_of_flags ts l.0) (flags_mean.holds ts text l.0)

extractor_means : (x : ExtractorTree) → Means (writable_extractor x) (SpellsExtractor x)
extractor_means x =
    means_second
    (means_both (means_both (means_symbol is_ident x.term) (means_first (idents_mean x.args))) (means_first (pattern_means (pattern_of x.template))))

extern_means : (x : ExternTree) → Means (writable_extern x) (SpellsExtern x)
extern_means (extern_constructor term func p) = means_second (means_both (means_symbol is_ident term) (means_first (means_symbol is_ident func)))
extern_means (extern_extractor term func p infallible) =
    let words = means_both (means_symbol is_ident term) (means_first {M = Closes tt} (means_symbol is_ident func)) in
    record {
      holds = λ ts text l.
          and_from (writable_ident term && writable_ident func) (infallible || not (is_word (codes "infallible") term.0))
          ((means_flag (codes "infallible") infallible words).holds l.1 (back_of ts l.0 l.1 l.2 text) l.4)
          (free_of_one term (SpellsIdent func ⊙ Closes tt) (codes "infallible") infallible l.1 l.4);
    }
extern_means (extern_const name ty p) = means_second (means_both (means_constant name) (means_first (means_symbol is_ident ty)))

converter_means : (c : ConverterTree) → Means (writable_converter c) (SpellsConverter c)
converter_means c =
    means_with (λ ts. c.pos ≡ c.inner_ty.1)
    (means_three (writable_ident c.inner_ty) (writable_ident c.outer_ty) (writable_ident c.term)
    (means_both (means_symbol is_ident c.inner_ty) (means_both (means_symbol is_ident c.outer_ty) (means_first (means_symbol is_ident c.term)))))

-- ---- rules

name_means : (name : Option Ident) → Means (writable_rule_name name) (SpellsName name)
name_means None = record { holds = λ ts text l. refl }
name_means (Some x) = record { holds = λ ts text l. l.1 }

priority_means : (priority : Option ℤ) → Means (writable_priority priority) (SpellsPriority priority)
priority_means None = record { holds = λ ts text l. refl }
priority_means (Some z) = record { holds = λ ts text l. l.2 }

iflet_writable : (c : IfLet) (ts : List Placed) → AreTextTokens ts → SpellsIfLet c ts → writable_iflet c ≡ true
iflet_writable c ts text (if_let l) =
    (means_second (means_second (means_both (pattern_means (pattern_of c.pattern)) (means_first (expr_means (expr_of c.expr)))))).holds ts text l
iflet_writable c ts text (if_holds p l same) =
    let right = (means_second (means_second (means_first (expr_means (expr_of c.expr))))).holds ts text l in
    and_from (writable_pattern (pattern_of c.pattern)) (writable_expr (expr_of c.expr)) (ap writable_pattern same) right

iflets_mean : (cs : List IfLet) → Means (list_all writable_iflet cs) (Each SpellsIfLet cs)
iflets_mean cs = means_each writable_iflet SpellsIfLet (λ c. record { holds = iflet_writable c }) cs

list_pattern : (t : PatternTree) → IsList t → is_list t ≡ true
list_pattern (pattern_var _ _) h = absurd h
list_pattern (pattern_bind _ _ _) h = absurd h
list_pattern (pattern_bool _ _) h = absurd h
list_pattern (pattern_int _ _ _) h = absurd h
list_pattern (pattern_prim _ _) h = absurd h
list_pattern (pattern_term _ _ _) h = refl
list_pattern (pattern_wildcard _) h = absurd h
list_pattern (pattern_and _ _) h = refl
list_pattern (pattern_macro_arg _ _) h = absurd h

right_side : (t : ExprTree) → IsRightSide t → is_right_side t ≡ true
right_side (expr_term x args p) h = ap not h
right_side (expr_var _ _) h = refl
right_side (expr_bool _ _) h = refl
right_side (expr_int _ _ _) h = refl
right_side (expr_prim _ _) h = refl
right_side (expr_let _ _ _) h = refl

right_means : (t : ExprTree) → Means (is_right_side t && writable_expr t) (SpellsRightSide t)
right_means t = record {
  holds = λ ts text l. and_from (is_right_side t) (writable_expr t) (right_side t l.1) ((expr_means t).holds ts text l.0);
}

seven : (a p b c d e f : Bool) → b ≡ true → (a && (p && (c && (d && (e && f))))) ≡ true → (a && p && b && c && d && e && f) ≡ true
seven true true true true true e f h l = l
seven true true true true false e f h l = l
seven true true true false d e f h l = l
seven true true false c d e f h l = absurd (false≢true h)
seven true false b c d e f h l = l
seven false p b c d e f h l = l

rule_means : (r : RuleTree) → Means (writable_rule r) (SpellsRule r)
rule_means r =
    let right = means_both (iflets_mean r.iflets) (means_first {M = Closes tt} (right_means (expr_of r.expr))) in
    let parts = means_both (name_means r.name) (means_both (priority_means r.prio) (means_both (pattern_means (pattern_of r.pattern)) right)) in
    record {
      holds = λ ts text l.
          seven (writable_rule_name r.name) (writable_priority r.prio) (is_list (pattern_of r.pattern)) (writable_pattern (pattern_of r.pattern))
          (list_all writable_iflet r.iflets)
          (is_right_side (expr_of r.expr)) (writable_expr (expr_of r.expr)) (list_pattern (pattern_of r.pattern) l.1) (parts.holds ts text l.0);
    }

-- ---- definitions

kept_means : (k : KeptTree) → Means (writable_kept k) (SpellsKept k)
kept_means k = means_both (means_symbol is_kept_word k.word) (means_with (λ ts. first_pos ts ≡ k.pos) (means_first (items_mean k.items)))

def_means : (def : Def) → Means (has_writable_words def) (SpellsDef def)
def_means (TypeDef t) = means_second (means_second (type_means t))
def_means (Decl d) = means_second (means_second (record { holds = decl_holds d }))
def_means (Rule r) = means_second (means_second (rule_means r))
def_means (Extractor x) = means_second (means_second (extractor_means x))
def_means (Extern x) = means_second (means_second (extern_means x))
def_means (Converter c) = means_second (means_second (converter_means c))
def_means (Pragma p) = record { holds = λ ts text l. absurd l }
def_means (Kept k) = means_second (kept_means k)

-- what is spelt within the bound can be written
pub spelt_is_writable : (def : Def) (ts : List Placed) → AreTextTokens ts → NestsWithin ts → SpellsDef def ts → writable_def def ≡ true
spelt_is_writable def ts text nests l =
    let few = def_depths_left def max_nesting nests.0 ts (omega arith) l nests.1 in
    and_from (has_writable_words def) (nat_le (nesting def) max_nesting) ((def_means def).holds ts text l) (le-leb (nesting def) max_nesting few.0)

-- and so can each definition of a text
pub text_is_writable : (defs : List Def) (ts : List Placed) → AreTextTokens ts → NestsWithin ts → SpellsText defs ts
    → All (λ def. writable_def def ≡ true) defs
text_is_writable [] ts text nests l = All-nil (λ def. writable_def def ≡ true)
text_is_writable (def ∷ defs) ts text nests l =
    let k = between max_nesting ts l.0 l.1 nests.0 l.2 nests.1 in
    let same = (def_depths_left def max_nesting k.0 l.0 (omega arith) l.3 k.1).1 in
    let behind : NestsWithin l.1 = (nests.0, subst (λ r. depth_left r l.1 ≡ Some nests.0) same k.2) in
    All-cons (λ d. writable_def d ≡ true) def defs (spelt_is_writable def l.0 (front_of ts l.0 l.1 l.2 text) (k.0, k.1) l.3)
    (text_is_writable defs l.1 (back_of ts l.0 l.1 l.2 text) behind l.4)

-- what the parser gives of a whole text can be written
pub parsed_is_writable : (text : List ℕ) (remaining : RemainingTokens) (defs : List Def) → IsWhole text remaining → IsSpelt remaining defs
    → All (λ def. writable_def def ≡ true) defs
parsed_is_writable text remaining defs whole spelt =
    text_is_writable defs remaining.left (tokens_are_text whole.tokens) spelt.nests spelt.spelt

all_without_pos : (defs : List Def) → All (λ def. writable_def def ≡ true) defs → All (λ def. writable_def def ≡ true) (map def_without_pos defs)
all_without_pos [] h = All-nil (λ def. writable_def def ≡ true)
all_without_pos (def ∷ defs) h =
    let first = writable_without_pos def ∙ All-head (λ d. writable_def d ≡ true) def defs h in
    All-cons (λ d. writable_def d ≡ true) (def_without_pos def) (map def_without_pos defs) first
    (all_without_pos defs (All-tail (λ d. writable_def d ≡ true) def defs h))

-- so can what it gives without positions
pub parsed_without_pos_is_writable : (text : List ℕ) (remaining : RemainingTokens) (placed defs : List Def) → IsWhole text remaining
    → IsSpelt remaining placed
    → defs ≡ map def_without_pos placed → All (λ def. writable_def def ≡ true) defs
parsed_without_pos_is_writable text remaining placed defs whole spelt same =
    subst (All (λ def. writable_def def ≡ true)) (sym same) (all_without_pos placed (parsed_is_writable text remaining placed whole spelt))
