-- The atoms of definitions that can be written are tokens.
use Rattle.std.proofs.Common.{◌≡◌, ℕ, suc, ◌-◌, ◌^◌, List, [], ◌∷◌, Bool, true, false, Option, Some, None, map, refl, arith}
use Rattle.std.specs.Prelude.{ℤ, ◌&&◌, ◌||◌, ◌==◌, not, nat_le, pos, negsuc, codes, FitsSigned}
use Rattle.std.proofs.lemmas.Bool.{leb-true, ltb-true}
use Rattle.std.specs.List.{list_all}
use Rattle.std.specs.Int.{w64, w128}
use Rattle.isle_syntax.specs.declared.lexer.Token.TheVariants.{Int}
use Rattle.isle_ast.specs.declared.ast.Ident.{Ident}
use Rattle.isle_ast.specs.declared.ast.StructField.{StructField}
use Rattle.isle_ast.specs.declared.ast.TupleField.{TupleField}
use Rattle.isle_ast.specs.declared.ast.Fields.{Fields}
use Rattle.isle_ast.specs.declared.ast.Fields.TheVariants.{Unit as no_fields, Struct as named_fields, Tuple as tuple_fields}
use Rattle.isle_ast.specs.declared.ast.Variant.{Variant}
use Rattle.isle_ast.specs.declared.ast.TypeValue.{TypeValue}
use Rattle.isle_ast.specs.declared.ast.TypeValue.TheVariants.{Primitive, Enum, Struct}
use Rattle.isle_ast.specs.declared.ast.«Type».{«Type» as TypeTree}
use Rattle.isle_ast.specs.declared.ast.Decl.{Decl as DeclTree}
use Rattle.isle_ast.specs.declared.ast.IfLet.{IfLet}
use Rattle.isle_ast.specs.declared.ast.Rule.{Rule as RuleTree}
use Rattle.isle_ast.specs.declared.ast.Extractor.{Extractor as ExtractorTree}
use Rattle.isle_ast.specs.declared.ast.Extern.{Extern as ExternTree}
use Rattle.isle_ast.specs.declared.ast.Extern.TheVariants.{Constructor as extern_constructor, Extractor as extern_extractor, Const as extern_const}
use Rattle.isle_ast.specs.declared.ast.Converter.{Converter as ConverterTree}
use Rattle.isle_ast.specs.declared.ast.Kept.{Kept as KeptTree}
use Rattle.isle_ast.specs.declared.ast.Def.{Def}
use Rattle.isle_ast.specs.declared.ast.Def.TheVariants.{TypeDef, Decl, Rule, Extractor, Extern, Converter, Pragma, Kept}
use Rattle.isle_ast.specs.Trees.PatternShape.{pattern_of}
use Rattle.isle_ast.specs.Trees.ExprShape.{expr_of}
use Rattle.isle_syntax.specs.Tokens.Names.{is_symbol, is_word, is_const_name}
use Rattle.isle_syntax.specs.Grammar.DefGrammar.{is_kept_word}
use Rattle.isle_syntax.specs.Grammar.Verdict.{max_nesting}
use Rattle.isle_syntax.proofs.Reading.SymbolKinds.{and_first, and_second}
use Rattle.isle_layout.specs.Spellings.{name_sexpr, expr_sexpr}
use Rattle.isle_layout.specs.DefSpellings.{flag, struct_field_sexpr, tuple_field_sexpr, fields_sexprs, variant_of, variant_sexpr, type_value_sexpr}
use Rattle.isle_layout.specs.DefSpellings.{type_sexpr, decl_flags, decl_sexpr, extractor_sexpr, extern_sexpr, converter_sexpr, rule_name}
use Rattle.isle_layout.specs.DefSpellings.{rule_priority, iflet_sexpr, rule_sexpr, kept_sexpr, def_sexpr}
use Rattle.isle_layout.specs.Nesting.{nesting}
use Rattle.isle_syntax.specs.Grammar.DefGrammar.{fits_priority}
use Rattle.isle_layout.specs.Writable.{writable_ident, writable_pattern, writable_expr, writable_items, writable_struct_field, writable_tuple_fields}
use Rattle.isle_layout.specs.Writable.{is_filled, writable_fields, writable_variant, writable_type_value, writable_type, is_free_of_flags}
use Rattle.isle_layout.specs.Writable.{writable_decl, writable_extractor, writable_extern, writable_converter, writable_rule_name, writable_priority}
use Rattle.isle_layout.specs.Writable.{writable_iflet, is_list, is_right_side, writable_rule, writable_kept, has_writable_words, writable_def}
use Rattle.isle_layout.proofs.Atoms.IdentifierTexts.{kept_word_is_symbol}
use Rattle.isle_layout.proofs.Atoms.IntegerTexts.{signed_token}
use Rattle.isle_layout.proofs.Atoms.EachAtom.{IsAtomIfText, IsReadable, AreReadable, readable_append, readable_map}
use Rattle.isle_layout.proofs.Atoms.TreeAtoms.{symbol_atom, ident_readable, constant_readable, pattern_readable, expr_readable, items_readable}

-- ---- words and names

word_readable : (w : List ℕ) → is_symbol w ≡ true → IsAtomIfText w
word_readable w e = λ u. symbol_atom w e

name_readable : (x : Ident) → writable_ident x ≡ true → IsReadable (name_sexpr x)
name_readable x e = ident_readable x.0 e

names_readable : (xs : List Ident) → list_all writable_ident xs ≡ true → AreReadable (map name_sexpr xs)
names_readable = readable_map name_sexpr writable_ident name_readable

flag_readable : (w : List ℕ) (set : Bool) → is_symbol w ≡ true → AreReadable (flag w set)
flag_readable w true e = (word_readable w e, tt)
flag_readable w false e = tt

-- ---- types

struct_field_readable : (x : StructField) → writable_struct_field x ≡ true → IsReadable (struct_field_sexpr x)
struct_field_readable x e = (
  name_readable x.name (and_first (writable_ident x.name) (writable_ident x.ty) e),
  (name_readable x.ty (and_second (writable_ident x.name) (writable_ident x.ty) e), tt),
)

tuple_fields_readable : (next : ℕ) (xs : List TupleField) → writable_tuple_fields next xs ≡ true → AreReadable (map tuple_field_sexpr xs)
tuple_fields_readable next [] e = tt
tuple_fields_readable next (x ∷ xs) e =
    let first = and_first ((x.index == next) && writable_ident x.ty) (writable_tuple_fields (suc next) xs) e in (
      name_readable x.ty (and_second (x.index == next) (writable_ident x.ty) first),
      tuple_fields_readable (suc next) xs (and_second ((x.index == next) && writable_ident x.ty) (writable_tuple_fields (suc next) xs) e),
    )

fields_readable : (x : Fields) → writable_fields x ≡ true → AreReadable (fields_sexprs x)
fields_readable no_fields e = tt
fields_readable (named_fields x) e =
    readable_map struct_field_sexpr writable_struct_field struct_field_readable x.fields
    (and_second (is_filled x.fields) (list_all writable_struct_field x.fields) e)
fields_readable (tuple_fields x) e =
    tuple_fields_readable 0 x.fields (and_second (is_filled x.fields) (writable_tuple_fields 0 x.fields) e)

variant_of_readable : (name : Ident) (x : Fields) → writable_ident name ≡ true → AreReadable (fields_sexprs x) → IsReadable (variant_of name x)
variant_of_readable name no_fields e f = name_readable name e
variant_of_readable name (named_fields x) e f = (name_readable name e, f)
variant_of_readable name (tuple_fields x) e f = (name_readable name e, f)

variant_readable : (x : Variant) → writable_variant x ≡ true → IsReadable (variant_sexpr x)
variant_readable x e =
    variant_of_readable x.name x.fields (and_first (writable_ident x.name) (writable_fields x.fields) e)
    (fields_readable x.fields (and_second (writable_ident x.name) (writable_fields x.fields) e))

type_value_readable : (x : TypeValue) → writable_type_value x ≡ true → IsReadable (type_value_sexpr x)
type_value_readable (Primitive x _) e = (word_readable (codes "primitive") refl, (name_readable x e, tt))
type_value_readable (Enum variants _) e =
    (word_readable (codes "enum") refl, readable_map variant_sexpr writable_variant variant_readable variants e)
type_value_readable (Struct fields _) e = (word_readable (codes "struct") refl, fields_readable fields e)

type_readable : (x : TypeTree) → writable_type x ≡ true → IsReadable (type_sexpr x)
type_readable x e = (
  word_readable (codes "type") refl,
  (
    name_readable x.name (and_first (writable_ident x.name) (writable_type_value x.ty) e),
    readable_append (flag (codes "extern") x.is_extern) _ (flag_readable (codes "extern") x.is_extern refl)
        (readable_append (flag (codes "nodebug") x.is_nodebug) (type_value_sexpr x.ty ∷ []) (flag_readable (codes "nodebug") x.is_nodebug refl)
        (type_value_readable x.ty (and_second (writable_ident x.name) (writable_type_value x.ty) e), tt)),
  ),
)

-- ---- terms

flags_readable : (d : DeclTree) → AreReadable (decl_flags d)
flags_readable d =
    readable_append (flag (codes "pure") d.pure) _ (flag_readable (codes "pure") d.pure refl)
    (readable_append (flag (codes "multi") d.multi) _ (flag_readable (codes "multi") d.multi refl)
    (readable_append (flag (codes "partial") d.partial) (flag (codes "rec") d.rec) (flag_readable (codes "partial") d.partial refl)
    (flag_readable (codes "rec") d.rec refl)))

decl_readable : (d : DeclTree) → writable_decl d ≡ true → IsReadable (decl_sexpr d)
decl_readable d e =
    let three = and_first (writable_ident d.term && is_free_of_flags d && list_all writable_ident d.arg_tys) (writable_ident d.ret_ty) e in
    let two = and_first (writable_ident d.term && is_free_of_flags d) (list_all writable_ident d.arg_tys) three in (
      word_readable (codes "decl") refl,
      readable_append (decl_flags d) _ (flags_readable d) (
        name_readable d.term (and_first (writable_ident d.term) (is_free_of_flags d) two),
        (
          names_readable d.arg_tys (and_second (writable_ident d.term && is_free_of_flags d) (list_all writable_ident d.arg_tys) three),
          (
            name_readable d.ret_ty (and_second (writable_ident d.term && is_free_of_flags d
                && list_all writable_ident d.arg_tys) (writable_ident d.ret_ty) e),
            tt,
          ),
        ),
      ),
    )

extractor_readable : (x : ExtractorTree) → writable_extractor x ≡ true → IsReadable (extractor_sexpr x)
extractor_readable x e =
    let names = and_first (writable_ident x.term && list_all writable_ident x.args) (writable_pattern (pattern_of x.template)) e in (
      word_readable (codes "extractor") refl,
      (
        (
          name_readable x.term (and_first (writable_ident x.term) (list_all writable_ident x.args) names),
          names_readable x.args (and_second (writable_ident x.term) (list_all writable_ident x.args) names),
        ),
        (
          pattern_readable (pattern_of x.template) (and_second (writable_ident x.term
              && list_all writable_ident x.args) (writable_pattern (pattern_of x.template)) e),
          tt,
        ),
      ),
    )

extern_readable : (x : ExternTree) → writable_extern x ≡ true → IsReadable (extern_sexpr x)
extern_readable (extern_constructor term func _) e = (
  word_readable (codes "extern") refl,
  (
    word_readable (codes "constructor") refl,
    (
      name_readable term (and_first (writable_ident term) (writable_ident func) e),
      (name_readable func (and_second (writable_ident term) (writable_ident func) e), tt),
    ),
  ),
)
extern_readable (extern_extractor term func _ infallible) e =
    let names = and_first (writable_ident term && writable_ident func) (infallible || not (is_word (codes "infallible") term.0)) e in (
      word_readable (codes "extern") refl,
      (
        word_readable (codes "extractor") refl,
        readable_append (flag (codes "infallible") infallible) _ (flag_readable (codes "infallible") infallible refl) (
          name_readable term (and_first (writable_ident term) (writable_ident func) names),
          (name_readable func (and_second (writable_ident term) (writable_ident func) names), tt),
        ),
      ),
    )
extern_readable (extern_const name ty _) e = (
  word_readable (codes "extern") refl,
  (
    word_readable (codes "const") refl,
    (
      constant_readable name (and_first (is_const_name name.0) (writable_ident ty) e),
      (name_readable ty (and_second (is_const_name name.0) (writable_ident ty) e), tt),
    ),
  ),
)

converter_readable : (c : ConverterTree) → writable_converter c ≡ true → IsReadable (converter_sexpr c)
converter_readable c e =
    let types = and_first (writable_ident c.inner_ty && writable_ident c.outer_ty) (writable_ident c.term) e in (
      word_readable (codes "convert") refl,
      (
        name_readable c.inner_ty (and_first (writable_ident c.inner_ty) (writable_ident c.outer_ty) types),
        (
          name_readable c.outer_ty (and_second (writable_ident c.inner_ty) (writable_ident c.outer_ty) types),
          (name_readable c.term (and_second (writable_ident c.inner_ty && writable_ident c.outer_ty) (writable_ident c.term) e), tt),
        ),
      ),
    )

-- ---- rules

rule_name_readable : (name : Option Ident) → writable_rule_name name ≡ true → AreReadable (rule_name name)
rule_name_readable None e = tt
rule_name_readable (Some x) e = (name_readable x e, tt)

pub fits_small : (z : ℤ) → fits_priority z ≡ true → FitsSigned w64 z
fits_small (pos n) e = record { sfits = ltb-true n (2 ^ 63) e }
fits_small (negsuc n) e =
    let most = leb-true n (2 ^ 63 - 1) (and_first (nat_le n (2 ^ 63 - 1)) true e) in record { sfits = omega (arith, most) }

pub wider : (z : ℤ) → FitsSigned w64 z → FitsSigned w128 z
wider z f = record { sfits = omega (arith, f.sfits) }

rule_priority_readable : (priority : Option ℤ) → writable_priority priority ≡ true → AreReadable (rule_priority priority)
rule_priority_readable None e = tt
rule_priority_readable (Some z) e = (λ u. (Int z, signed_token z (wider z (fits_small z e))), tt)

iflets_readable : (cs : List IfLet) → list_all writable_iflet cs ≡ true → AreReadable (map iflet_sexpr cs)
iflets_readable [] e = tt
iflets_readable (c ∷ cs) e =
    let first = and_first (writable_iflet c) (list_all writable_iflet cs) e in
    let pattern = pattern_of c.pattern in
    let expr = expr_of c.expr in (
      (
        word_readable (codes "if-let") refl,
        (
          pattern_readable pattern (and_first (writable_pattern pattern) (writable_expr expr) first),
          (expr_readable expr (and_second (writable_pattern pattern) (writable_expr expr) first), tt),
        ),
      ),
      iflets_readable cs (and_second (writable_iflet c) (list_all writable_iflet cs) e),
    )

rule_readable : (r : RuleTree) → writable_rule r ≡ true → IsReadable (rule_sexpr r)
rule_readable r e =
    let name = writable_rule_name r.name in
    let priority = writable_priority r.prio in
    let pattern = pattern_of r.pattern in
    let expr = expr_of r.expr in
    let five = and_first (name && priority && is_list pattern && writable_pattern pattern && list_all writable_iflet r.iflets
    && is_right_side expr) (writable_expr expr) e in
    let four = and_first (name && priority && is_list pattern && writable_pattern pattern
    && list_all writable_iflet r.iflets) (is_right_side expr) five in
    let three = and_first (name && priority && is_list pattern && writable_pattern pattern) (list_all writable_iflet r.iflets) four in
    let two = and_first (name && priority && is_list pattern) (writable_pattern pattern) three in
    let one = and_first (name && priority) (is_list pattern) two in (
      word_readable (codes "rule") refl,
      readable_append (rule_name r.name) _ (rule_name_readable r.name (and_first name priority one))
          (readable_append (rule_priority r.prio) _ (rule_priority_readable r.prio (and_second name priority one)) (
            pattern_readable pattern (and_second (name && priority && is_list pattern) (writable_pattern pattern) three),
            readable_append (map iflet_sexpr r.iflets) (expr_sexpr expr ∷ [])
                (iflets_readable r.iflets (and_second (name && priority && is_list pattern
                && writable_pattern pattern) (list_all writable_iflet r.iflets) four)) (
                  expr_readable expr (and_second (name && priority && is_list pattern && writable_pattern pattern && list_all writable_iflet r.iflets
                      && is_right_side expr) (writable_expr expr) e),
                  tt,
                ),
          )),
    )

-- ---- definitions

kept_readable : (k : KeptTree) → writable_kept k ≡ true → IsReadable (kept_sexpr k)
kept_readable k e = (
  word_readable k.word.0 (kept_word_is_symbol k.word.0 (and_first (is_kept_word k.word.0) (writable_items k.items) e)),
  items_readable k.items (and_second (is_kept_word k.word.0) (writable_items k.items) e),
)

words_readable : (d : Def) → has_writable_words d ≡ true → IsReadable (def_sexpr d)
words_readable (TypeDef x) e = type_readable x e
words_readable (Decl d) e = decl_readable d e
words_readable (Rule r) e = rule_readable r e
words_readable (Extractor x) e = extractor_readable x e
words_readable (Extern x) e = extern_readable x e
words_readable (Converter c) e = converter_readable c e
words_readable (Pragma _) e = absurd (cc)
words_readable (Kept k) e = kept_readable k e

-- each atom of a definition that can be written is one token, if it is text
pub def_readable : (d : Def) → writable_def d ≡ true → IsReadable (def_sexpr d)
def_readable d e = words_readable d (and_first (has_writable_words d) (nat_le (nesting d) max_nesting) e)
