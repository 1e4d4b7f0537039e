-- Where a definition is spelt, there was room for the parentheses that are open at once in it, and there is as much behind it.
use Rattle.std.proofs.Common.{◌≡◌, ℕ, ◌+◌, ◌≤◌, max, List, [], ◌∷◌, Bool, Option, None, Some, ap, arith}
use Rattle.std.specs.Prelude.{ℤ, codes}
use Rattle.isle_ast.specs.declared.ast.Ident.{Ident}
use Rattle.isle_ast.specs.declared.ast.StructField.{StructField}
use Rattle.isle_ast.specs.declared.ast.Fields.{Fields}
use Rattle.isle_ast.specs.declared.ast.Fields.TheVariants.{Unit as no_fields, Struct as named_fields, Tuple as tuple_fields}
use Rattle.isle_ast.specs.declared.ast.Variant.{Variant}
use Rattle.isle_ast.specs.declared.ast.TypeValue.{TypeValue}
use Rattle.isle_ast.specs.declared.ast.TypeValue.TheVariants.{Primitive, Enum, Struct}
use Rattle.isle_ast.specs.declared.ast.«Type».{«Type» as TypeTree}
use Rattle.isle_ast.specs.declared.ast.Decl.{Decl as DeclTree}
use Rattle.isle_ast.specs.declared.ast.Extractor.{Extractor as ExtractorTree}
use Rattle.isle_ast.specs.declared.ast.Extern.{Extern as ExternTree}
use Rattle.isle_ast.specs.declared.ast.Extern.TheVariants.{Constructor as extern_constructor, Extractor as extern_extractor, Const as extern_const}
use Rattle.isle_ast.specs.declared.ast.Converter.{Converter as ConverterTree}
use Rattle.isle_ast.specs.declared.ast.Kept.{Kept as KeptTree}
use Rattle.isle_ast.specs.declared.ast.IfLet.{IfLet}
use Rattle.isle_ast.specs.declared.ast.Rule.{Rule as RuleTree}
use Rattle.isle_ast.specs.declared.ast.Def.{Def}
use Rattle.isle_ast.specs.declared.ast.Def.TheVariants.{TypeDef, Decl, Rule, Extractor, Extern, Converter, Pragma, Kept}
use Rattle.isle_syntax.specs.Tokens.PlacedTokens.{small, Placed}
use Rattle.isle_syntax.specs.Tokens.Names.{is_ident}
use Rattle.isle_syntax.specs.Grammar.Phrases.{◌⊙◌, Closes, Each, first_pos, depth_left}
use Rattle.isle_ast.specs.Trees.PatternShape.{pattern_of}
use Rattle.isle_ast.specs.Trees.ExprTree.{ExprTree}
use Rattle.isle_ast.specs.Trees.ExprShape.{expr_of}
use Rattle.isle_syntax.specs.Grammar.DefGrammar.{SpellsIdent, SpellsField, SpellsFields, SpellsVariant, bare, in_list, SpellsTypeValue, Mark}
use Rattle.isle_syntax.specs.Grammar.DefGrammar.{extern_mark, nodebug_mark, SpellsMark, SpellsMarks, SpellsType, SpellsSignature, SpellsDecl}
use Rattle.isle_syntax.specs.Grammar.DefGrammar.{SpellsExtractor, SpellsExtern, SpellsConverter, SpellsKept, SpellsName, SpellsPriority, SpellsIfLet}
use Rattle.isle_syntax.specs.Grammar.DefGrammar.{if_let, if_holds, SpellsRightSide, SpellsRule, is_kept_word, SpellsDef}
use Rattle.isle_layout.specs.Nesting.{pattern_nesting, expr_nesting, iflet_nestings, item_nestings, rule_nesting, nesting}
use Rattle.isle_layout.proofs.SpeltTexts.DepthLeft.{KeepsDepthLeft, Shuts, keeps_seq, shuts_seq, keeps_fewer, shuts_fewer, keeps_word, keeps_says}
use Rattle.isle_layout.proofs.SpeltTexts.DepthLeft.{keeps_symbol, keeps_one_int, keeps_none, shuts_close, keeps_opens, keeps_opening, shuts_group}
use Rattle.isle_layout.proofs.SpeltTexts.DepthLeft.{shuts_list, shuts_flag, keeps_each, shuts_with}
use Rattle.isle_layout.proofs.SpeltTexts.TreeDepthLeft.{keeps_constant, pattern_depths_left, expr_depths_left, items_depths_left}

-- ---- types

idents_depth_left : (xs : List Ident) → KeepsDepthLeft 0 (Each SpellsIdent xs)
idents_depth_left xs = keeps_each (λ x. keeps_symbol is_ident x) xs

field_depth_left : (f : StructField) → KeepsDepthLeft 0 (SpellsField f)
field_depth_left f =
    keeps_fewer (omega arith) (keeps_opens f.pos (shuts_seq (keeps_symbol is_ident f.name) (shuts_seq (keeps_symbol is_ident f.ty) shuts_close)))

fields_depth_left : (f : Fields) → Shuts 0 (SpellsFields f)
fields_depth_left no_fields = shuts_close
fields_depth_left (named_fields fs) = record {
  within = λ r m ts l h. (shuts_seq (keeps_each field_depth_left fs.fields) shuts_close).within r m ts l.0 h;
}
fields_depth_left (tuple_fields fs) = record {
  within = λ r m ts l h. (shuts_seq (idents_depth_left l.0) shuts_close).within r m ts l.1 h;
}

variant_within : (v : Variant) (r m : ℕ) (ts : List Placed) → SpellsVariant v ts → depth_left r ts ≡ Some m → (0 ≤ r) × (m ≡ r)
variant_within v r m ts (bare l place none) h = (keeps_symbol is_ident v.name).within r m ts l h
variant_within v r m ts (in_list l) h =
    let k = (keeps_opens v.pos (shuts_seq (keeps_symbol is_ident v.name) (fields_depth_left v.fields))).within r m ts l h in
    (omega arith, k.1)

variants_depth_left : (vs : List Variant) → KeepsDepthLeft 0 (Each SpellsVariant vs)
variants_depth_left vs = keeps_each (λ v. record { within = variant_within v }) vs

value_depth_left : (value : TypeValue) → KeepsDepthLeft 0 (SpellsTypeValue value)
value_depth_left (Primitive x p) =
    keeps_fewer (omega arith) (keeps_opens p (shuts_seq (keeps_says (codes "primitive")) (shuts_seq (keeps_symbol is_ident x) shuts_close)))
value_depth_left (Enum variants p) =
    keeps_fewer (omega arith) (keeps_opens p (shuts_seq (keeps_says (codes "enum")) (shuts_seq (variants_depth_left variants) shuts_close)))
value_depth_left (Struct fields p) =
    keeps_fewer (omega arith) (keeps_opens p (shuts_seq (keeps_says (codes "struct")) (fields_depth_left fields)))

mark_depth_left : (mark : Mark) → KeepsDepthLeft 0 (SpellsMark mark)
mark_depth_left extern_mark = keeps_says (codes "extern")
mark_depth_left nodebug_mark = keeps_says (codes "nodebug")

marks_depth_left : (is_extern is_nodebug : Bool) → KeepsDepthLeft 0 (SpellsMarks is_extern is_nodebug)
marks_depth_left is_extern is_nodebug = record {
  within = λ r m ts l h. (keeps_each mark_depth_left l.0).within r m ts l.1 h;
}

type_depth_left : (t : TypeTree) → Shuts 0 (SpellsType t)
type_depth_left t =
    shuts_with (λ ts. t.pos ≡ t.name.1)
    (shuts_seq (keeps_symbol is_ident t.name) (shuts_seq (marks_depth_left t.is_extern t.is_nodebug) (shuts_seq (value_depth_left t.ty) shuts_close)))

-- ---- terms

signature_depth_left : (d : DeclTree) → Shuts 1 (SpellsSignature d)
signature_depth_left d =
    shuts_seq (keeps_symbol is_ident d.term)
    (shuts_list (shuts_seq (idents_depth_left d.arg_tys) shuts_close) (shuts_seq (keeps_symbol is_ident d.ret_ty) shuts_close))

decl_depth_left : (d : DeclTree) → Shuts 1 (SpellsDecl d)
decl_depth_left d =
    shuts_with (λ ts. first_pos ts ≡ d.pos)
    (shuts_flag (codes "pure") d.pure (shuts_flag (codes "multi") d.multi
    (shuts_flag (codes "partial") d.partial (shuts_flag (codes "rec") d.rec (signature_depth_left d)))))

extractor_depth_left : (x : ExtractorTree) → Shuts (max 1 (pattern_nesting (pattern_of x.template))) (SpellsExtractor x)
extractor_depth_left x =
    shuts_fewer (omega arith)
    (shuts_group x.pos (shuts_seq (keeps_symbol is_ident x.term) (shuts_seq (idents_depth_left x.args) shuts_close))
    (shuts_seq (pattern_depths_left (pattern_of x.template)) shuts_close))

two_depth_left : (x y : Ident) → Shuts 0 (SpellsIdent x ⊙ (SpellsIdent y ⊙ Closes tt))
two_depth_left x y = shuts_seq (keeps_symbol is_ident x) (shuts_seq (keeps_symbol is_ident y) shuts_close)

extern_depth_left : (x : ExternTree) → Shuts 0 (SpellsExtern x)
extern_depth_left (extern_constructor term func p) = shuts_seq (keeps_word (codes "constructor") p) (two_depth_left term func)
extern_depth_left (extern_extractor term func p infallible) =
    shuts_seq (keeps_word (codes "extractor") p) (shuts_flag (codes "infallible") infallible (two_depth_left term func))
extern_depth_left (extern_const name ty p) =
    shuts_seq (keeps_word (codes "const") p) (shuts_seq (keeps_constant name) (shuts_seq (keeps_symbol is_ident ty) shuts_close))

converter_depth_left : (c : ConverterTree) → Shuts 0 (SpellsConverter c)
converter_depth_left c =
    shuts_with (λ ts. c.pos ≡ c.inner_ty.1) (shuts_seq (keeps_symbol is_ident c.inner_ty) (two_depth_left c.outer_ty c.term))

-- ---- rules

name_depths_left : (name : Option Ident) → KeepsDepthLeft 0 (SpellsName name)
name_depths_left None = record { within = λ r m ts l h. keeps_none.within r m ts l h }
name_depths_left (Some x) = record { within = λ r m ts l h. (keeps_symbol is_ident x).within r m ts l h }

prio_depths_left : (prio : Option ℤ) → KeepsDepthLeft 0 (SpellsPriority prio)
prio_depths_left None = record { within = λ r m ts l h. keeps_none.within r m ts l h }
prio_depths_left (Some z) = record { within = λ r m ts l h. (keeps_one_int l.0 (small z)).within r m ts l.1 h }

iflet_within : (c : IfLet) (r m : ℕ) (ts : List Placed) → SpellsIfLet c ts → depth_left r ts ≡ Some m
    → (max (pattern_nesting (pattern_of c.pattern)) (expr_nesting (expr_of c.expr)) + 1 ≤ r) × (m ≡ r)
iflet_within c r m ts (if_let l) h =
    let keeps =
    keeps_opens c.pos (shuts_seq (keeps_says (codes "if-let"))
    (shuts_seq (pattern_depths_left (pattern_of c.pattern)) (shuts_seq (expr_depths_left (expr_of c.expr)) shuts_close))) in
    let k = keeps.within r m ts l h in
    (omega (arith, k.0), k.1)
iflet_within c r m ts (if_holds p l same) h =
    let keeps = keeps_opens c.pos (shuts_seq (keeps_word (codes "if") p) (shuts_seq (expr_depths_left (expr_of c.expr)) shuts_close)) in
    let k = keeps.within r m ts l h in
    (omega (arith, k.0, ap pattern_nesting same), k.1)

iflet_depths_left : (c : IfLet) → KeepsDepthLeft (max (pattern_nesting (pattern_of c.pattern)) (expr_nesting (expr_of c.expr)) + 1) (SpellsIfLet c)
iflet_depths_left c = record { within = iflet_within c }

iflets_depths_left : (cs : List IfLet) → KeepsDepthLeft (iflet_nestings cs) (Each SpellsIfLet cs)
iflets_depths_left [] = record { within = λ r m ts l h. keeps_none.within r m ts l h }
iflets_depths_left (c ∷ cs) = record { within = λ r m ts l h. (keeps_seq (iflet_depths_left c) (iflets_depths_left cs)).within r m ts l h }

right_depths_left : (e : ExprTree) → KeepsDepthLeft (expr_nesting e) (SpellsRightSide e)
right_depths_left e = record { within = λ r m ts l h. (expr_depths_left e).within r m ts l.0 h }

rule_depths_left : (rule : RuleTree) → Shuts (rule_nesting rule) (SpellsRule rule)
rule_depths_left rule =
    let right = shuts_seq (iflets_depths_left rule.iflets) (shuts_seq (right_depths_left (expr_of rule.expr)) shuts_close) in
    let body =
    shuts_seq (name_depths_left rule.name) (shuts_seq (prio_depths_left rule.prio)
    (shuts_seq (pattern_depths_left (pattern_of rule.pattern)) right)) in
    record { within = λ r m ts l h. (let k = body.within r m ts l.0 h in (omega (arith, k.0), k.1)) }

-- ---- definitions

kept_depths_left : (k : KeptTree) → Shuts (item_nestings k.items) (SpellsKept k)
kept_depths_left k =
    shuts_fewer (omega arith)
    (shuts_seq (keeps_symbol is_kept_word k.word) (shuts_with (λ ts. first_pos ts ≡ k.pos) (shuts_seq (items_depths_left k.items) shuts_close)))

-- where there is room for four, as much as any type takes
pub def_depths_left : (def : Def) (r m : ℕ) (ts : List Placed) → 4 ≤ r → SpellsDef def ts → depth_left r ts ≡ Some m → (nesting def ≤ r) × (m ≡ r)
def_depths_left (TypeDef t) r m ts some l h =
    let k = (keeps_opening (shuts_seq (keeps_says (codes "type")) (type_depth_left t))).within r m ts l h in
    (some, k.1)
def_depths_left (Decl d) r m ts some l h =
    let k = (keeps_opening (shuts_seq (keeps_says (codes "decl")) (decl_depth_left d))).within r m ts l h in
    (omega (arith, some), k.1)
def_depths_left (Rule rule) r m ts some l h =
    let k = (keeps_opening (shuts_seq (keeps_says (codes "rule")) (rule_depths_left rule))).within r m ts l h in
    (omega (arith, k.0), k.1)
def_depths_left (Extractor x) r m ts some l h =
    let k = (keeps_opening (shuts_seq (keeps_says (codes "extractor")) (extractor_depth_left x))).within r m ts l h in
    (omega (arith, k.0), k.1)
def_depths_left (Extern x) r m ts some l h =
    let k = (keeps_opening (shuts_seq (keeps_says (codes "extern")) (extern_depth_left x))).within r m ts l h in
    (omega (arith, some), k.1)
def_depths_left (Converter c) r m ts some l h =
    let k = (keeps_opening (shuts_seq (keeps_says (codes "convert")) (converter_depth_left c))).within r m ts l h in
    (omega (arith, some), k.1)
def_depths_left (Pragma p) r m ts some l h = absurd l
def_depths_left (Kept kept) r m ts some l h =
    let k = (keeps_opening (kept_depths_left kept)).within r m ts l h in
    (omega (arith, k.0), k.1)
