-- How a definition is printed doesn't turn on its positions.
use Rattle.std.proofs.Common.{◌≡◌, ℕ, List, [], ◌∷◌, ◌++◌, map, Option, None, Some, refl, ap, ◌∙◌, sym, codes}
use Rattle.std.specs.Option.{option_map}
use Rattle.isle_ast.specs.declared.ast.Ident.{Ident}
use Rattle.isle_ast.specs.declared.ast.Fields.{Fields}
use Rattle.isle_ast.specs.declared.ast.Fields.TheVariants.{Unit as no_fields, Struct as named_fields, Tuple as tuple_fields}
use Rattle.isle_ast.specs.declared.ast.Variant.{Variant}
use Rattle.isle_ast.specs.declared.ast.TypeValue.{TypeValue}
use Rattle.isle_ast.specs.declared.ast.TypeValue.TheVariants.{Primitive, Enum, Struct}
use Rattle.isle_ast.specs.declared.ast.«Type».{«Type» as TypeTree}
use Rattle.isle_ast.specs.declared.ast.Decl.{Decl as DeclTree}
use Rattle.isle_ast.specs.declared.ast.Pattern.{Pattern}
use Rattle.isle_ast.specs.declared.ast.Expr.{Expr}
use Rattle.isle_ast.specs.declared.ast.IfLet.{IfLet}
use Rattle.isle_ast.specs.declared.ast.Rule.{Rule as RuleTree}
use Rattle.isle_ast.specs.declared.ast.Extractor.{Extractor as ExtractorTree}
use Rattle.isle_ast.specs.declared.ast.Extern.{Extern as ExternTree}
use Rattle.isle_ast.specs.declared.ast.Extern.TheVariants.{Constructor as extern_constructor, Extractor as extern_extractor, Const as extern_const}
use Rattle.isle_ast.specs.declared.ast.Def.{Def}
use Rattle.isle_ast.specs.declared.ast.Def.TheVariants.{TypeDef, Decl, Rule, Extractor, Extern, Converter, Pragma, Kept}
use Rattle.isle_ast.specs.Trees.PatternTree.{PatternTree, PatternTrees, pattern_var, pattern_bind, pattern_bool, pattern_int, pattern_prim}
use Rattle.isle_ast.specs.Trees.PatternTree.{pattern_term, pattern_wildcard, pattern_and, pattern_macro_arg, no_patterns, more_patterns}
use Rattle.isle_ast.specs.Trees.PatternShape.{pattern_of}
use Rattle.isle_ast.specs.Trees.ExprTree.{ExprTree, ExprTrees, LetTrees, expr_term, expr_var, expr_bool, expr_int, expr_prim, expr_let, no_exprs}
use Rattle.isle_ast.specs.Trees.ExprTree.{more_exprs, no_lets, more_lets}
use Rattle.isle_ast.specs.Trees.ExprShape.{expr_of}
use Rattle.isle_ast.specs.Trees.ItemTree.{ItemTree, ItemTrees, item_int, item_big, item_symbol, item_at, item_list, no_items, more_items}
use Rattle.isle_ast.specs.Trees.WithoutPos.{ident_without_pos, pattern_tree_without_pos, pattern_trees_without_pos, pattern_without_pos}
use Rattle.isle_ast.specs.Trees.WithoutPos.{expr_tree_without_pos, expr_trees_without_pos, let_trees_without_pos, expr_without_pos}
use Rattle.isle_ast.specs.Trees.WithoutPos.{item_tree_without_pos, item_trees_without_pos, struct_field_without_pos, tuple_field_without_pos}
use Rattle.isle_ast.specs.Trees.WithoutPos.{fields_without_pos, variant_without_pos, type_value_without_pos, type_without_pos, decl_without_pos}
use Rattle.isle_ast.specs.Trees.WithoutPos.{iflet_without_pos, rule_without_pos, extractor_without_pos, extern_without_pos, def_without_pos}
use Rattle.isle_layout.specs.SExprTree.{SExprTree, sexpr_atom, sexpr_binding}
use Rattle.isle_layout.specs.Spellings.{listed, name_sexpr, pattern_sexpr, pattern_sexprs, expr_sexpr, expr_sexprs, let_sexprs, item_sexpr}
use Rattle.isle_layout.specs.Spellings.{item_sexprs}
use Rattle.isle_layout.specs.DefSpellings.{flag, struct_field_sexpr, tuple_field_sexpr, fields_sexprs, variant_of, variant_sexpr, type_value_sexpr}
use Rattle.isle_layout.specs.DefSpellings.{type_sexpr, decl_flags, decl_sexpr, extractor_sexpr, extern_sexpr, rule_name, rule_priority, iflet_sexpr}
use Rattle.isle_layout.specs.DefSpellings.{rule_sexpr, def_sexpr}
use Rattle.isle_layout.specs.Layout.{layout}
use Rattle.isle_layout.specs.Prints.{print_of}
use Rattle.isle_layout.proofs.SpeltTexts.WithoutPos.{pattern_tree, expr_tree}

-- ---- trees

mutual
  pattern_spelt : (t : PatternTree) → pattern_sexpr (pattern_tree_without_pos t) ≡ pattern_sexpr t
  pattern_spelt (pattern_var _ _) = refl
  pattern_spelt (pattern_bind x t _) = ap (sexpr_binding x.0) (pattern_spelt t)
  pattern_spelt (pattern_bool _ _) = refl
  pattern_spelt (pattern_int _ _ _) = refl
  pattern_spelt (pattern_prim _ _) = refl
  pattern_spelt (pattern_term x ts _) = ap (λ s. listed (name_sexpr x ∷ s)) (patterns_spelt ts)
  pattern_spelt (pattern_wildcard _) = refl
  pattern_spelt (pattern_and ts _) = ap (λ s. listed (sexpr_atom (codes "and") ∷ s)) (patterns_spelt ts)
  pattern_spelt (pattern_macro_arg _ _) = refl

  patterns_spelt : (ts : PatternTrees) → pattern_sexprs (pattern_trees_without_pos ts) ≡ pattern_sexprs ts
  patterns_spelt no_patterns = refl
  patterns_spelt (more_patterns t ts) = (λ i. pattern_spelt t i ∷ patterns_spelt ts i)

mutual
  expr_spelt : (t : ExprTree) → expr_sexpr (expr_tree_without_pos t) ≡ expr_sexpr t
  expr_spelt (expr_term x ts _) = ap (λ s. listed (name_sexpr x ∷ s)) (exprs_spelt ts)
  expr_spelt (expr_var _ _) = refl
  expr_spelt (expr_bool _ _) = refl
  expr_spelt (expr_int _ _ _) = refl
  expr_spelt (expr_prim _ _) = refl
  expr_spelt (expr_let ds t _) = (λ i. listed (sexpr_atom (codes "let") ∷ listed (lets_spelt ds i) ∷ expr_spelt t i ∷ []))

  exprs_spelt : (ts : ExprTrees) → expr_sexprs (expr_trees_without_pos ts) ≡ expr_sexprs ts
  exprs_spelt no_exprs = refl
  exprs_spelt (more_exprs t ts) = (λ i. expr_spelt t i ∷ exprs_spelt ts i)

  lets_spelt : (ds : LetTrees) → let_sexprs (let_trees_without_pos ds) ≡ let_sexprs ds
  lets_spelt no_lets = refl
  lets_spelt (more_lets var ty t _ ds) = (λ i. listed (name_sexpr var ∷ name_sexpr ty ∷ expr_spelt t i ∷ []) ∷ lets_spelt ds i)

mutual
  item_spelt : (t : ItemTree) → item_sexpr (item_tree_without_pos t) ≡ item_sexpr t
  item_spelt (item_int _ _) = refl
  item_spelt (item_big _ _) = refl
  item_spelt (item_symbol _) = refl
  item_spelt (item_at _) = refl
  item_spelt (item_list ts _) = ap listed (items_spelt ts)

  items_spelt : (ts : ItemTrees) → item_sexprs (item_trees_without_pos ts) ≡ item_sexprs ts
  items_spelt no_items = refl
  items_spelt (more_items t ts) = (λ i. item_spelt t i ∷ items_spelt ts i)

pattern_same : (p : Pattern) → pattern_sexpr (pattern_of (pattern_without_pos p)) ≡ pattern_sexpr (pattern_of p)
pattern_same p = ap pattern_sexpr (pattern_tree p) ∙ pattern_spelt (pattern_of p)

expr_same : (e : Expr) → expr_sexpr (expr_of (expr_without_pos e)) ≡ expr_sexpr (expr_of e)
expr_same e = ap expr_sexpr (expr_tree e) ∙ expr_spelt (expr_of e)

-- ---- lists

map_same : {A : Type 0} (f : A → SExprTree) (g : A → A) → ((a : A) → f (g a) ≡ f a) → (xs : List A) → map f (map g xs) ≡ map f xs
map_same f g each [] = refl
map_same f g each (x ∷ xs) = (λ i. each x i ∷ map_same f g each xs i)

names_same : (xs : List Ident) → map name_sexpr (map ident_without_pos xs) ≡ map name_sexpr xs
names_same xs = map_same name_sexpr ident_without_pos (λ x. refl) xs

-- ---- definitions

fields_same : (f : Fields) → fields_sexprs (fields_without_pos f) ≡ fields_sexprs f
fields_same no_fields = refl
fields_same (named_fields fs) = map_same struct_field_sexpr struct_field_without_pos (λ f. refl) fs.fields
fields_same (tuple_fields fs) = map_same tuple_field_sexpr tuple_field_without_pos (λ f. refl) fs.fields

variant_by : (x : Ident) (f : Fields) → variant_of (ident_without_pos x) (fields_without_pos f) ≡ variant_of x f
variant_by x no_fields = refl
variant_by x (named_fields fs) = ap (λ s. listed (name_sexpr x ∷ s)) (fields_same (named_fields fs))
variant_by x (tuple_fields fs) = ap (λ s. listed (name_sexpr x ∷ s)) (fields_same (tuple_fields fs))

variant_same : (v : Variant) → variant_sexpr (variant_without_pos v) ≡ variant_sexpr v
variant_same v = variant_by v.name v.fields

value_same : (value : TypeValue) → type_value_sexpr (type_value_without_pos value) ≡ type_value_sexpr value
value_same (Primitive _ _) = refl
value_same (Enum vs _) = ap (λ s. listed (sexpr_atom (codes "enum") ∷ s)) (map_same variant_sexpr variant_without_pos variant_same vs)
value_same (Struct fs _) = ap (λ s. listed (sexpr_atom (codes "struct") ∷ s)) (fields_same fs)

type_same : (t : TypeTree) → type_sexpr (type_without_pos t) ≡ type_sexpr t
type_same t =
    ap (λ s. listed (sexpr_atom (codes "type") ∷ name_sexpr t.name ∷ (flag (codes "extern") t.is_extern
    ++ (flag (codes "nodebug") t.is_nodebug ++ (s ∷ []))))) (value_same t.ty)

decl_same : (d : DeclTree) → decl_sexpr (decl_without_pos d) ≡ decl_sexpr d
decl_same d =
    ap (λ s. listed (sexpr_atom (codes "decl") ∷ (decl_flags d ++ (name_sexpr d.term ∷ listed s ∷ name_sexpr d.ret_ty ∷ [])))) (names_same d.arg_tys)

extractor_same : (x : ExtractorTree) → extractor_sexpr (extractor_without_pos x) ≡ extractor_sexpr x
extractor_same x =
    (λ i. listed (sexpr_atom (codes "extractor") ∷ listed (name_sexpr x.term ∷ names_same x.args i) ∷ pattern_same x.template i ∷ []))

extern_same : (x : ExternTree) → extern_sexpr (extern_without_pos x) ≡ extern_sexpr x
extern_same (extern_constructor _ _ _) = refl
extern_same (extern_extractor _ _ _ _) = refl
extern_same (extern_const _ _ _) = refl

name_same : (name : Option Ident) → rule_name (option_map ident_without_pos name) ≡ rule_name name
name_same None = refl
name_same (Some x) = refl

iflet_same : (c : IfLet) → iflet_sexpr (iflet_without_pos c) ≡ iflet_sexpr c
iflet_same c = (λ i. listed (sexpr_atom (codes "if-let") ∷ pattern_same c.pattern i ∷ expr_same c.expr i ∷ []))

rule_same : (r : RuleTree) → rule_sexpr (rule_without_pos r) ≡ rule_sexpr r
rule_same r =
    let clauses = map_same iflet_sexpr iflet_without_pos iflet_same r.iflets in
    (λ i. listed (sexpr_atom (codes "rule") ∷ (name_same r.name i
    ++ (rule_priority r.prio ++ (pattern_same r.pattern i ∷ (clauses i ++ (expr_same r.expr i ∷ [])))))))

-- a definition is spelt as it is without its positions
pub spelt_without_pos : (d : Def) → def_sexpr (def_without_pos d) ≡ def_sexpr d
spelt_without_pos (TypeDef t) = type_same t
spelt_without_pos (Decl d) = decl_same d
spelt_without_pos (Rule r) = rule_same r
spelt_without_pos (Extractor x) = extractor_same x
spelt_without_pos (Extern x) = extern_same x
spelt_without_pos (Converter c) = refl
spelt_without_pos (Pragma p) = refl
spelt_without_pos (Kept k) = ap (λ s. listed (name_sexpr k.word ∷ s)) (items_spelt k.items)

-- and definitions are printed as they are without their positions
pub printed_without_pos : (width : ℕ) (defs : List Def) → print_of width (map def_without_pos defs) ≡ print_of width defs
printed_without_pos width [] = refl
printed_without_pos width (d ∷ defs) =
    (λ i. (layout width 0 (spelt_without_pos d i) ++ codes "\n") ++ printed_without_pos width defs i)

-- definitions that are the same but for positions print alike
pub same_print : (width : ℕ) (read defs : List Def) → map def_without_pos read ≡ map def_without_pos defs → print_of width read ≡ print_of width defs
same_print width read defs e = sym (printed_without_pos width read) ∙ ap (print_of width) e ∙ printed_without_pos width defs
