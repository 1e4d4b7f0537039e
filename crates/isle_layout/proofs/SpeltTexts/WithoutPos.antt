-- Whether a definition can be written doesn't turn on its positions.
use Rattle.std.proofs.Common.{◌≡◌, ℕ, suc, ◌+◌, max, List, [], ◌∷◌, map, Bool, Option, None, Some, refl, ap, ◌∙◌}
use Rattle.std.specs.Prelude.{◌&&◌, ◌==◌, nat_le}
use Rattle.std.specs.List.{list_all}
use Rattle.std.specs.Option.{option_map}
use Rattle.isle_ast.specs.declared.ast.Ident.{Ident}
use Rattle.isle_ast.specs.declared.ast.TupleField.{TupleField}
use Rattle.isle_ast.specs.declared.ast.Fields.{Fields}
use Rattle.isle_ast.specs.declared.ast.Fields.TheVariants.{Unit as no_fields, Struct as named_fields, Tuple as tuple_fields}
use Rattle.isle_ast.specs.declared.ast.Variant.{Variant}
use Rattle.isle_ast.specs.declared.ast.TypeValue.{TypeValue}
use Rattle.isle_ast.specs.declared.ast.TypeValue.TheVariants.{Primitive, Enum, Struct}
use Rattle.isle_ast.specs.declared.ast.Pattern.{Pattern}
use Rattle.isle_ast.specs.declared.ast.Pattern.TheVariants as pattern
use Rattle.isle_ast.specs.declared.ast.Expr.{Expr}
use Rattle.isle_ast.specs.declared.ast.Expr.TheVariants as expr
use Rattle.isle_ast.specs.declared.ast.IfLet.{IfLet}
use Rattle.isle_ast.specs.declared.ast.Rule.{Rule as RuleTree}
use Rattle.isle_ast.specs.declared.ast.Extern.{Extern as ExternTree}
use Rattle.isle_ast.specs.declared.ast.Extern.TheVariants.{Constructor as extern_constructor, Extractor as extern_extractor, Const as extern_const}
use Rattle.isle_ast.specs.declared.ast.Def.{Def}
use Rattle.isle_ast.specs.declared.ast.Def.TheVariants.{TypeDef, Decl, Rule, Extractor, Extern, Converter, Pragma, Kept}
use Rattle.isle_ast.specs.Trees.PatternTree.{PatternTree, PatternTrees, pattern_var, pattern_bind, pattern_bool, pattern_int, pattern_prim}
use Rattle.isle_ast.specs.Trees.PatternTree.{pattern_term, pattern_wildcard, pattern_and, pattern_macro_arg, no_patterns, more_patterns}
use Rattle.isle_ast.specs.Trees.PatternShape.{pattern_of}
use Rattle.isle_ast.specs.Trees.ExprTree.{ExprTree, ExprTrees, LetTrees, expr_term, expr_var, expr_bool, expr_int, expr_prim, expr_let, no_exprs}
use Rattle.isle_ast.specs.Trees.ExprTree.{more_exprs, no_lets, more_lets}
use Rattle.isle_ast.specs.Trees.ExprShape.{expr_of}
use Rattle.isle_ast.specs.Trees.ItemTree.{ItemTree, ItemTrees, item_int, item_big, item_symbol, item_at, item_list, no_items, more_items}
use Rattle.isle_syntax.specs.Grammar.TreeGrammar.{is_pattern_term, is_expr_term}
use Rattle.isle_syntax.specs.Tokens.Names.{is_pname}
use Rattle.isle_ast.specs.Trees.WithoutPos.{ident_without_pos, pattern_tree_without_pos, pattern_trees_without_pos, pattern_without_pos}
use Rattle.isle_ast.specs.Trees.WithoutPos.{expr_tree_without_pos, expr_trees_without_pos, let_trees_without_pos, expr_without_pos}
use Rattle.isle_ast.specs.Trees.WithoutPos.{item_tree_without_pos, item_trees_without_pos, struct_field_without_pos, tuple_field_without_pos}
use Rattle.isle_ast.specs.Trees.WithoutPos.{fields_without_pos, variant_without_pos, type_value_without_pos, iflet_without_pos, rule_without_pos}
use Rattle.isle_ast.specs.Trees.WithoutPos.{def_without_pos}
use Rattle.isle_syntax.specs.Grammar.DefGrammar.{is_kept_word}
use Rattle.isle_syntax.specs.Grammar.Verdict.{max_nesting}
use Rattle.isle_layout.specs.Nesting.{pattern_nesting, pattern_nestings, expr_nesting, expr_nestings, let_nestings, item_nesting, item_nestings}
use Rattle.isle_layout.specs.Nesting.{iflet_nestings, nesting}
use Rattle.isle_layout.specs.Writable.{writable_ident, writable_pattern, writable_patterns, writable_expr, writable_exprs, writable_lets}
use Rattle.isle_layout.specs.Writable.{writable_item, writable_items, writable_struct_field, writable_tuple_fields, is_filled, writable_fields}
use Rattle.isle_layout.specs.Writable.{writable_variant, writable_type_value, is_free_of_flags, writable_rule_name, writable_priority, writable_iflet}
use Rattle.isle_layout.specs.Writable.{is_list, is_right_side, writable_rule, has_writable_words, writable_def}

-- ---- trees

mutual
  pattern_words : (t : PatternTree) → writable_pattern (pattern_tree_without_pos t) ≡ writable_pattern t
  pattern_words (pattern_var _ _) = refl
  pattern_words (pattern_bind x t _) = ap (λ b. is_pname x.0 && b) (pattern_words t)
  pattern_words (pattern_bool _ _) = refl
  pattern_words (pattern_int _ _ _) = refl
  pattern_words (pattern_prim _ _) = refl
  pattern_words (pattern_term x ts _) = ap (λ b. is_pattern_term x.0 && b) (patterns_words ts)
  pattern_words (pattern_wildcard _) = refl
  pattern_words (pattern_and ts _) = patterns_words ts
  pattern_words (pattern_macro_arg _ _) = refl

  patterns_words : (ts : PatternTrees) → writable_patterns (pattern_trees_without_pos ts) ≡ writable_patterns ts
  patterns_words no_patterns = refl
  patterns_words (more_patterns t ts) = (λ i. pattern_words t i && patterns_words ts i)

mutual
  pattern_depth : (t : PatternTree) → pattern_nesting (pattern_tree_without_pos t) ≡ pattern_nesting t
  pattern_depth (pattern_var _ _) = refl
  pattern_depth (pattern_bind x t _) = pattern_depth t
  pattern_depth (pattern_bool _ _) = refl
  pattern_depth (pattern_int _ _ _) = refl
  pattern_depth (pattern_prim _ _) = refl
  pattern_depth (pattern_term x ts _) = ap (λ n. n + 1) (patterns_depth ts)
  pattern_depth (pattern_wildcard _) = refl
  pattern_depth (pattern_and ts _) = ap (λ n. n + 1) (patterns_depth ts)
  pattern_depth (pattern_macro_arg _ _) = refl

  patterns_depth : (ts : PatternTrees) → pattern_nestings (pattern_trees_without_pos ts) ≡ pattern_nestings ts
  patterns_depth no_patterns = refl
  patterns_depth (more_patterns t ts) = (λ i. max (pattern_depth t i) (patterns_depth ts i))

mutual
  expr_words : (t : ExprTree) → writable_expr (expr_tree_without_pos t) ≡ writable_expr t
  expr_words (expr_term x ts _) = ap (λ b. is_expr_term x.0 && b) (exprs_words ts)
  expr_words (expr_var _ _) = refl
  expr_words (expr_bool _ _) = refl
  expr_words (expr_int _ _ _) = refl
  expr_words (expr_prim _ _) = refl
  expr_words (expr_let ds t _) = (λ i. lets_words ds i && expr_words t i)

  exprs_words : (ts : ExprTrees) → writable_exprs (expr_trees_without_pos ts) ≡ writable_exprs ts
  exprs_words no_exprs = refl
  exprs_words (more_exprs t ts) = (λ i. expr_words t i && exprs_words ts i)

  lets_words : (ds : LetTrees) → writable_lets (let_trees_without_pos ds) ≡ writable_lets ds
  lets_words no_lets = refl
  lets_words (more_lets var ty t _ ds) = (λ i. writable_ident var && writable_ident ty && expr_words t i && lets_words ds i)

mutual
  expr_depth : (t : ExprTree) → expr_nesting (expr_tree_without_pos t) ≡ expr_nesting t
  expr_depth (expr_term x ts _) = ap (λ n. n + 1) (exprs_depth ts)
  expr_depth (expr_var _ _) = refl
  expr_depth (expr_bool _ _) = refl
  expr_depth (expr_int _ _ _) = refl
  expr_depth (expr_prim _ _) = refl
  expr_depth (expr_let ds t _) = (λ i. max (lets_depth ds i + 1) (expr_depth t i) + 1)

  exprs_depth : (ts : ExprTrees) → expr_nestings (expr_trees_without_pos ts) ≡ expr_nestings ts
  exprs_depth no_exprs = refl
  exprs_depth (more_exprs t ts) = (λ i. max (expr_depth t i) (exprs_depth ts i))

  lets_depth : (ds : LetTrees) → let_nestings (let_trees_without_pos ds) ≡ let_nestings ds
  lets_depth no_lets = refl
  lets_depth (more_lets var ty t _ ds) = (λ i. max (expr_depth t i + 1) (lets_depth ds i))

mutual
  item_words : (t : ItemTree) → writable_item (item_tree_without_pos t) ≡ writable_item t
  item_words (item_int _ _) = refl
  item_words (item_big _ _) = refl
  item_words (item_symbol _) = refl
  item_words (item_at _) = refl
  item_words (item_list ts _) = items_words ts

  items_words : (ts : ItemTrees) → writable_items (item_trees_without_pos ts) ≡ writable_items ts
  items_words no_items = refl
  items_words (more_items t ts) = (λ i. item_words t i && items_words ts i)

mutual
  item_depth : (t : ItemTree) → item_nesting (item_tree_without_pos t) ≡ item_nesting t
  item_depth (item_int _ _) = refl
  item_depth (item_big _ _) = refl
  item_depth (item_symbol _) = refl
  item_depth (item_at _) = refl
  item_depth (item_list ts _) = ap (λ n. n + 1) (items_depth ts)

  items_depth : (ts : ItemTrees) → item_nestings (item_trees_without_pos ts) ≡ item_nestings ts
  items_depth no_items = refl
  items_depth (more_items t ts) = (λ i. max (item_depth t i) (items_depth ts i))

-- ---- the trees of patterns and expressions

pub pattern_tree : (p : Pattern) → pattern_of (pattern_without_pos p) ≡ pattern_tree_without_pos (pattern_of p)
pattern_tree (pattern.Var _ _) = refl
pattern_tree (pattern.BindPattern _ _ _) = refl
pattern_tree (pattern.ConstBool _ _) = refl
pattern_tree (pattern.ConstInt _ _ _) = refl
pattern_tree (pattern.ConstPrim _ _) = refl
pattern_tree (pattern.Term _ _ _) = refl
pattern_tree (pattern.Wildcard _) = refl
pattern_tree (pattern.And _ _) = refl
pattern_tree (pattern.MacroArg _ _) = refl

pub expr_tree : (p : Expr) → expr_of (expr_without_pos p) ≡ expr_tree_without_pos (expr_of p)
expr_tree (expr.Term _ _ _) = refl
expr_tree (expr.Var _ _) = refl
expr_tree (expr.ConstBool _ _) = refl
expr_tree (expr.ConstInt _ _ _) = refl
expr_tree (expr.ConstPrim _ _) = refl
expr_tree (expr.Let _ _ _) = refl

pattern_same : (p : Pattern) → writable_pattern (pattern_of (pattern_without_pos p)) ≡ writable_pattern (pattern_of p)
pattern_same p = ap writable_pattern (pattern_tree p) ∙ pattern_words (pattern_of p)

pattern_as_deep : (p : Pattern) → pattern_nesting (pattern_of (pattern_without_pos p)) ≡ pattern_nesting (pattern_of p)
pattern_as_deep p = ap pattern_nesting (pattern_tree p) ∙ pattern_depth (pattern_of p)

expr_same : (e : Expr) → writable_expr (expr_of (expr_without_pos e)) ≡ writable_expr (expr_of e)
expr_same e = ap writable_expr (expr_tree e) ∙ expr_words (expr_of e)

expr_as_deep : (e : Expr) → expr_nesting (expr_of (expr_without_pos e)) ≡ expr_nesting (expr_of e)
expr_as_deep e = ap expr_nesting (expr_tree e) ∙ expr_depth (expr_of e)

pub list_same : (p : Pattern) → is_list (pattern_of (pattern_without_pos p)) ≡ is_list (pattern_of p)
list_same (pattern.Var _ _) = refl
list_same (pattern.BindPattern _ _ _) = refl
list_same (pattern.ConstBool _ _) = refl
list_same (pattern.ConstInt _ _ _) = refl
list_same (pattern.ConstPrim _ _) = refl
list_same (pattern.Term _ _ _) = refl
list_same (pattern.Wildcard _) = refl
list_same (pattern.And _ _) = refl
list_same (pattern.MacroArg _ _) = refl

pub right_same : (e : Expr) → is_right_side (expr_of (expr_without_pos e)) ≡ is_right_side (expr_of e)
right_same (expr.Term _ _ _) = refl
right_same (expr.Var _ _) = refl
right_same (expr.ConstBool _ _) = refl
right_same (expr.ConstInt _ _ _) = refl
right_same (expr.ConstPrim _ _) = refl
right_same (expr.Let _ _ _) = refl

-- ---- lists

all_same : {A : Type 0} (f : A → Bool) (g : A → A) → ((a : A) → f (g a) ≡ f a) → (xs : List A) → list_all f (map g xs) ≡ list_all f xs
all_same f g each [] = refl
all_same f g each (x ∷ xs) = (λ i. each x i && all_same f g each xs i)

idents_same : (xs : List Ident) → list_all writable_ident (map ident_without_pos xs) ≡ list_all writable_ident xs
idents_same xs = all_same writable_ident ident_without_pos (λ x. refl) xs

filled_same : {A : Type 0} (g : A → A) (xs : List A) → is_filled (map g xs) ≡ is_filled xs
filled_same g [] = refl
filled_same g (x ∷ xs) = refl

tuple_same : (n : ℕ) (fs : List TupleField) → writable_tuple_fields n (map tuple_field_without_pos fs) ≡ writable_tuple_fields n fs
tuple_same n [] = refl
tuple_same n (f ∷ fs) = ap (λ b. (f.index == n) && writable_ident f.ty && b) (tuple_same (suc n) fs)

-- ---- definitions

fields_same : (f : Fields) → writable_fields (fields_without_pos f) ≡ writable_fields f
fields_same no_fields = refl
fields_same (named_fields fs) =
    (λ i. filled_same struct_field_without_pos fs.fields i && all_same writable_struct_field struct_field_without_pos (λ f. refl) fs.fields i)
fields_same (tuple_fields fs) = (λ i. filled_same tuple_field_without_pos fs.fields i && tuple_same 0 fs.fields i)

variant_same : (v : Variant) → writable_variant (variant_without_pos v) ≡ writable_variant v
variant_same v = ap (λ b. writable_ident v.name && b) (fields_same v.fields)

value_same : (value : TypeValue) → writable_type_value (type_value_without_pos value) ≡ writable_type_value value
value_same (Primitive _ _) = refl
value_same (Enum vs _) = all_same writable_variant variant_without_pos variant_same vs
value_same (Struct fs _) = fields_same fs

extern_same : (x : ExternTree) → has_writable_words (def_without_pos (Extern x)) ≡ has_writable_words (Extern x)
extern_same (extern_constructor _ _ _) = refl
extern_same (extern_extractor _ _ _ _) = refl
extern_same (extern_const _ _ _) = refl

name_same : (name : Option Ident) → writable_rule_name (option_map ident_without_pos name) ≡ writable_rule_name name
name_same None = refl
name_same (Some x) = refl

iflet_same : (c : IfLet) → writable_iflet (iflet_without_pos c) ≡ writable_iflet c
iflet_same c = (λ i. pattern_same c.pattern i && expr_same c.expr i)

iflets_as_deep : (cs : List IfLet) → iflet_nestings (map iflet_without_pos cs) ≡ iflet_nestings cs
iflets_as_deep [] = refl
iflets_as_deep (c ∷ cs) = (λ i. max (max (pattern_as_deep c.pattern i) (expr_as_deep c.expr i) + 1) (iflets_as_deep cs i))

rule_same : (r : RuleTree) → writable_rule (rule_without_pos r) ≡ writable_rule r
rule_same r =
    (λ i. name_same r.name i && writable_priority r.prio && list_same r.pattern i && pattern_same r.pattern i
    && all_same writable_iflet iflet_without_pos iflet_same r.iflets i && right_same r.expr i && expr_same r.expr i)

words_same : (def : Def) → has_writable_words (def_without_pos def) ≡ has_writable_words def
words_same (TypeDef t) = ap (λ b. writable_ident t.name && b) (value_same t.ty)
words_same (Decl d) = ap (λ b. writable_ident d.term && is_free_of_flags d && b && writable_ident d.ret_ty) (idents_same d.arg_tys)
words_same (Rule r) = rule_same r
words_same (Extractor x) = (λ i. writable_ident x.term && idents_same x.args i && pattern_same x.template i)
words_same (Extern x) = extern_same x
words_same (Converter c) = refl
words_same (Pragma p) = refl
words_same (Kept k) = ap (λ b. is_kept_word k.word.0 && b) (items_words k.items)

nesting_same : (def : Def) → nesting (def_without_pos def) ≡ nesting def
nesting_same (TypeDef t) = refl
nesting_same (Decl d) = refl
nesting_same (Rule r) = (λ i. max (pattern_as_deep r.pattern i) (max (iflets_as_deep r.iflets i) (expr_as_deep r.expr i)) + 1)
nesting_same (Extractor x) = (λ i. max 1 (pattern_as_deep x.template i) + 1)
nesting_same (Extern x) = refl
nesting_same (Converter c) = refl
nesting_same (Pragma p) = refl
nesting_same (Kept k) = ap (λ n. n + 1) (items_depth k.items)

-- a definition can be written where it can be without its positions
pub writable_without_pos : (def : Def) → writable_def (def_without_pos def) ≡ writable_def def
writable_without_pos def = (λ i. words_same def i && nat_le (nesting_same def i) max_nesting)
