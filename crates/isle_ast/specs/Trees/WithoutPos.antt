-- Trees without positions: each position is that of file 0 and offset 0.
use Rattle.std.specs.Prelude.{map}
use Rattle.std.specs.Option.{option_map}
use Rattle.isle_ast.specs.declared.pos.Pos.{Pos}
use Rattle.isle_ast.specs.declared.ast.Ident.{Ident}
use Rattle.isle_ast.specs.declared.ast.StructField.{StructField}
use Rattle.isle_ast.specs.declared.ast.TupleField.{TupleField}
use Rattle.isle_ast.specs.declared.ast.Fields.{Fields}
use Rattle.isle_ast.specs.declared.ast.Fields.TheVariants.{Unit as no_fields, Struct as named_fields, Tuple as tuple_fields}
use Rattle.isle_ast.specs.declared.ast.Variant.{Variant}
use Rattle.isle_ast.specs.declared.ast.TypeValue.{TypeValue}
use Rattle.isle_ast.specs.declared.ast.TypeValue.TheVariants.{Primitive, Enum, Struct}
use Rattle.isle_ast.specs.declared.ast.«Type».{«Type» as TypeTree}
use Rattle.isle_ast.specs.declared.ast.Decl.{Decl as DeclTree}
use Rattle.isle_ast.specs.declared.ast.Pattern.{Pattern}
use Rattle.isle_ast.specs.declared.ast.Pattern.TheVariants as pattern
use Rattle.isle_ast.specs.declared.ast.Expr.{Expr}
use Rattle.isle_ast.specs.declared.ast.Expr.TheVariants as expr
use Rattle.isle_ast.specs.declared.ast.IfLet.{IfLet}
use Rattle.isle_ast.specs.declared.ast.Rule.{Rule as RuleTree}
use Rattle.isle_ast.specs.declared.ast.Extractor.{Extractor as ExtractorTree}
use Rattle.isle_ast.specs.declared.ast.Extern.{Extern as ExternTree}
use Rattle.isle_ast.specs.declared.ast.Extern.TheVariants.{Constructor as extern_constructor, Extractor as extern_extractor, Const as extern_const}
use Rattle.isle_ast.specs.declared.ast.Converter.{Converter as ConverterTree}
use Rattle.isle_ast.specs.declared.ast.Kept.{Kept as KeptTree}
use Rattle.isle_ast.specs.declared.ast.Def.{Def}
use Rattle.isle_ast.specs.declared.ast.Def.TheVariants.{TypeDef, Decl, Rule, Extractor, Extern, Converter, Pragma, Kept}
use Rattle.isle_ast.specs.Trees.PatternTree.{PatternTree, PatternTrees, pattern_var, pattern_bind, pattern_bool, pattern_int, pattern_prim}
use Rattle.isle_ast.specs.Trees.PatternTree.{pattern_term, pattern_wildcard, pattern_and, pattern_macro_arg, no_patterns, more_patterns}
use Rattle.isle_ast.specs.Trees.ExprTree.{ExprTree, ExprTrees, LetTrees, expr_term, expr_var, expr_bool, expr_int, expr_prim, expr_let, no_exprs}
use Rattle.isle_ast.specs.Trees.ExprTree.{more_exprs, no_lets, more_lets}
use Rattle.isle_ast.specs.Trees.ItemTree.{ItemTree, ItemTrees, item_int, item_big, item_symbol, item_at, item_list, no_items, more_items}

-- the position that stands for none
abbrev pub no_pos : Pos
no_pos = record { file = 0; offset = 0 }

-- a name without its position
abbrev pub ident_without_pos : Ident → Ident
ident_without_pos name = record { 0 = name.0; 1 = no_pos }

-- a tree of patterns without positions
abbrev mutual
  pub pattern_tree_without_pos : PatternTree → PatternTree
  pattern_tree_without_pos (pattern_var name _) = pattern_var (ident_without_pos name) no_pos
  pattern_tree_without_pos (pattern_bind name below _) = pattern_bind (ident_without_pos name) (pattern_tree_without_pos below) no_pos
  pattern_tree_without_pos (pattern_bool val _) = pattern_bool val no_pos
  pattern_tree_without_pos (pattern_int val big _) = pattern_int val big no_pos
  pattern_tree_without_pos (pattern_prim name _) = pattern_prim (ident_without_pos name) no_pos
  pattern_tree_without_pos (pattern_term term below _) = pattern_term (ident_without_pos term) (pattern_trees_without_pos below) no_pos
  pattern_tree_without_pos (pattern_wildcard _) = pattern_wildcard no_pos
  pattern_tree_without_pos (pattern_and below _) = pattern_and (pattern_trees_without_pos below) no_pos
  pattern_tree_without_pos (pattern_macro_arg val _) = pattern_macro_arg val no_pos

  pub pattern_trees_without_pos : PatternTrees → PatternTrees
  pattern_trees_without_pos no_patterns = no_patterns
  pattern_trees_without_pos (more_patterns first others) =
      more_patterns (pattern_tree_without_pos first) (pattern_trees_without_pos others)

-- a pattern without positions
abbrev pub pattern_without_pos : Pattern → Pattern
pattern_without_pos (pattern.Var name _) = pattern.Var (ident_without_pos name) no_pos
pattern_without_pos (pattern.BindPattern name below _) = pattern.BindPattern (ident_without_pos name) (pattern_tree_without_pos below) no_pos
pattern_without_pos (pattern.ConstBool val _) = pattern.ConstBool val no_pos
pattern_without_pos (pattern.ConstInt val big _) = pattern.ConstInt val big no_pos
pattern_without_pos (pattern.ConstPrim name _) = pattern.ConstPrim (ident_without_pos name) no_pos
pattern_without_pos (pattern.Term term below _) = pattern.Term (ident_without_pos term) (pattern_trees_without_pos below) no_pos
pattern_without_pos (pattern.Wildcard _) = pattern.Wildcard no_pos
pattern_without_pos (pattern.And below _) = pattern.And (pattern_trees_without_pos below) no_pos
pattern_without_pos (pattern.MacroArg val _) = pattern.MacroArg val no_pos

-- a tree of expressions without positions
abbrev mutual
  pub expr_tree_without_pos : ExprTree → ExprTree
  expr_tree_without_pos (expr_term term below _) = expr_term (ident_without_pos term) (expr_trees_without_pos below) no_pos
  expr_tree_without_pos (expr_var name _) = expr_var (ident_without_pos name) no_pos
  expr_tree_without_pos (expr_bool val _) = expr_bool val no_pos
  expr_tree_without_pos (expr_int val big _) = expr_int val big no_pos
  expr_tree_without_pos (expr_prim name _) = expr_prim (ident_without_pos name) no_pos
  expr_tree_without_pos (expr_let defs below _) = expr_let (let_trees_without_pos defs) (expr_tree_without_pos below) no_pos

  pub expr_trees_without_pos : ExprTrees → ExprTrees
  expr_trees_without_pos no_exprs = no_exprs
  expr_trees_without_pos (more_exprs first others) =
      more_exprs (expr_tree_without_pos first) (expr_trees_without_pos others)

  pub let_trees_without_pos : LetTrees → LetTrees
  let_trees_without_pos no_lets = no_lets
  let_trees_without_pos (more_lets var ty val _ others) =
      more_lets (ident_without_pos var) (ident_without_pos ty) (expr_tree_without_pos val) no_pos (let_trees_without_pos others)

-- an expression without positions
abbrev pub expr_without_pos : Expr → Expr
expr_without_pos (expr.Term term below _) = expr.Term (ident_without_pos term) (expr_trees_without_pos below) no_pos
expr_without_pos (expr.Var name _) = expr.Var (ident_without_pos name) no_pos
expr_without_pos (expr.ConstBool val _) = expr.ConstBool val no_pos
expr_without_pos (expr.ConstInt val big _) = expr.ConstInt val big no_pos
expr_without_pos (expr.ConstPrim name _) = expr.ConstPrim (ident_without_pos name) no_pos
expr_without_pos (expr.Let defs below _) = expr.Let (let_trees_without_pos defs) (expr_tree_without_pos below) no_pos

-- a tree of kept items without positions
abbrev mutual
  pub item_tree_without_pos : ItemTree → ItemTree
  item_tree_without_pos (item_int val _) = item_int val no_pos
  item_tree_without_pos (item_big val _) = item_big val no_pos
  item_tree_without_pos (item_symbol name) = item_symbol (ident_without_pos name)
  item_tree_without_pos (item_at _) = item_at no_pos
  item_tree_without_pos (item_list below _) = item_list (item_trees_without_pos below) no_pos

  pub item_trees_without_pos : ItemTrees → ItemTrees
  item_trees_without_pos no_items = no_items
  item_trees_without_pos (more_items first others) =
      more_items (item_tree_without_pos first) (item_trees_without_pos others)

-- a field without positions
abbrev pub struct_field_without_pos : StructField → StructField
struct_field_without_pos field =
    record { name = ident_without_pos field.name; ty = ident_without_pos field.ty; pos = no_pos }

abbrev pub tuple_field_without_pos : TupleField → TupleField
tuple_field_without_pos field =
    record { index = field.index; ty = ident_without_pos field.ty; pos = no_pos }

-- the fields of a variant or struct without positions
abbrev pub fields_without_pos : Fields → Fields
fields_without_pos no_fields = no_fields
fields_without_pos (named_fields fields) =
    named_fields (record { fields = map struct_field_without_pos fields.fields })
fields_without_pos (tuple_fields fields) =
    tuple_fields (record { fields = map tuple_field_without_pos fields.fields })

-- a variant without positions
abbrev pub variant_without_pos : Variant → Variant
variant_without_pos variant = record {
  name = ident_without_pos variant.name;
  fields = fields_without_pos variant.fields;
  pos = no_pos;
}

-- what a type is made of, without positions
abbrev pub type_value_without_pos : TypeValue → TypeValue
type_value_without_pos (Primitive name _) = Primitive (ident_without_pos name) no_pos
type_value_without_pos (Enum variants _) = Enum (map variant_without_pos variants) no_pos
type_value_without_pos (Struct fields _) = Struct (fields_without_pos fields) no_pos

-- the definition of a type without positions
abbrev pub type_without_pos : TypeTree → TypeTree
type_without_pos type = record {
  name = ident_without_pos type.name;
  is_extern = type.is_extern;
  is_nodebug = type.is_nodebug;
  ty = type_value_without_pos type.ty;
  pos = no_pos;
}

-- a declaration without positions
abbrev pub decl_without_pos : DeclTree → DeclTree
decl_without_pos decl = record {
  term = ident_without_pos decl.term;
  arg_tys = map ident_without_pos decl.arg_tys;
  ret_ty = ident_without_pos decl.ret_ty;
  pure = decl.pure;
  multi = decl.multi;
  partial = decl.partial;
  rec = decl.rec;
  pos = no_pos;
}

-- a condition without positions
abbrev pub iflet_without_pos : IfLet → IfLet
iflet_without_pos iflet = record {
  pattern = pattern_without_pos iflet.pattern;
  expr = expr_without_pos iflet.expr;
  pos = no_pos;
}

-- a rule without positions
abbrev pub rule_without_pos : RuleTree → RuleTree
rule_without_pos rule = record {
  pattern = pattern_without_pos rule.pattern;
  iflets = map iflet_without_pos rule.iflets;
  expr = expr_without_pos rule.expr;
  pos = no_pos;
  prio = rule.prio;
  name = option_map ident_without_pos rule.name;
}

-- an extractor without positions
abbrev pub extractor_without_pos : ExtractorTree → ExtractorTree
extractor_without_pos extractor = record {
  term = ident_without_pos extractor.term;
  args = map ident_without_pos extractor.args;
  template = pattern_without_pos extractor.template;
  pos = no_pos;
}

-- what the host provides, without positions
abbrev pub extern_without_pos : ExternTree → ExternTree
extern_without_pos (extern_constructor term func _) =
    extern_constructor (ident_without_pos term) (ident_without_pos func) no_pos
extern_without_pos (extern_extractor term func _ infallible) =
    extern_extractor (ident_without_pos term) (ident_without_pos func) no_pos infallible
extern_without_pos (extern_const name ty _) =
    extern_const (ident_without_pos name) (ident_without_pos ty) no_pos

-- a converter without positions
abbrev pub converter_without_pos : ConverterTree → ConverterTree
converter_without_pos converter = record {
  term = ident_without_pos converter.term;
  inner_ty = ident_without_pos converter.inner_ty;
  outer_ty = ident_without_pos converter.outer_ty;
  pos = no_pos;
}

-- a kept definition without positions
abbrev pub kept_without_pos : KeptTree → KeptTree
kept_without_pos kept = record {
  word = ident_without_pos kept.word;
  items = item_trees_without_pos kept.items;
  pos = no_pos;
}

-- a definition without positions
abbrev pub def_without_pos : Def → Def
def_without_pos (TypeDef type) = TypeDef (type_without_pos type)
def_without_pos (Decl decl) = Decl (decl_without_pos decl)
def_without_pos (Rule rule) = Rule (rule_without_pos rule)
def_without_pos (Extractor extractor) = Extractor (extractor_without_pos extractor)
def_without_pos (Extern extern) = Extern (extern_without_pos extern)
def_without_pos (Converter converter) = Converter (converter_without_pos converter)
def_without_pos (Pragma pragma) = Pragma pragma
def_without_pos (Kept kept) = Kept (kept_without_pos kept)
