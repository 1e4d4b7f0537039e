-- The positions in definitions.
use Rattle.std.specs.Prelude.{All, IfSome}
use Rattle.isle_ast.specs.declared.pos.Pos.{Pos}
use Rattle.isle_ast.specs.declared.ast.Ident.{Ident}
use Rattle.isle_ast.specs.declared.ast.StructField.{StructField}
use Rattle.isle_ast.specs.declared.ast.Fields.{Fields}
use Rattle.isle_ast.specs.declared.ast.Fields.TheVariants.{Unit as no_fields, Struct as named_fields, Tuple as tuple_fields}
use Rattle.isle_ast.specs.declared.ast.TupleField.{TupleField}
use Rattle.isle_ast.specs.declared.ast.Variant.{Variant}
use Rattle.isle_ast.specs.declared.ast.TypeValue.{TypeValue}
use Rattle.isle_ast.specs.declared.ast.TypeValue.TheVariants.{Primitive, Enum, Struct}
use Rattle.isle_ast.specs.declared.ast.«Type».{«Type» as TypeTree}
use Rattle.isle_ast.specs.declared.ast.Decl.{Decl as DeclTree}
use Rattle.isle_ast.specs.declared.ast.Pattern.{Pattern}
use Rattle.isle_ast.specs.declared.ast.Expr.{Expr}
use Rattle.isle_ast.specs.declared.ast.LetDef.{LetDef}
use Rattle.isle_ast.specs.declared.ast.IfLet.{IfLet}
use Rattle.isle_ast.specs.declared.ast.Rule.{Rule as RuleTree}
use Rattle.isle_ast.specs.declared.ast.Extractor.{Extractor as ExtractorTree}
use Rattle.isle_ast.specs.declared.ast.Extern.{Extern as ExternTree}
use Rattle.isle_ast.specs.declared.ast.Extern.TheVariants.{Constructor as extern_constructor, Extractor as extern_extractor, Const as extern_const}
use Rattle.isle_ast.specs.declared.ast.Converter.{Converter as ConverterTree}
use Rattle.isle_ast.specs.declared.ast.KeptItem.{KeptItem}
use Rattle.isle_ast.specs.declared.ast.Kept.{Kept as KeptTree}
use Rattle.isle_ast.specs.declared.ast.Def.{Def}
use Rattle.isle_ast.specs.declared.ast.Def.TheVariants.{TypeDef, Decl, Rule, Extractor, Extern, Converter, Pragma, Kept}
use Rattle.isle_ast.specs.Trees.PatternTree.{PatternTree, PatternTrees, pattern_var, pattern_bind, pattern_bool, pattern_int, pattern_prim}
use Rattle.isle_ast.specs.Trees.PatternTree.{pattern_term, pattern_wildcard, pattern_and, pattern_macro_arg, no_patterns, more_patterns}
use Rattle.isle_ast.specs.Trees.PatternShape.{pattern_of}
use Rattle.isle_ast.specs.Trees.ExprTree.{ExprTree, ExprTrees, LetTrees, expr_term, expr_var, expr_bool, expr_int, expr_prim, expr_let, no_exprs}
use Rattle.isle_ast.specs.Trees.ExprTree.{more_exprs, no_lets, more_lets}
use Rattle.isle_ast.specs.Trees.ExprShape.{expr_of}
use Rattle.isle_ast.specs.Trees.ItemTree.{ItemTree, ItemTrees, item_int, item_big, item_symbol, item_at, item_list, no_items, more_items}
use Rattle.isle_ast.specs.Trees.ItemShape.{item_of}

-- a name stands at such a position
abbrev pub IdentAt : (Pos → Type 0) → Ident → Type 0
IdentAt At name = At name.1

-- the positions in a field are such positions
pub record StructFieldAt (At : Pos → Type 0) (field : StructField) : Type 0 where
  pub name : IdentAt At field.name
  pub ty : IdentAt At field.ty
  pub pos : At field.pos

-- those in a field without a name
pub record TupleFieldAt (At : Pos → Type 0) (field : TupleField) : Type 0 where
  pub ty : IdentAt At field.ty
  pub pos : At field.pos

-- those in the fields of a variant or struct
abbrev pub FieldsAt : (Pos → Type 0) → Fields → Type 0
FieldsAt At no_fields = Unit {0}
FieldsAt At (named_fields fields) = All (StructFieldAt At) fields.fields
FieldsAt At (tuple_fields fields) = All (TupleFieldAt At) fields.fields

-- those in a variant
pub record VariantTreeAt (At : Pos → Type 0) (variant : Variant) : Type 0 where
  pub name : IdentAt At variant.name
  pub fields : FieldsAt At variant.fields
  pub pos : At variant.pos

-- those in what a type is made of
abbrev pub TypeValueAt : (Pos → Type 0) → TypeValue → Type 0
TypeValueAt At (Primitive name pos) = IdentAt At name × At pos
TypeValueAt At (Enum variants pos) = All (VariantTreeAt At) variants × At pos
TypeValueAt At (Struct fields pos) = FieldsAt At fields × At pos

-- those in the definition of a type
pub record TypeTreeAt (At : Pos → Type 0) (type : TypeTree) : Type 0 where
  pub name : IdentAt At type.name
  pub ty : TypeValueAt At type.ty
  pub pos : At type.pos

-- those in a declaration
pub record DeclAt (At : Pos → Type 0) (decl : DeclTree) : Type 0 where
  pub term : IdentAt At decl.term
  pub arg_tys : All (IdentAt At) decl.arg_tys
  pub ret_ty : IdentAt At decl.ret_ty
  pub pos : At decl.pos

-- those in a tree of patterns
abbrev mutual
  pub PatternTreeAt : (Pos → Type 0) → PatternTree → Type 0
  PatternTreeAt At (pattern_var name pos) = IdentAt At name × At pos
  PatternTreeAt At (pattern_bind name below pos) = IdentAt At name × PatternTreeAt At below × At pos
  PatternTreeAt At (pattern_bool _ pos) = At pos
  PatternTreeAt At (pattern_int _ _ pos) = At pos
  PatternTreeAt At (pattern_prim name pos) = IdentAt At name × At pos
  PatternTreeAt At (pattern_term term args pos) = IdentAt At term × PatternTreesAt At args × At pos
  PatternTreeAt At (pattern_wildcard pos) = At pos
  PatternTreeAt At (pattern_and below pos) = PatternTreesAt At below × At pos
  PatternTreeAt At (pattern_macro_arg _ pos) = At pos

  pub PatternTreesAt : (Pos → Type 0) → PatternTrees → Type 0
  PatternTreesAt At no_patterns = Unit {0}
  PatternTreesAt At (more_patterns first others) = PatternTreeAt At first × PatternTreesAt At others

-- those in a pattern
abbrev pub PatternAt : (Pos → Type 0) → Pattern → Type 0
PatternAt At pattern = PatternTreeAt At (pattern_of pattern)

-- those in a tree of expressions
abbrev mutual
  pub ExprTreeAt : (Pos → Type 0) → ExprTree → Type 0
  ExprTreeAt At (expr_term term args pos) = IdentAt At term × ExprTreesAt At args × At pos
  ExprTreeAt At (expr_var name pos) = IdentAt At name × At pos
  ExprTreeAt At (expr_bool _ pos) = At pos
  ExprTreeAt At (expr_int _ _ pos) = At pos
  ExprTreeAt At (expr_prim name pos) = IdentAt At name × At pos
  ExprTreeAt At (expr_let defs body pos) = LetTreesAt At defs × ExprTreeAt At body × At pos

  pub ExprTreesAt : (Pos → Type 0) → ExprTrees → Type 0
  ExprTreesAt At no_exprs = Unit {0}
  ExprTreesAt At (more_exprs first others) = ExprTreeAt At first × ExprTreesAt At others

  pub LetTreesAt : (Pos → Type 0) → LetTrees → Type 0
  LetTreesAt At no_lets = Unit {0}
  LetTreesAt At (more_lets var ty val pos others) =
      IdentAt At var × IdentAt At ty × ExprTreeAt At val × At pos × LetTreesAt At others

-- those in an expression
abbrev pub ExprAt : (Pos → Type 0) → Expr → Type 0
ExprAt At expr = ExprTreeAt At (expr_of expr)

-- those in a variable of a `let`
pub record LetDefAt (At : Pos → Type 0) (def : LetDef) : Type 0 where
  pub var : IdentAt At def.var
  pub ty : IdentAt At def.ty
  pub val : ExprAt At def.val
  pub pos : At def.pos

-- those in a condition
pub record IfLetAt (At : Pos → Type 0) (iflet : IfLet) : Type 0 where
  pub pattern : PatternAt At iflet.pattern
  pub expr : ExprAt At iflet.expr
  pub pos : At iflet.pos

-- those in a rule
pub record RuleAt (At : Pos → Type 0) (rule : RuleTree) : Type 0 where
  pub pattern : PatternAt At rule.pattern
  pub iflets : All (IfLetAt At) rule.iflets
  pub expr : ExprAt At rule.expr
  pub pos : At rule.pos
  pub name : IfSome rule.name (IdentAt At)

-- those in an extractor
pub record ExtractorAt (At : Pos → Type 0) (extractor : ExtractorTree) : Type 0 where
  pub term : IdentAt At extractor.term
  pub args : All (IdentAt At) extractor.args
  pub template : PatternAt At extractor.template
  pub pos : At extractor.pos

-- those in what the host provides
abbrev pub ExternAt : (Pos → Type 0) → ExternTree → Type 0
ExternAt At (extern_constructor term func pos) = IdentAt At term × IdentAt At func × At pos
ExternAt At (extern_extractor term func pos _) = IdentAt At term × IdentAt At func × At pos
ExternAt At (extern_const name ty pos) = IdentAt At name × IdentAt At ty × At pos

-- those in a converter
pub record ConverterAt (At : Pos → Type 0) (converter : ConverterTree) : Type 0 where
  pub term : IdentAt At converter.term
  pub inner_ty : IdentAt At converter.inner_ty
  pub outer_ty : IdentAt At converter.outer_ty
  pub pos : At converter.pos

-- those in a tree of kept items
abbrev mutual
  pub ItemTreeAt : (Pos → Type 0) → ItemTree → Type 0
  ItemTreeAt At (item_int _ pos) = At pos
  ItemTreeAt At (item_big _ pos) = At pos
  ItemTreeAt At (item_symbol name) = IdentAt At name
  ItemTreeAt At (item_at pos) = At pos
  ItemTreeAt At (item_list below pos) = ItemTreesAt At below × At pos

  pub ItemTreesAt : (Pos → Type 0) → ItemTrees → Type 0
  ItemTreesAt At no_items = Unit {0}
  ItemTreesAt At (more_items first others) = ItemTreeAt At first × ItemTreesAt At others

-- those in an item
abbrev pub ItemAt : (Pos → Type 0) → KeptItem → Type 0
ItemAt At item = ItemTreeAt At (item_of item)

-- those in a kept definition
pub record KeptAt (At : Pos → Type 0) (kept : KeptTree) : Type 0 where
  pub word : IdentAt At kept.word
  pub items : ItemTreesAt At kept.items
  pub pos : At kept.pos

-- those in a definition
abbrev pub DefAt : (Pos → Type 0) → Def → Type 0
DefAt At (TypeDef type) = TypeTreeAt At type
DefAt At (Decl decl) = DeclAt At decl
DefAt At (Rule rule) = RuleAt At rule
DefAt At (Extractor extractor) = ExtractorAt At extractor
DefAt At (Extern extern) = ExternAt At extern
DefAt At (Converter converter) = ConverterAt At converter
DefAt At (Pragma _) = Unit {0}
DefAt At (Kept kept) = KeptAt At kept
