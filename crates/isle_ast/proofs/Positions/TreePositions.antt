-- The positions in lists of trees, and positions of one kind that are positions of another.
use Rattle.std.proofs.Common.{Option, Some, None, List, [], ◌∷◌, IfSome}
use Rattle.std.specs.List.{All}
use Rattle.std.proofs.lemmas.List.Elements.{All-nil, All-cons, All-head, All-tail, All-weaker}
use Rattle.isle_ast.specs.Errors.{ErrorAt, RefusalAt}
use Rattle.isle_ast.specs.declared.pos.Pos.{Pos}
use Rattle.isle_ast.specs.declared.error.Error.{Error}
use Rattle.isle_ast.specs.declared.refusal.Refusal.{Refusal}
use Rattle.isle_ast.specs.declared.refusal.Refusal.TheVariants.{Fault, Memory}
use Rattle.isle_ast.specs.declared.ast.Ident.{Ident}
use Rattle.isle_ast.specs.declared.ast.StructField.{StructField}
use Rattle.isle_ast.specs.declared.ast.Fields.{Fields}
use Rattle.isle_ast.specs.declared.ast.Fields.TheVariants.{Unit as no_fields, Struct as named_fields, Tuple as tuple_fields}
use Rattle.isle_ast.specs.declared.ast.TupleField.{TupleField}
use Rattle.isle_ast.specs.declared.ast.Variant.{Variant}
use Rattle.isle_ast.specs.declared.ast.TypeValue.{TypeValue}
use Rattle.isle_ast.specs.declared.ast.TypeValue.TheVariants.{Primitive, Enum, Struct}
use Rattle.isle_ast.specs.declared.ast.«Type».{«Type» as TypeTree}
use Rattle.isle_ast.specs.declared.ast.Decl.{Decl as DeclTree}
use Rattle.isle_ast.specs.declared.ast.Pattern.{Pattern}
use Rattle.isle_ast.specs.declared.ast.Expr.{Expr}
use Rattle.isle_ast.specs.declared.ast.LetDef.{LetDef}
use Rattle.isle_ast.specs.declared.ast.IfLet.{IfLet}
use Rattle.isle_ast.specs.declared.ast.Rule.{Rule as RuleTree}
use Rattle.isle_ast.specs.declared.ast.Extractor.{Extractor as ExtractorTree}
use Rattle.isle_ast.specs.declared.ast.Extern.{Extern as ExternTree}
use Rattle.isle_ast.specs.declared.ast.Extern.TheVariants.{Constructor as extern_constructor, Extractor as extern_extractor, Const as extern_const}
use Rattle.isle_ast.specs.declared.ast.Converter.{Converter as ConverterTree}
use Rattle.isle_ast.specs.declared.ast.KeptItem.{KeptItem}
use Rattle.isle_ast.specs.declared.ast.Kept.{Kept as KeptTree}
use Rattle.isle_ast.specs.declared.ast.Def.{Def}
use Rattle.isle_ast.specs.declared.ast.Def.TheVariants.{TypeDef, Decl, Rule, Extractor, Extern, Converter, Pragma, Kept}
use Rattle.isle_ast.specs.Trees.PatternTree.{PatternTree, PatternTrees, pattern_var, pattern_bind, pattern_bool, pattern_int, pattern_prim}
use Rattle.isle_ast.specs.Trees.PatternTree.{pattern_term, pattern_wildcard, pattern_and, pattern_macro_arg, no_patterns, more_patterns}
use Rattle.isle_ast.specs.Trees.PatternShape.{pattern_of, patterns_of}
use Rattle.isle_ast.specs.Trees.ExprTree.{ExprTree, ExprTrees, LetTrees, expr_term, expr_var, expr_bool, expr_int, expr_prim, expr_let, no_exprs}
use Rattle.isle_ast.specs.Trees.ExprTree.{more_exprs, no_lets, more_lets}
use Rattle.isle_ast.specs.Trees.ExprShape.{expr_of, exprs_of, lets_of}
use Rattle.isle_ast.specs.Trees.ItemTree.{ItemTree, ItemTrees, item_int, item_big, item_symbol, item_at, item_list, no_items, more_items}
use Rattle.isle_ast.specs.Trees.ItemShape.{items_of}
use Rattle.isle_ast.specs.Positions.DefPositions.{IdentAt, StructFieldAt, TupleFieldAt, FieldsAt, VariantTreeAt, TypeValueAt, TypeTreeAt, DeclAt}
use Rattle.isle_ast.specs.Positions.DefPositions.{PatternTreeAt, PatternTreesAt, PatternAt, ExprTreeAt, ExprTreesAt, LetTreesAt, LetDefAt, ExprAt}
use Rattle.isle_ast.specs.Positions.DefPositions.{IfLetAt, RuleAt, ExtractorAt, ExternAt, ConverterAt, ItemTreeAt, ItemTreesAt, ItemAt, KeptAt}
use Rattle.isle_ast.specs.Positions.DefPositions.{DefAt}

pub patterns_at_each : (At : Pos → Type 0) (ps : List Pattern) → PatternTreesAt At (patterns_of ps) → All (PatternAt At) ps
patterns_at_each At [] h = All-nil (PatternAt At)
patterns_at_each At (p ∷ ps) h =
    All-cons (PatternAt At) p ps h.0 (patterns_at_each At ps h.1)

pub exprs_at_each : (At : Pos → Type 0) (es : List Expr) → ExprTreesAt At (exprs_of es) → All (ExprAt At) es
exprs_at_each At [] h = All-nil (ExprAt At)
exprs_at_each At (e ∷ es) h = All-cons (ExprAt At) e es h.0 (exprs_at_each At es h.1)

pub lets_at_each : (At : Pos → Type 0) (ds : List LetDef) → LetTreesAt At (lets_of ds) → All (LetDefAt At) ds
lets_at_each At [] h = All-nil (LetDefAt At)
lets_at_each At (d ∷ ds) h =
    All-cons (LetDefAt At) d ds (record { var = h.0; ty = h.1; val = h.2; pos = h.3 }) (lets_at_each At ds h.4)

-- Where each position of one kind is one of another, so are those in definitions and errors.
module _ (P Q : Pos → Type 0) (weaker : (p : Pos) → P p → Q p) where
  field_at_weaker : (field : StructField) → StructFieldAt P field → StructFieldAt Q field
  field_at_weaker field h =
      record { name = weaker _ h.name; ty = weaker _ h.ty; pos = weaker _ h.pos }

  tuple_field_at_weaker : (field : TupleField) → TupleFieldAt P field → TupleFieldAt Q field
  tuple_field_at_weaker field h = record { ty = weaker _ h.ty; pos = weaker _ h.pos }

  fields_at_weaker : (fields : Fields) → FieldsAt P fields → FieldsAt Q fields
  fields_at_weaker no_fields h = tt
  fields_at_weaker (named_fields fields) h =
      All-weaker (StructFieldAt P) (StructFieldAt Q) field_at_weaker fields.fields h
  fields_at_weaker (tuple_fields fields) h =
      All-weaker (TupleFieldAt P) (TupleFieldAt Q) tuple_field_at_weaker fields.fields h

  variant_at_weaker : (variant : Variant) → VariantTreeAt P variant → VariantTreeAt Q variant
  variant_at_weaker variant h = record {
    name = weaker _ h.name;
    fields = fields_at_weaker variant.fields h.fields;
    pos = weaker _ h.pos;
  }

  type_value_at_weaker : (ty : TypeValue) → TypeValueAt P ty → TypeValueAt Q ty
  type_value_at_weaker (Primitive name pos) h = (weaker _ h.0, weaker _ h.1)
  type_value_at_weaker (Struct fields pos) h = (fields_at_weaker fields h.0, weaker _ h.1)
  type_value_at_weaker (Enum variants pos) h =
      (All-weaker (VariantTreeAt P) (VariantTreeAt Q) variant_at_weaker variants h.0, weaker _ h.1)

  type_at_weaker : (type : TypeTree) → TypeTreeAt P type → TypeTreeAt Q type
  type_at_weaker type h = record {
    name = weaker _ h.name;
    ty = type_value_at_weaker type.ty h.ty;
    pos = weaker _ h.pos;
  }

  decl_at_weaker : (decl : DeclTree) → DeclAt P decl → DeclAt Q decl
  decl_at_weaker decl h = record {
    term = weaker _ h.term;
    arg_tys = All-weaker (IdentAt P) (IdentAt Q) (λ name. weaker name.1) decl.arg_tys h.arg_tys;
    ret_ty = weaker _ h.ret_ty;
    pos = weaker _ h.pos;
  }

  mutual
    pattern_tree_at_weaker : (t : PatternTree) → PatternTreeAt P t → PatternTreeAt Q t
    pattern_tree_at_weaker (pattern_var name pos) h = (weaker _ h.0, weaker _ h.1)
    pattern_tree_at_weaker (pattern_bind name below pos) h =
        (weaker _ h.0, pattern_tree_at_weaker below h.1, weaker _ h.2)
    pattern_tree_at_weaker (pattern_bool val pos) h = weaker _ h
    pattern_tree_at_weaker (pattern_int val big pos) h = weaker _ h
    pattern_tree_at_weaker (pattern_prim name pos) h = (weaker _ h.0, weaker _ h.1)
    pattern_tree_at_weaker (pattern_term term args pos) h =
        (weaker _ h.0, pattern_trees_at_weaker args h.1, weaker _ h.2)
    pattern_tree_at_weaker (pattern_wildcard pos) h = weaker _ h
    pattern_tree_at_weaker (pattern_and below pos) h = (pattern_trees_at_weaker below h.0, weaker _ h.1)
    pattern_tree_at_weaker (pattern_macro_arg index pos) h = weaker _ h

    pattern_trees_at_weaker : (ts : PatternTrees) → PatternTreesAt P ts → PatternTreesAt Q ts
    pattern_trees_at_weaker no_patterns h = tt
    pattern_trees_at_weaker (more_patterns t ts) h =
        (pattern_tree_at_weaker t h.0, pattern_trees_at_weaker ts h.1)

  mutual
    expr_tree_at_weaker : (t : ExprTree) → ExprTreeAt P t → ExprTreeAt Q t
    expr_tree_at_weaker (expr_term term args pos) h =
        (weaker _ h.0, expr_trees_at_weaker args h.1, weaker _ h.2)
    expr_tree_at_weaker (expr_var name pos) h = (weaker _ h.0, weaker _ h.1)
    expr_tree_at_weaker (expr_bool val pos) h = weaker _ h
    expr_tree_at_weaker (expr_int val big pos) h = weaker _ h
    expr_tree_at_weaker (expr_prim name pos) h = (weaker _ h.0, weaker _ h.1)
    expr_tree_at_weaker (expr_let defs body pos) h =
        (let_trees_at_weaker defs h.0, expr_tree_at_weaker body h.1, weaker _ h.2)

    expr_trees_at_weaker : (ts : ExprTrees) → ExprTreesAt P ts → ExprTreesAt Q ts
    expr_trees_at_weaker no_exprs h = tt
    expr_trees_at_weaker (more_exprs t ts) h =
        (expr_tree_at_weaker t h.0, expr_trees_at_weaker ts h.1)

    let_trees_at_weaker : (ds : LetTrees) → LetTreesAt P ds → LetTreesAt Q ds
    let_trees_at_weaker no_lets h = tt
    let_trees_at_weaker (more_lets var ty val pos ds) h =
        (weaker _ h.0, weaker _ h.1, expr_tree_at_weaker val h.2, weaker _ h.3, let_trees_at_weaker ds h.4)

  iflet_at_weaker : (iflet : IfLet) → IfLetAt P iflet → IfLetAt Q iflet
  iflet_at_weaker iflet h = record {
    pattern = pattern_tree_at_weaker (pattern_of iflet.pattern) h.pattern;
    expr = expr_tree_at_weaker (expr_of iflet.expr) h.expr;
    pos = weaker _ h.pos;
  }

  name_at_weaker : (name : Option Ident) → IfSome name (IdentAt P) → IfSome name (IdentAt Q)
  name_at_weaker None h = h
  name_at_weaker (Some name) h = weaker _ h

  rule_at_weaker : (rule : RuleTree) → RuleAt P rule → RuleAt Q rule
  rule_at_weaker rule h = record {
    pattern = pattern_tree_at_weaker (pattern_of rule.pattern) h.pattern;
    iflets = All-weaker (IfLetAt P) (IfLetAt Q) iflet_at_weaker rule.iflets h.iflets;
    expr = expr_tree_at_weaker (expr_of rule.expr) h.expr;
    pos = weaker _ h.pos;
    name = name_at_weaker rule.name h.name;
  }

  extractor_at_weaker : (extractor : ExtractorTree) → ExtractorAt P extractor → ExtractorAt Q extractor
  extractor_at_weaker extractor h = record {
    term = weaker _ h.term;
    args = All-weaker (IdentAt P) (IdentAt Q) (λ name. weaker name.1) extractor.args h.args;
    template = pattern_tree_at_weaker (pattern_of extractor.template) h.template;
    pos = weaker _ h.pos;
  }

  extern_at_weaker : (extern : ExternTree) → ExternAt P extern → ExternAt Q extern
  extern_at_weaker (extern_constructor term func pos) h = (weaker _ h.0, weaker _ h.1, weaker _ h.2)
  extern_at_weaker (extern_extractor term func pos _) h = (weaker _ h.0, weaker _ h.1, weaker _ h.2)
  extern_at_weaker (extern_const name ty pos) h = (weaker _ h.0, weaker _ h.1, weaker _ h.2)

  converter_at_weaker : (converter : ConverterTree) → ConverterAt P converter → ConverterAt Q converter
  converter_at_weaker converter h = record {
    term = weaker _ h.term;
    inner_ty = weaker _ h.inner_ty;
    outer_ty = weaker _ h.outer_ty;
    pos = weaker _ h.pos;
  }

  mutual
    item_tree_at_weaker : (t : ItemTree) → ItemTreeAt P t → ItemTreeAt Q t
    item_tree_at_weaker (item_int val pos) h = weaker _ h
    item_tree_at_weaker (item_big val pos) h = weaker _ h
    item_tree_at_weaker (item_symbol name) h = weaker _ h
    item_tree_at_weaker (item_at pos) h = weaker _ h
    item_tree_at_weaker (item_list below pos) h = (item_trees_at_weaker below h.0, weaker _ h.1)

    item_trees_at_weaker : (ts : ItemTrees) → ItemTreesAt P ts → ItemTreesAt Q ts
    item_trees_at_weaker no_items h = tt
    item_trees_at_weaker (more_items t ts) h = (item_tree_at_weaker t h.0, item_trees_at_weaker ts h.1)

  kept_at_weaker : (kept : KeptTree) → KeptAt P kept → KeptAt Q kept
  kept_at_weaker kept h = record {
    word = weaker _ h.word;
    items = item_trees_at_weaker kept.items h.items;
    pos = weaker _ h.pos;
  }

  pub def_at_weaker : (def : Def) → DefAt P def → DefAt Q def
  def_at_weaker (TypeDef type) h = type_at_weaker type h
  def_at_weaker (Decl decl) h = decl_at_weaker decl h
  def_at_weaker (Rule rule) h = rule_at_weaker rule h
  def_at_weaker (Extractor extractor) h = extractor_at_weaker extractor h
  def_at_weaker (Extern extern) h = extern_at_weaker extern h
  def_at_weaker (Converter converter) h = converter_at_weaker converter h
  def_at_weaker (Pragma pragma) h = tt
  def_at_weaker (Kept kept) h = kept_at_weaker kept h

  pub defs_at_weaker : (defs : List Def) → All (DefAt P) defs → All (DefAt Q) defs
  defs_at_weaker defs h = All-weaker (DefAt P) (DefAt Q) def_at_weaker defs h

  pub error_at_weaker : (error : Error) → ErrorAt P error → ErrorAt Q error
  error_at_weaker error h = record { named = h.named; placed = λ k d l. weaker _ (h.placed k d l) }

  pub refusal_at_weaker : (refusal : Refusal Error) → RefusalAt P refusal → RefusalAt Q refusal
  refusal_at_weaker (Fault error) h = error_at_weaker error h
  refusal_at_weaker (Memory e) h = tt
