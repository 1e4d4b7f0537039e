-- Which definitions can be printed and read back.
use Rattle.std.specs.Prelude.{ℕ, ℤ, suc, ◌-◌, ◌^◌, List, [], ◌∷◌, Bool, true, false, ◌&&◌, ◌||◌, ◌==◌, not, nat_le, nat_lt, int_le, int_lt, pos}
use Rattle.std.specs.Prelude.{negsuc, Option, None, Some, codes}
use Rattle.std.specs.List.{list_all}
use Rattle.isle_ast.specs.declared.ast.Ident.{Ident}
use Rattle.isle_ast.specs.declared.ast.StructField.{StructField}
use Rattle.isle_ast.specs.declared.ast.TupleField.{TupleField}
use Rattle.isle_ast.specs.declared.ast.Fields.{Fields}
use Rattle.isle_ast.specs.declared.ast.Fields.TheVariants.{Unit as no_fields, Struct as named_fields, Tuple as tuple_fields}
use Rattle.isle_ast.specs.declared.ast.Variant.{Variant}
use Rattle.isle_ast.specs.declared.ast.TypeValue.{TypeValue}
use Rattle.isle_ast.specs.declared.ast.TypeValue.TheVariants.{Primitive, Enum, Struct}
use Rattle.isle_ast.specs.declared.ast.«Type».{«Type» as TypeTree}
use Rattle.isle_ast.specs.declared.ast.Decl.{Decl as DeclTree}
use Rattle.isle_ast.specs.declared.ast.IfLet.{IfLet}
use Rattle.isle_ast.specs.declared.ast.Rule.{Rule as RuleTree}
use Rattle.isle_ast.specs.declared.ast.Extractor.{Extractor as ExtractorTree}
use Rattle.isle_ast.specs.declared.ast.Extern.{Extern as ExternTree}
use Rattle.isle_ast.specs.declared.ast.Extern.TheVariants.{Constructor as extern_constructor, Extractor as extern_extractor, Const as extern_const}
use Rattle.isle_ast.specs.declared.ast.Converter.{Converter as ConverterTree}
use Rattle.isle_ast.specs.declared.ast.Kept.{Kept as KeptTree}
use Rattle.isle_ast.specs.declared.ast.Def.{Def}
use Rattle.isle_ast.specs.declared.ast.Def.TheVariants.{TypeDef, Decl, Rule, Extractor, Extern, Converter, Pragma, Kept}
use Rattle.isle_ast.specs.Trees.PatternTree.{PatternTree, PatternTrees, pattern_var, pattern_bind, pattern_bool, pattern_int, pattern_prim}
use Rattle.isle_ast.specs.Trees.PatternTree.{pattern_term, pattern_wildcard, pattern_and, pattern_macro_arg, no_patterns, more_patterns}
use Rattle.isle_ast.specs.Trees.PatternShape.{pattern_of}
use Rattle.isle_ast.specs.Trees.ExprTree.{ExprTree, ExprTrees, LetTrees, expr_term, expr_var, expr_bool, expr_int, expr_prim, expr_let, no_exprs}
use Rattle.isle_ast.specs.Trees.ExprTree.{more_exprs, no_lets, more_lets}
use Rattle.isle_ast.specs.Trees.ExprShape.{expr_of}
use Rattle.isle_ast.specs.Trees.ItemTree.{ItemTree, ItemTrees, item_int, item_big, item_symbol, item_at, item_list, no_items, more_items}
use Rattle.isle_syntax.specs.Tokens.Names.{is_symbol, is_ident, is_name, is_pname, is_const_name, is_word}
use Rattle.isle_syntax.specs.Grammar.TreeGrammar.{is_pattern_term, is_expr_term}
use Rattle.isle_syntax.specs.Grammar.DefGrammar.{fits_priority, is_kept_word, is_clause_word}
use Rattle.isle_syntax.specs.Grammar.Verdict.{max_nesting}
use Rattle.isle_layout.specs.Nesting.{nesting}

-- a name is an identifier
abbrev pub writable_ident : Ident → Bool
writable_ident name = is_ident name.0

-- an integer is one of an `i128`, as every integer of a tree is
abbrev pub fits_i128 : ℤ → Bool
fits_i128 val = int_le (negsuc (2 ^ 127 - 1)) val && int_lt val (pos (2 ^ 127))

-- and one from 2^127 on has its highest bit set
abbrev pub writable_int : ℤ → Bool → Bool
writable_int val big = fits_i128 val && (not big || int_lt val (pos 0))

-- ---- patterns, expressions and kept items

abbrev mutual
  pub writable_pattern : PatternTree → Bool
  writable_pattern (pattern_var name _) = is_pname name.0
  writable_pattern (pattern_bind name below _) = is_pname name.0 && writable_pattern below
  writable_pattern (pattern_bool _ _) = true
  writable_pattern (pattern_int val big _) = writable_int val big
  writable_pattern (pattern_prim name _) = is_const_name name.0
  writable_pattern (pattern_term term args _) = is_pattern_term term.0 && writable_patterns args
  writable_pattern (pattern_wildcard _) = true
  writable_pattern (pattern_and below _) = writable_patterns below
  writable_pattern (pattern_macro_arg _ _) = false

  pub writable_patterns : PatternTrees → Bool
  writable_patterns no_patterns = true
  writable_patterns (more_patterns first others) = writable_pattern first && writable_patterns others

abbrev mutual
  pub writable_expr : ExprTree → Bool
  writable_expr (expr_term term args _) = is_expr_term term.0 && writable_exprs args
  writable_expr (expr_var name _) = is_name name.0
  writable_expr (expr_bool _ _) = true
  writable_expr (expr_int val big _) = writable_int val big
  writable_expr (expr_prim name _) = is_const_name name.0
  writable_expr (expr_let defs body _) = writable_lets defs && writable_expr body

  pub writable_exprs : ExprTrees → Bool
  writable_exprs no_exprs = true
  writable_exprs (more_exprs first others) = writable_expr first && writable_exprs others

  pub writable_lets : LetTrees → Bool
  writable_lets no_lets = true
  writable_lets (more_lets var ty val _ others) =
      writable_ident var && writable_ident ty && writable_expr val && writable_lets others

abbrev mutual
  pub writable_item : ItemTree → Bool
  writable_item (item_int val _) = fits_i128 val
  writable_item (item_big val _) = nat_le (2 ^ 127) val && nat_lt val (2 ^ 128)
  writable_item (item_symbol name) = is_symbol name.0
  writable_item (item_at _) = true
  writable_item (item_list items _) = writable_items items

  pub writable_items : ItemTrees → Bool
  writable_items no_items = true
  writable_items (more_items first others) = writable_item first && writable_items others

-- ---- types

abbrev pub writable_struct_field : StructField → Bool
writable_struct_field field = writable_ident field.name && writable_ident field.ty

-- fields without names are counted, from a number on
abbrev pub writable_tuple_fields : ℕ → List TupleField → Bool
writable_tuple_fields next [] = true
writable_tuple_fields next (field ∷ others) =
    (field.index == next) && writable_ident field.ty && writable_tuple_fields (suc next) others

abbrev pub is_filled : {A : Type 0} → List A → Bool
is_filled [] = false
is_filled (a ∷ rest) = true

-- no fields are always `Unit`, and others are counted from 0
abbrev pub writable_fields : Fields → Bool
writable_fields no_fields = true
writable_fields (named_fields fields) = is_filled fields.fields && list_all writable_struct_field fields.fields
writable_fields (tuple_fields fields) = is_filled fields.fields && writable_tuple_fields 0 fields.fields

abbrev pub writable_variant : Variant → Bool
writable_variant variant = writable_ident variant.name && writable_fields variant.fields

abbrev pub writable_type_value : TypeValue → Bool
writable_type_value (Primitive name _) = writable_ident name
writable_type_value (Enum variants _) = list_all writable_variant variants
writable_type_value (Struct fields _) = writable_fields fields

abbrev pub writable_type : TypeTree → Bool
writable_type type = writable_ident type.name && writable_type_value type.ty

-- ---- terms

-- a name is read as a flag that is not set where none of the flags behind it is set either
abbrev pub is_free_of_flags : DeclTree → Bool
is_free_of_flags decl =
    (decl.pure || decl.multi || decl.partial || decl.rec || not (is_word (codes "pure") decl.term.0))
    && (decl.multi || decl.partial || decl.rec || not (is_word (codes "multi") decl.term.0))
    && (decl.partial || decl.rec || not (is_word (codes "partial") decl.term.0))
    && (decl.rec || not (is_word (codes "rec") decl.term.0))

abbrev pub writable_decl : DeclTree → Bool
writable_decl decl =
    writable_ident decl.term && is_free_of_flags decl && list_all writable_ident decl.arg_tys && writable_ident decl.ret_ty

abbrev pub writable_extractor : ExtractorTree → Bool
writable_extractor extractor =
    writable_ident extractor.term && list_all writable_ident extractor.args && writable_pattern (pattern_of extractor.template)

-- an extractor that can fail has no term whose name says that it can't
abbrev pub writable_extern : ExternTree → Bool
writable_extern (extern_constructor term func _) = writable_ident term && writable_ident func
writable_extern (extern_extractor term func _ infallible) =
    writable_ident term && writable_ident func && (infallible || not (is_word (codes "infallible") term.0))
writable_extern (extern_const name ty _) = is_const_name name.0 && writable_ident ty

abbrev pub writable_converter : ConverterTree → Bool
writable_converter converter =
    writable_ident converter.inner_ty && writable_ident converter.outer_ty && writable_ident converter.term

-- ---- rules

abbrev pub writable_rule_name : Option Ident → Bool
writable_rule_name None = true
writable_rule_name (Some name) = writable_ident name

-- a priority is one of an `i64`, as every priority is
abbrev pub writable_priority : Option ℤ → Bool
writable_priority None = true
writable_priority (Some priority) = fits_priority priority

abbrev pub writable_iflet : IfLet → Bool
writable_iflet clause = writable_pattern (pattern_of clause.pattern) && writable_expr (expr_of clause.expr)

-- a rule's pattern is a term or an `and`
abbrev pub is_list : PatternTree → Bool
is_list (pattern_var _ _) = false
is_list (pattern_bind _ _ _) = false
is_list (pattern_bool _ _) = false
is_list (pattern_int _ _ _) = false
is_list (pattern_prim _ _) = false
is_list (pattern_term _ _ _) = true
is_list (pattern_wildcard _) = false
is_list (pattern_and _ _) = true
is_list (pattern_macro_arg _ _) = false

-- its right side is no term `if` or `if-let`, which would begin a clause
abbrev pub is_right_side : ExprTree → Bool
is_right_side (expr_term term _ _) = not (is_clause_word term.0)
is_right_side (expr_var _ _) = true
is_right_side (expr_bool _ _) = true
is_right_side (expr_int _ _ _) = true
is_right_side (expr_prim _ _) = true
is_right_side (expr_let _ _ _) = true

abbrev pub writable_rule : RuleTree → Bool
writable_rule rule =
    writable_rule_name rule.name && writable_priority rule.prio && is_list (pattern_of rule.pattern) && writable_pattern (pattern_of rule.pattern)
    && list_all writable_iflet rule.iflets && is_right_side (expr_of rule.expr) && writable_expr (expr_of rule.expr)

-- ---- definitions

abbrev pub writable_kept : KeptTree → Bool
writable_kept kept = is_kept_word kept.word.0 && writable_items kept.items

-- the words of a definition are those of its grammar; there is no pragma
abbrev pub has_writable_words : Def → Bool
has_writable_words (TypeDef type) = writable_type type
has_writable_words (Decl decl) = writable_decl decl
has_writable_words (Rule rule) = writable_rule rule
has_writable_words (Extractor extractor) = writable_extractor extractor
has_writable_words (Extern extern) = writable_extern extern
has_writable_words (Converter converter) = writable_converter converter
has_writable_words (Pragma _) = false
has_writable_words (Kept kept) = writable_kept kept

-- and no more parentheses are open at once than may be
abbrev pub writable_def : Def → Bool
writable_def def = has_writable_words def && nat_le (nesting def) max_nesting
