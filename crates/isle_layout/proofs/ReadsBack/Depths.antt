-- Tokens of the S-expression of a definition open no more parentheses at once than it nests.
use Rattle.std.proofs.Common.{◌≡◌, ℕ, ◌+◌, max, List, [], ◌∷◌, ◌++◌, map, Bool, true, false, Option, None, Some, refl, arith}
use Rattle.std.specs.Prelude.{ℤ, ◌&&◌, ◌||◌, ◌==◌, not, codes, suc}
use Rattle.std.specs.Fmt.{decimal, signed_decimal}
use Rattle.std.specs.List.{list_all}
use Rattle.isle_ast.specs.declared.ast.Ident.{Ident}
use Rattle.isle_ast.specs.declared.ast.StructField.{StructField}
use Rattle.isle_ast.specs.declared.ast.TupleField.{TupleField}
use Rattle.isle_ast.specs.declared.ast.Fields.{Fields}
use Rattle.isle_ast.specs.declared.ast.Fields.TheVariants.{Unit as no_fields, Struct as named_fields, Tuple as tuple_fields}
use Rattle.isle_ast.specs.declared.ast.Variant.{Variant}
use Rattle.isle_ast.specs.declared.ast.TypeValue.{TypeValue}
use Rattle.isle_ast.specs.declared.ast.TypeValue.TheVariants.{Primitive, Enum, Struct}
use Rattle.isle_ast.specs.declared.ast.«Type».{«Type» as TypeTree}
use Rattle.isle_ast.specs.declared.ast.Decl.{Decl as DeclTree}
use Rattle.isle_ast.specs.declared.ast.IfLet.{IfLet}
use Rattle.isle_ast.specs.declared.ast.Rule.{Rule as RuleTree}
use Rattle.isle_ast.specs.declared.ast.Extractor.{Extractor as ExtractorTree}
use Rattle.isle_ast.specs.declared.ast.Extern.{Extern as ExternTree}
use Rattle.isle_ast.specs.declared.ast.Extern.TheVariants.{Constructor as extern_constructor, Extractor as extern_extractor, Const as extern_const}
use Rattle.isle_ast.specs.declared.ast.Converter.{Converter as ConverterTree}
use Rattle.isle_ast.specs.declared.ast.Kept.{Kept as KeptTree}
use Rattle.isle_ast.specs.declared.ast.Def.{Def}
use Rattle.isle_ast.specs.declared.ast.Def.TheVariants.{TypeDef, Decl, Rule, Extractor, Extern, Converter, Pragma, Kept}
use Rattle.isle_syntax.specs.Tokens.Names.{is_symbol, is_ident, is_pname, is_const_name, is_word}
use Rattle.isle_syntax.specs.Grammar.TreeGrammar.{truth_word, is_pattern_term, is_expr_term}
use Rattle.isle_syntax.specs.Grammar.DefGrammar.{is_kept_word}
use Rattle.isle_ast.specs.Trees.PatternTree.{PatternTree, PatternTrees, pattern_var, pattern_bind, pattern_bool, pattern_int, pattern_prim}
use Rattle.isle_ast.specs.Trees.PatternTree.{pattern_term, pattern_wildcard, pattern_and, pattern_macro_arg, no_patterns, more_patterns}
use Rattle.isle_ast.specs.Trees.PatternShape.{pattern_of}
use Rattle.isle_ast.specs.Trees.ExprTree.{ExprTree, ExprTrees, LetTrees, expr_term, expr_var, expr_bool, expr_int, expr_prim, expr_let, no_exprs}
use Rattle.isle_ast.specs.Trees.ExprTree.{more_exprs, no_lets, more_lets}
use Rattle.isle_ast.specs.Trees.ExprShape.{expr_of}
use Rattle.isle_ast.specs.Trees.ItemTree.{ItemTree, ItemTrees, item_int, item_big, item_symbol, item_at, item_list, no_items, more_items}
use Rattle.isle_syntax.proofs.Reading.SymbolKinds.{and_first, and_second}
use Rattle.isle_layout.specs.SExprTree.{sexpr_atom}
use Rattle.isle_layout.specs.Spellings.{listed, name_sexpr, constant_sexpr, integer_text, pattern_sexpr, pattern_sexprs, expr_sexpr, expr_sexprs}
use Rattle.isle_layout.specs.Spellings.{let_sexprs, item_sexpr, item_sexprs}
use Rattle.isle_layout.specs.DefSpellings.{flag, struct_field_sexpr, tuple_field_sexpr, fields_sexprs, variant_of, variant_sexpr, type_value_sexpr}
use Rattle.isle_layout.specs.DefSpellings.{type_sexpr, decl_flags, decl_sexpr, extractor_sexpr, extern_sexpr, converter_sexpr, rule_name}
use Rattle.isle_layout.specs.DefSpellings.{rule_priority, iflet_sexpr, rule_sexpr, kept_sexpr, def_sexpr}
use Rattle.isle_layout.specs.Nesting.{pattern_nesting, pattern_nestings, expr_nesting, expr_nestings, let_nestings, item_nesting, item_nestings}
use Rattle.isle_layout.specs.Nesting.{iflet_nestings, rule_nesting, nesting}
use Rattle.isle_layout.specs.Writable.{writable_ident, writable_pattern, writable_patterns, writable_expr, writable_exprs, writable_lets}
use Rattle.isle_layout.specs.Writable.{writable_item, writable_items, writable_struct_field, writable_tuple_fields, is_filled, writable_fields}
use Rattle.isle_layout.specs.Writable.{writable_variant, writable_type_value, writable_type, is_free_of_flags, writable_decl, writable_extractor}
use Rattle.isle_layout.specs.Writable.{writable_extern, writable_converter, writable_rule_name, writable_priority, writable_iflet, is_list}
use Rattle.isle_layout.specs.Writable.{is_right_side, writable_rule, writable_kept, has_writable_words}
use Rattle.isle_layout.proofs.Atoms.AtomReadings.{at_sign_reading, signed_reading}
use Rattle.isle_layout.proofs.Atoms.IdentifierTexts.{ident_is_symbol, name_is_symbol, pname_is_symbol, constant_is_symbol, kept_word_is_symbol}
use Rattle.isle_layout.proofs.Atoms.DefAtoms.{fits_small, wider}
use Rattle.isle_layout.proofs.Atoms.TreeAtoms.{fits_signed}
use Rattle.isle_layout.proofs.ReadsBack.Trees.{integer_again, large_again}
use Rattle.isle_layout.proofs.ReadsBack.DepthsLeft.{Fits, FitAll, fit_none, fit_more, fit_append, fit_map, fits_deeper, fit_deeper, symbol_fits}
use Rattle.isle_layout.proofs.ReadsBack.DepthsLeft.{int_fits, at_fits, binding_fits, list_fits}

-- ---- atoms

word_fits : {d : ℕ} (w : List ℕ) → is_symbol w ≡ true → Fits d (sexpr_atom w)
word_fits w h = symbol_fits w (λ u. h)

name_fits : {d : ℕ} (x : Ident) → writable_ident x ≡ true → Fits d (name_sexpr x)
name_fits x h = symbol_fits x.0 (λ u. ident_is_symbol x.0 u h)

constant_fits : {d : ℕ} (x : Ident) → is_const_name x.0 ≡ true → Fits d (constant_sexpr x)
constant_fits x h = symbol_fits (36 ∷ x.0) (λ u. constant_is_symbol x.0 u h)

truth_fits : {d : ℕ} (b : Bool) → Fits d (sexpr_atom (truth_word b))
truth_fits true = word_fits (truth_word true) refl
truth_fits false = word_fits (truth_word false) refl

-- ---- patterns

mutual
  pattern_fits : (t : PatternTree) → writable_pattern t ≡ true → Fits (pattern_nesting t) (pattern_sexpr t)
  pattern_fits (pattern_var x p) h = symbol_fits x.0 (λ u. pname_is_symbol x.0 u h)
  pattern_fits (pattern_bind x t p) h =
      binding_fits x.0 (pattern_sexpr t) (λ u. pname_is_symbol x.0 u (and_first (is_pname x.0) (writable_pattern t) h))
      (pattern_fits t (and_second (is_pname x.0) (writable_pattern t) h))
  pattern_fits (pattern_bool b p) h = truth_fits b
  pattern_fits (pattern_int val big p) h =
      int_fits (integer_text val big) (λ ts l. (let n = integer_again val big ts h l in (n.0, n.1.0, n.1.1)))
  pattern_fits (pattern_prim x p) h = constant_fits x h
  pattern_fits (pattern_term x args p) h =
      list_fits (name_sexpr x ∷ pattern_sexprs args)
      (fit_more (symbol_fits x.0 (λ u. ident_is_symbol x.0 u
      (and_first (is_ident x.0) _ (and_first (is_pattern_term x.0) (writable_patterns args) h))))
      (patterns_fit args (and_second (is_pattern_term x.0) (writable_patterns args) h)))
  pattern_fits (pattern_wildcard p) h = word_fits (codes "_") refl
  pattern_fits (pattern_and args p) h =
      list_fits (sexpr_atom (codes "and") ∷ pattern_sexprs args) (fit_more (word_fits (codes "and") refl) (patterns_fit args h))
  pattern_fits (pattern_macro_arg k p) h = absurd (cc)

  patterns_fit : (ps : PatternTrees) → writable_patterns ps ≡ true → FitAll (pattern_nestings ps) (pattern_sexprs ps)
  patterns_fit no_patterns h = fit_none
  patterns_fit (more_patterns t ps) h =
      fit_more (fits_deeper (omega arith) (pattern_fits t (and_first (writable_pattern t) (writable_patterns ps) h)))
      (fit_deeper (omega arith) (patterns_fit ps (and_second (writable_pattern t) (writable_patterns ps) h)))

-- ---- expressions

mutual
  expr_fits : (t : ExprTree) → writable_expr t ≡ true → Fits (expr_nesting t) (expr_sexpr t)
  expr_fits (expr_term x args p) h =
      list_fits (name_sexpr x ∷ expr_sexprs args)
      (fit_more (symbol_fits x.0 (λ u. ident_is_symbol x.0 u (and_first (is_ident x.0) _ (and_first (is_expr_term x.0) (writable_exprs args) h))))
      (exprs_fit args (and_second (is_expr_term x.0) (writable_exprs args) h)))
  expr_fits (expr_var x p) h = symbol_fits x.0 (λ u. name_is_symbol x.0 u h)
  expr_fits (expr_bool b p) h = truth_fits b
  expr_fits (expr_int val big p) h =
      int_fits (integer_text val big) (λ ts l. (let n = integer_again val big ts h l in (n.0, n.1.0, n.1.1)))
  expr_fits (expr_prim x p) h = constant_fits x h
  expr_fits (expr_let ds t p) h =
      list_fits (sexpr_atom (codes "let") ∷ listed (let_sexprs ds) ∷ expr_sexpr t ∷ [])
      (fit_more (word_fits (codes "let") refl)
      (fit_more (fits_deeper (omega arith) (list_fits (let_sexprs ds) (lets_fit ds (and_first (writable_lets ds) (writable_expr t) h))))
      (fit_more (fits_deeper (omega arith) (expr_fits t (and_second (writable_lets ds) (writable_expr t) h))) fit_none)))

  exprs_fit : (es : ExprTrees) → writable_exprs es ≡ true → FitAll (expr_nestings es) (expr_sexprs es)
  exprs_fit no_exprs h = fit_none
  exprs_fit (more_exprs t es) h =
      fit_more (fits_deeper (omega arith) (expr_fits t (and_first (writable_expr t) (writable_exprs es) h)))
      (fit_deeper (omega arith) (exprs_fit es (and_second (writable_expr t) (writable_exprs es) h)))

  lets_fit : (es : LetTrees) → writable_lets es ≡ true → FitAll (let_nestings es) (let_sexprs es)
  lets_fit no_lets h = fit_none
  lets_fit (more_lets x y t p es) h =
      let one = and_first (writable_ident x && writable_ident y && writable_expr t) (writable_lets es) h in
      let names = and_first (writable_ident x && writable_ident y) (writable_expr t) one in
      fit_more
      (fits_deeper (omega arith)
      (list_fits (name_sexpr x ∷ name_sexpr y ∷ expr_sexpr t ∷ [])
      (fit_more (name_fits x (and_first (writable_ident x) (writable_ident y) names))
      (fit_more (name_fits y (and_second (writable_ident x) (writable_ident y) names))
      (fit_more (expr_fits t (and_second (writable_ident x && writable_ident y) (writable_expr t) one)) fit_none)))))
      (fit_deeper (omega arith) (lets_fit es (and_second (writable_ident x && writable_ident y && writable_expr t) (writable_lets es) h)))

-- ---- kept items

mutual
  item_fits : (t : ItemTree) → writable_item t ≡ true → Fits (item_nesting t) (item_sexpr t)
  item_fits (item_int val p) h = int_fits (signed_decimal val) (λ ts l. (let n = signed_reading val ts (fits_signed val h) l.1 in (n.0, _, n.1)))
  item_fits (item_big val p) h = int_fits (decimal val) (λ ts l. (let n = large_again val ts h l in (n.0, _, n.1)))
  item_fits (item_symbol x) h = word_fits x.0 h
  item_fits (item_at p) h = at_fits (codes "@") (λ ts l. at_sign_reading ts l.1)
  item_fits (item_list items p) h = list_fits (item_sexprs items) (items_fit items h)

  items_fit : (xs : ItemTrees) → writable_items xs ≡ true → FitAll (item_nestings xs) (item_sexprs xs)
  items_fit no_items h = fit_none
  items_fit (more_items t xs) h =
      fit_more (fits_deeper (omega arith) (item_fits t (and_first (writable_item t) (writable_items xs) h)))
      (fit_deeper (omega arith) (items_fit xs (and_second (writable_item t) (writable_items xs) h)))

-- ---- types

flag_fits : {d : ℕ} (w : List ℕ) (set : Bool) → is_symbol w ≡ true → FitAll d (flag w set)
flag_fits w true h = fit_more (word_fits w h) fit_none
flag_fits w false h = fit_none

idents_fit : {d : ℕ} (xs : List Ident) → list_all writable_ident xs ≡ true → FitAll d (map name_sexpr xs)
idents_fit xs h = fit_map name_sexpr writable_ident name_fits xs h

two_fit : {d : ℕ} (x y : Ident) → (writable_ident x && writable_ident y) ≡ true → FitAll d (name_sexpr x ∷ name_sexpr y ∷ [])
two_fit x y h =
    fit_more (name_fits x (and_first (writable_ident x) (writable_ident y) h))
    (fit_more (name_fits y (and_second (writable_ident x) (writable_ident y) h)) fit_none)

field_fits : (f : StructField) → writable_struct_field f ≡ true → Fits 1 (struct_field_sexpr f)
field_fits f h = list_fits (name_sexpr f.name ∷ name_sexpr f.ty ∷ []) (two_fit {d = 0} f.name f.ty h)

counted_fit : {d : ℕ} (n : ℕ) (fs : List TupleField) → writable_tuple_fields n fs ≡ true → FitAll d (map tuple_field_sexpr fs)
counted_fit n [] h = fit_none
counted_fit n (f ∷ fs) h =
    let one = and_first ((f.index == n) && writable_ident f.ty) (writable_tuple_fields (suc n) fs) h in
    fit_more (name_fits f.ty (and_second (f.index == n) (writable_ident f.ty) one))
    (counted_fit (suc n) fs (and_second ((f.index == n) && writable_ident f.ty) (writable_tuple_fields (suc n) fs) h))

fields_fit : (f : Fields) → writable_fields f ≡ true → FitAll 1 (fields_sexprs f)
fields_fit no_fields h = fit_none
fields_fit (named_fields fs) h =
    fit_map struct_field_sexpr writable_struct_field field_fits fs.fields
    (and_second (is_filled fs.fields) (list_all writable_struct_field fs.fields) h)
fields_fit (tuple_fields fs) h = counted_fit 0 fs.fields (and_second (is_filled fs.fields) (writable_tuple_fields 0 fs.fields) h)

variant_of_fits : (x : Ident) (f : Fields) → writable_ident x ≡ true → writable_fields f ≡ true → Fits 2 (variant_of x f)
variant_of_fits x no_fields g h = name_fits x g
variant_of_fits x (named_fields fs) g h =
    list_fits (name_sexpr x ∷ map struct_field_sexpr fs.fields) (fit_more (name_fits x g) (fields_fit (named_fields fs) h))
variant_of_fits x (tuple_fields fs) g h =
    list_fits (name_sexpr x ∷ map tuple_field_sexpr fs.fields) (fit_more (name_fits x g) (fields_fit (tuple_fields fs) h))

variant_fits : (v : Variant) → writable_variant v ≡ true → Fits 2 (variant_sexpr v)
variant_fits v h =
    variant_of_fits v.name v.fields (and_first (writable_ident v.name) (writable_fields v.fields) h)
    (and_second (writable_ident v.name) (writable_fields v.fields) h)

value_fits : (v : TypeValue) → writable_type_value v ≡ true → Fits 3 (type_value_sexpr v)
value_fits (Primitive x p) h =
    list_fits (sexpr_atom (codes "primitive") ∷ name_sexpr x ∷ [])
    (fit_more {d = 2} (word_fits (codes "primitive") refl) (fit_more (name_fits x h) fit_none))
value_fits (Enum variants p) h =
    list_fits (sexpr_atom (codes "enum") ∷ map variant_sexpr variants)
    (fit_more (word_fits (codes "enum") refl) (fit_map variant_sexpr writable_variant variant_fits variants h))
value_fits (Struct fields p) h =
    list_fits (sexpr_atom (codes "struct") ∷ fields_sexprs fields)
    (fit_more {d = 2} (word_fits (codes "struct") refl) (fit_deeper (omega arith) (fields_fit fields h)))

type_fits : (t : TypeTree) → writable_type t ≡ true → Fits 4 (type_sexpr t)
type_fits t h =
    let marks = flag (codes "nodebug") t.is_nodebug in
    let value = type_value_sexpr t.ty ∷ [] in
    list_fits (sexpr_atom (codes "type") ∷ name_sexpr t.name ∷ (flag (codes "extern") t.is_extern ++ (marks ++ value)))
    (fit_more {d = 3} (word_fits (codes "type") refl)
    (fit_more (name_fits t.name (and_first (writable_ident t.name) (writable_type_value t.ty) h))
    (fit_append (flag (codes "extern") t.is_extern) (marks ++ value) (flag_fits (codes "extern") t.is_extern refl)
    (fit_append marks value (flag_fits (codes "nodebug") t.is_nodebug refl)
    (fit_more (value_fits t.ty (and_second (writable_ident t.name) (writable_type_value t.ty) h)) fit_none)))))

-- ---- terms

flags_fit : {d : ℕ} (decl : DeclTree) → FitAll d (decl_flags decl)
flags_fit decl =
    fit_append (flag (codes "pure") decl.pure) _ (flag_fits (codes "pure") decl.pure refl)
    (fit_append (flag (codes "multi") decl.multi) _ (flag_fits (codes "multi") decl.multi refl)
    (fit_append (flag (codes "partial") decl.partial) _ (flag_fits (codes "partial") decl.partial refl) (flag_fits (codes "rec") decl.rec refl)))

decl_fits : (d : DeclTree) → writable_decl d ≡ true → Fits 2 (decl_sexpr d)
decl_fits d w =
    let three = and_first (writable_ident d.term && is_free_of_flags d && list_all writable_ident d.arg_tys) (writable_ident d.ret_ty) w in
    let two = and_first (writable_ident d.term && is_free_of_flags d) (list_all writable_ident d.arg_tys) three in
    let names = name_sexpr d.term ∷ listed (map name_sexpr d.arg_tys) ∷ name_sexpr d.ret_ty ∷ [] in
    list_fits (sexpr_atom (codes "decl") ∷ (decl_flags d ++ names))
    (fit_more {d = 1} (word_fits (codes "decl") refl)
    (fit_append (decl_flags d) names (flags_fit d)
    (fit_more (name_fits d.term (and_first (writable_ident d.term) (is_free_of_flags d) two))
    (fit_more (list_fits (map name_sexpr d.arg_tys)
    (idents_fit {d = 0} d.arg_tys (and_second (writable_ident d.term && is_free_of_flags d) (list_all writable_ident d.arg_tys) three)))
    (fit_more (name_fits d.ret_ty (and_second (writable_ident d.term && is_free_of_flags d
    && list_all writable_ident d.arg_tys) (writable_ident d.ret_ty) w)) fit_none)))))

extractor_fits : (x : ExtractorTree) → writable_extractor x ≡ true → Fits (max 1 (pattern_nesting (pattern_of x.template)) + 1) (extractor_sexpr x)
extractor_fits x w =
    let template = pattern_of x.template in
    let two = and_first (writable_ident x.term && list_all writable_ident x.args) (writable_pattern template) w in
    let args = idents_fit {d = 0} x.args (and_second (writable_ident x.term) (list_all writable_ident x.args) two) in
    let head =
    list_fits (name_sexpr x.term ∷ map name_sexpr x.args)
    (fit_more (name_fits x.term (and_first (writable_ident x.term) (list_all writable_ident x.args) two)) args) in
    list_fits (sexpr_atom (codes "extractor") ∷ listed (name_sexpr x.term ∷ map name_sexpr x.args) ∷ pattern_sexpr template ∷ [])
    (fit_more (word_fits (codes "extractor") refl)
    (fit_more (fits_deeper (omega arith) head)
    (fit_more (fits_deeper (omega arith) (pattern_fits template
    (and_second (writable_ident x.term && list_all writable_ident x.args) (writable_pattern template) w))) fit_none)))

extern_fits : (x : ExternTree) → writable_extern x ≡ true → Fits 1 (extern_sexpr x)
extern_fits (extern_constructor term func p) h =
    list_fits (sexpr_atom (codes "extern") ∷ sexpr_atom (codes "constructor") ∷ name_sexpr term ∷ name_sexpr func ∷ [])
    (fit_more {d = 0} (word_fits (codes "extern") refl) (fit_more (word_fits (codes "constructor") refl) (two_fit term func h)))
extern_fits (extern_extractor term func p infallible) h =
    let names = name_sexpr term ∷ name_sexpr func ∷ [] in
    let two =
    two_fit {d = 0} term func (and_first (writable_ident term && writable_ident func) (infallible || not (is_word (codes "infallible") term.0)) h)
    in
    list_fits (sexpr_atom (codes "extern") ∷ sexpr_atom (codes "extractor") ∷ (flag (codes "infallible") infallible ++ names))
    (fit_more (word_fits (codes "extern") refl)
    (fit_more (word_fits (codes "extractor") refl)
    (fit_append (flag (codes "infallible") infallible) names (flag_fits (codes "infallible") infallible refl) two)))
extern_fits (extern_const name ty p) h =
    list_fits (sexpr_atom (codes "extern") ∷ sexpr_atom (codes "const") ∷ constant_sexpr name ∷ name_sexpr ty ∷ [])
    (fit_more {d = 0} (word_fits (codes "extern") refl)
    (fit_more (word_fits (codes "const") refl)
    (fit_more (constant_fits name (and_first (is_const_name name.0) (writable_ident ty) h))
    (fit_more (name_fits ty (and_second (is_const_name name.0) (writable_ident ty) h)) fit_none))))

converter_fits : (c : ConverterTree) → writable_converter c ≡ true → Fits 1 (converter_sexpr c)
converter_fits c h =
    let two = and_first (writable_ident c.inner_ty && writable_ident c.outer_ty) (writable_ident c.term) h in
    let last = name_fits c.term (and_second (writable_ident c.inner_ty && writable_ident c.outer_ty) (writable_ident c.term) h) in
    list_fits (sexpr_atom (codes "convert") ∷ name_sexpr c.inner_ty ∷ name_sexpr c.outer_ty ∷ name_sexpr c.term ∷ [])
    (fit_more {d = 0} (word_fits (codes "convert") refl)
    (fit_more (name_fits c.inner_ty (and_first (writable_ident c.inner_ty) (writable_ident c.outer_ty) two))
    (fit_more (name_fits c.outer_ty (and_second (writable_ident c.inner_ty) (writable_ident c.outer_ty) two)) (fit_more last fit_none))))

-- ---- rules

rule_name_fits : {d : ℕ} (name : Option Ident) → writable_rule_name name ≡ true → FitAll d (rule_name name)
rule_name_fits None h = fit_none
rule_name_fits (Some x) h = fit_more (name_fits x h) fit_none

priority_fits : {d : ℕ} (prio : Option ℤ) → writable_priority prio ≡ true → FitAll d (rule_priority prio)
priority_fits None h = fit_none
priority_fits (Some z) h =
    fit_more (int_fits (signed_decimal z) (λ ts l. (let n = signed_reading z ts (wider z (fits_small z h)) l.1 in (n.0, _, n.1)))) fit_none

iflet_fits : (c : IfLet) → writable_iflet c ≡ true
    → Fits (max (pattern_nesting (pattern_of c.pattern)) (expr_nesting (expr_of c.expr)) + 1) (iflet_sexpr c)
iflet_fits c h =
    let pattern = pattern_of c.pattern in
    let expr = expr_of c.expr in
    list_fits (sexpr_atom (codes "if-let") ∷ pattern_sexpr pattern ∷ expr_sexpr expr ∷ [])
    (fit_more (word_fits (codes "if-let") refl)
    (fit_more (fits_deeper (omega arith) (pattern_fits pattern (and_first (writable_pattern pattern) (writable_expr expr) h)))
    (fit_more (fits_deeper (omega arith) (expr_fits expr (and_second (writable_pattern pattern) (writable_expr expr) h))) fit_none)))

iflets_fit : (cs : List IfLet) → list_all writable_iflet cs ≡ true → FitAll (iflet_nestings cs) (map iflet_sexpr cs)
iflets_fit [] h = fit_none
iflets_fit (c ∷ cs) h =
    fit_more (fits_deeper (omega arith) (iflet_fits c (and_first (writable_iflet c) (list_all writable_iflet cs) h)))
    (fit_deeper (omega arith) (iflets_fit cs (and_second (writable_iflet c) (list_all writable_iflet cs) h)))

rule_fits : (r : RuleTree) → writable_rule r ≡ true → Fits (rule_nesting r + 1) (rule_sexpr r)
rule_fits r w =
    let pattern = pattern_of r.pattern in
    let expr = expr_of r.expr in
    let start = writable_rule_name r.name && writable_priority r.prio in
    let five = and_first (start && is_list pattern && writable_pattern pattern && list_all writable_iflet r.iflets
    && is_right_side expr) (writable_expr expr) w in
    let four = and_first (start && is_list pattern && writable_pattern pattern && list_all writable_iflet r.iflets) (is_right_side expr) five in
    let three = and_first (start && is_list pattern && writable_pattern pattern) (list_all writable_iflet r.iflets) four in
    let two = and_first (start && is_list pattern) (writable_pattern pattern) three in
    let one = and_first start (is_list pattern) two in
    let clauses = iflets_fit r.iflets (and_second (start && is_list pattern && writable_pattern pattern) (list_all writable_iflet r.iflets) four) in
    let right = expr_fits expr (and_second (start && is_list pattern && writable_pattern pattern && list_all writable_iflet r.iflets
    && is_right_side expr) (writable_expr expr) w) in
    let left = pattern_fits pattern (and_second (start && is_list pattern) (writable_pattern pattern) three) in
    let behind = map iflet_sexpr r.iflets ++ (expr_sexpr expr ∷ []) in
    list_fits (sexpr_atom (codes "rule") ∷ (rule_name r.name ++ (rule_priority r.prio ++ (pattern_sexpr pattern ∷ behind))))
    (fit_more (word_fits (codes "rule") refl)
    (fit_append (rule_name r.name) (rule_priority r.prio
    ++ (pattern_sexpr pattern ∷ behind)) (rule_name_fits r.name (and_first (writable_rule_name r.name) (writable_priority r.prio) one))
    (fit_append (rule_priority r.prio) (pattern_sexpr pattern ∷ behind)
    (priority_fits r.prio (and_second (writable_rule_name r.name) (writable_priority r.prio) one))
    (fit_more (fits_deeper (omega arith) left)
    (fit_append (map iflet_sexpr r.iflets) (expr_sexpr expr ∷ []) (fit_deeper (omega arith) clauses)
    (fit_more (fits_deeper (omega arith) right) fit_none))))))

-- ---- definitions

kept_fits : (k : KeptTree) → writable_kept k ≡ true → Fits (item_nestings k.items + 1) (kept_sexpr k)
kept_fits k h =
    list_fits (name_sexpr k.word ∷ item_sexprs k.items)
    (fit_more (word_fits k.word.0 (kept_word_is_symbol k.word.0 (and_first (is_kept_word k.word.0) (writable_items k.items) h)))
    (items_fit k.items (and_second (is_kept_word k.word.0) (writable_items k.items) h)))

pub def_fits : (d : Def) → has_writable_words d ≡ true → Fits (nesting d) (def_sexpr d)
def_fits (TypeDef t) h = type_fits t h
def_fits (Decl d) h = decl_fits d h
def_fits (Rule r) h = rule_fits r h
def_fits (Extractor x) h = extractor_fits x h
def_fits (Extern x) h = extern_fits x h
def_fits (Converter c) h = converter_fits c h
def_fits (Pragma p) h = absurd (cc)
def_fits (Kept k) h = kept_fits k h
