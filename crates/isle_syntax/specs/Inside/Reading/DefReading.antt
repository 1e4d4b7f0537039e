-- Reading definitions.
use Rattle.std.specs.Prelude.{ℕ, zero, suc, ℤ, List, [], ◌∷◌, length, Bool, true, false, Option, Some, None, codes}
use Rattle.std.specs.List.{list_any}
use Rattle.isle_syntax.specs.declared.kind.Keyword.{Keyword}
use Rattle.isle_syntax.specs.declared.kind.Keyword.TheVariants as keyword
use Rattle.isle_ast.specs.declared.pos.Pos.{Pos}
use Rattle.isle_ast.specs.declared.ast.Ident.{Ident}
use Rattle.isle_ast.specs.declared.ast.StructField.{StructField}
use Rattle.isle_ast.specs.declared.ast.Fields.{Fields}
use Rattle.isle_ast.specs.declared.ast.Fields.TheVariants.{Unit as no_fields, Struct as named_fields, Tuple as tuple_fields}
use Rattle.isle_ast.specs.declared.ast.Variant.{Variant}
use Rattle.isle_ast.specs.declared.ast.TypeValue.{TypeValue}
use Rattle.isle_ast.specs.declared.ast.TypeValue.TheVariants.{Primitive, Enum, Struct}
use Rattle.isle_ast.specs.declared.ast.«Type».{«Type» as TypeTree}
use Rattle.isle_ast.specs.declared.ast.Decl.{Decl as DeclTree}
use Rattle.isle_ast.specs.declared.ast.Pattern.{Pattern}
use Rattle.isle_ast.specs.declared.ast.Pattern.TheVariants as patterns
use Rattle.isle_ast.specs.declared.ast.Expr.{Expr}
use Rattle.isle_ast.specs.declared.ast.Expr.TheVariants as exprs
use Rattle.isle_ast.specs.declared.ast.IfLet.{IfLet}
use Rattle.isle_ast.specs.declared.ast.Rule.{Rule as RuleTree}
use Rattle.isle_ast.specs.declared.ast.Extractor.{Extractor as ExtractorTree}
use Rattle.isle_ast.specs.declared.ast.Extern.{Extern as ExternTree}
use Rattle.isle_ast.specs.declared.ast.Extern.TheVariants.{Constructor as extern_constructor, Extractor as extern_extractor, Const as extern_const}
use Rattle.isle_ast.specs.declared.ast.Converter.{Converter as ConverterTree}
use Rattle.isle_ast.specs.declared.ast.Kept.{Kept as KeptTree}
use Rattle.isle_ast.specs.declared.ast.Def.{Def}
use Rattle.isle_ast.specs.declared.ast.Def.TheVariants as defs
use Rattle.isle_ast.specs.Trees.PatternTree.{PatternTree, pattern_var, pattern_bind, pattern_bool, pattern_int, pattern_prim, pattern_term}
use Rattle.isle_ast.specs.Trees.PatternTree.{pattern_wildcard, pattern_and, pattern_macro_arg}
use Rattle.isle_ast.specs.Trees.ExprTree.{ExprTree, expr_term, expr_var, expr_bool, expr_int, expr_prim, expr_let}
use Rattle.isle_ast.specs.Trees.ItemTree.{ItemTree}
use Rattle.isle_syntax.specs.Tokens.PlacedTokens.{Placed, opening, closing, at_sign, symbol, int, Literal, small, large}
use Rattle.isle_syntax.specs.Tokens.Names.{is_ident, is_const, is_word}
use Rattle.isle_syntax.specs.Grammar.Phrases.{next_symbol_is}
use Rattle.isle_syntax.specs.Inside.Reading.KindOf.{keyword_at}
use Rattle.isle_syntax.specs.Grammar.TreeGrammar.{bits_of}
use Rattle.isle_syntax.specs.Grammar.DefGrammar.{Mark, extern_mark, nodebug_mark, is_extern_mark, is_nodebug_mark, numbered, fits_priority}
use Rattle.isle_syntax.specs.Grammar.DefGrammar.{is_kept_word}
use Rattle.isle_syntax.specs.Inside.Reading.Readers.{fault, Reader, read_map, seq, from, many, rest_of, parens, closed, integer, symbol_of, word, says}
use Rattle.isle_syntax.specs.Inside.Reading.Readers.{optional}
use Rattle.isle_syntax.specs.Inside.Reading.TreeReading.{ident, after_dollar, item_trees, item, pattern, pattern_list, expr, expr_inner, Inner, inner_expr}

-- ---- trees one level at a time

abbrev pub pattern_from : PatternTree → Pattern
pattern_from (pattern_var x p) = patterns.Var x p
pattern_from (pattern_bind x sub p) = patterns.BindPattern x sub p
pattern_from (pattern_bool b p) = patterns.ConstBool b p
pattern_from (pattern_int val big p) = patterns.ConstInt val big p
pattern_from (pattern_prim x p) = patterns.ConstPrim x p
pattern_from (pattern_term x args p) = patterns.Term x args p
pattern_from (pattern_wildcard p) = patterns.Wildcard p
pattern_from (pattern_and subs p) = patterns.And subs p
pattern_from (pattern_macro_arg i p) = patterns.MacroArg i p

abbrev pub expr_from : ExprTree → Expr
expr_from (expr_term x args p) = exprs.Term x args p
expr_from (expr_var x p) = exprs.Var x p
expr_from (expr_bool b p) = exprs.ConstBool b p
expr_from (expr_int val big p) = exprs.ConstInt val big p
expr_from (expr_prim x p) = exprs.ConstPrim x p
expr_from (expr_let bindings body p) = exprs.Let bindings body p

-- an identifier
abbrev pub identifier : Reader Ident
identifier = symbol_of is_ident

-- ---- types

abbrev pub field_of : Pos × (Ident × (Ident × Unit {0})) → StructField
field_of x = record { name = x.1.0; ty = x.1.1.0; pos = x.0 }

abbrev pub field : ℕ → Reader StructField
field d ts = read_map field_of (parens d (λ n. seq identifier (seq identifier closed)) ts)

abbrev pub fields_named : List StructField → Fields
fields_named [] = no_fields
fields_named (f ∷ fs) = named_fields (record { fields = f ∷ fs })

abbrev pub fields_numbered : List Ident → Fields
fields_numbered [] = no_fields
fields_numbered (x ∷ xs) = tuple_fields (record { fields = numbered 0 (x ∷ xs) })

-- whether a symbol comes next
abbrev pub is_symbol_next : List Placed → Bool
is_symbol_next ts = next_symbol_is (λ s. true) ts

-- fields up to a closing parenthesis: without names where a symbol comes first
abbrev pub fields_on : ℕ → Bool → Reader Fields
fields_on d true ts = read_map fields_numbered (rest_of identifier ts)
fields_on d false ts = read_map fields_named (rest_of (field d) ts)

abbrev pub fields : ℕ → Reader Fields
fields d ts = fields_on d (is_symbol_next ts) ts

abbrev pub bare_variant : Ident → Variant
bare_variant x = record { name = x; fields = no_fields; pos = x.1 }

abbrev pub variant_of : Pos × (Ident × Fields) → Variant
variant_of x = record { name = x.1.0; fields = x.1.1; pos = x.0 }

abbrev pub variant_on : ℕ → Bool → Reader Variant
variant_on d true ts = read_map bare_variant (identifier ts)
variant_on d false ts = read_map variant_of (parens d (λ n. seq identifier (fields n)) ts)

abbrev pub variant : ℕ → Reader Variant
variant d ts = variant_on d (is_symbol_next ts) ts

-- what stands in the parentheses of a type, where its place is known
pub data Value : Type 0 where
  primitive : Ident → Value
  variants : List Variant → Value
  struct_fields : Fields → Value

abbrev pub value_at : Pos → Value → TypeValue
value_at p (primitive x) = Primitive x p
value_at p (variants vs) = Enum vs p
value_at p (struct_fields fs) = Struct fs p

abbrev pub value_on : ℕ → Keyword → Reader Value
value_on d keyword.Primitive ts = read_map (λ x. primitive x.1.0) (seq (says (codes "primitive")) (seq identifier closed) ts)
value_on d keyword.Enum ts = read_map (λ x. variants x.1) (seq (says (codes "enum")) (rest_of (variant d)) ts)
value_on d keyword.Struct ts = read_map (λ x. struct_fields x.1) (seq (says (codes "struct")) (fields d) ts)
value_on d _ ts = fault ts

abbrev pub value : ℕ → Reader Value
value d ts = value_on d (keyword_at ts) ts

abbrev pub type_value : ℕ → Reader TypeValue
type_value d ts = read_map (λ x. value_at x.0 x.1) (parens d value ts)

-- a mark, and where none comes next
abbrev pub mark_on : Keyword → Reader Mark
mark_on keyword.Extern ts = read_map (λ x. extern_mark) (says (codes "extern") ts)
mark_on keyword.NoDebug ts = read_map (λ x. nodebug_mark) (says (codes "nodebug") ts)
mark_on _ ts = fault ts

abbrev pub mark : Reader Mark
mark ts = mark_on (keyword_at ts) ts

abbrev pub is_mark_word : Keyword → Bool
is_mark_word keyword.Extern = true
is_mark_word keyword.NoDebug = true
is_mark_word _ = false

abbrev pub is_mark_next : List Placed → Bool
is_mark_next ts = is_mark_word (keyword_at ts)

abbrev pub no_mark_on : Bool → List Placed → Option (List Placed)
no_mark_on true ts = None
no_mark_on false ts = Some ts

abbrev pub no_mark : List Placed → Option (List Placed)
no_mark ts = no_mark_on (is_mark_next ts) ts

abbrev pub marks : Reader (List Mark)
marks ts = many no_mark mark (suc (length ts)) ts

-- whether each mark is among some, and the value behind them
abbrev pub marked_of : List Mark × TypeValue → Bool × Bool × TypeValue
marked_of x = (list_any is_extern_mark x.0, list_any is_nodebug_mark x.0, x.1)

abbrev pub type_of : Ident × (List Mark × (TypeValue × Unit {0})) → TypeTree
type_of x = record {
  name = x.0;
  is_extern = list_any is_extern_mark x.1.0;
  is_nodebug = list_any is_nodebug_mark x.1.0;
  ty = x.1.1.0;
  pos = x.0.1;
}

abbrev pub type_def : ℕ → Reader TypeTree
type_def d ts = read_map type_of (seq identifier (seq marks (seq (type_value d) closed)) ts)

-- ---- terms

abbrev pub Signature : Type 0
Signature = Ident × ((Pos × List Ident) × (Ident × Unit {0}))

abbrev pub signature : ℕ → Reader Signature
signature d = seq identifier (seq (parens d (λ n. rest_of identifier)) (seq identifier closed))

-- a signature without the place of its parenthesis
abbrev pub signature_parts : Signature → Ident × List Ident × Ident
signature_parts s = (s.0, s.1.0.1, s.1.1.0)

abbrev pub decl_of : Pos × (Bool × (Bool × (Bool × (Bool × Signature)))) → DeclTree
decl_of x = record {
  term = x.1.1.1.1.1.0;
  arg_tys = x.1.1.1.1.1.1.0.1;
  ret_ty = x.1.1.1.1.1.1.1.0;
  pure = x.1.0;
  multi = x.1.1.0;
  partial = x.1.1.1.0;
  rec = x.1.1.1.1.0;
  pos = x.0;
}

abbrev pub decl : ℕ → Reader DeclTree
decl d ts =
    read_map decl_of
    (from (optional (codes "pure") (optional (codes "multi") (optional (codes "partial") (optional (codes "rec") (signature d))))) ts)

abbrev pub extractor_of : (Pos × (Ident × List Ident)) × (PatternTree × Unit {0}) → ExtractorTree
extractor_of x = record { term = x.0.1.0; args = x.0.1.1; template = pattern_from x.1.0; pos = x.0.0 }

abbrev pub extractor : ℕ → Reader ExtractorTree
extractor d ts = read_map extractor_of (seq (parens d (λ n. seq identifier (rest_of identifier))) (seq (pattern d) closed) ts)

-- a constant's name
abbrev pub constant : Reader Ident
constant ts = read_map (λ x. ident x.1 (after_dollar x.0)) (symbol_of is_const ts)

abbrev pub two_names : Reader (Ident × (Ident × Unit {0}))
two_names = seq identifier (seq identifier closed)

abbrev pub extern_on : Keyword → Reader ExternTree
extern_on keyword.Constructor ts = read_map (λ x. extern_constructor x.1.0 x.1.1.0 x.0) (seq (word (codes "constructor")) two_names ts)
extern_on keyword.Extractor ts =
    read_map (λ x. extern_extractor x.1.1.0 x.1.1.1.0 x.0 x.1.0) (seq (word (codes "extractor")) (optional (codes "infallible") two_names) ts)
extern_on keyword.Const ts = read_map (λ x. extern_const x.1.0 x.1.1.0 x.0) (seq (word (codes "const")) (seq constant (seq identifier closed)) ts)
extern_on _ ts = fault ts

abbrev pub extern_def : Reader ExternTree
extern_def ts = extern_on (keyword_at ts) ts

abbrev pub converter_of : Ident × (Ident × (Ident × Unit {0})) → ConverterTree
converter_of x = record { term = x.1.1.0; inner_ty = x.0; outer_ty = x.1.0; pos = x.0.1 }

abbrev pub converter : Reader ConverterTree
converter ts = read_map converter_of (seq identifier (seq identifier (seq identifier closed)) ts)

-- ---- rules

-- a name, where an identifier comes next, and what follows
abbrev pub name_on : {A : Type 0} → Reader A → Bool → Reader (Option Ident × A)
name_on q true ts = read_map (λ x. (Some x.0, x.1)) (seq identifier q ts)
name_on q false ts = read_map (λ b. (None, b)) (q ts)

abbrev pub with_name : {A : Type 0} → Reader A → Reader (Option Ident × A)
with_name q ts = name_on q (next_symbol_is is_ident ts) ts

-- a priority, where an integer comes next that fits one, and what follows
abbrev pub is_priority : Literal → Bool
is_priority (small z) = fits_priority z
is_priority (large n) = false

abbrev pub is_priority_next : List Placed → Bool
is_priority_next [] = false
is_priority_next (opening p ∷ ts) = false
is_priority_next (closing p ∷ ts) = false
is_priority_next (at_sign p ∷ ts) = false
is_priority_next (symbol p s ∷ ts) = false
is_priority_next (int p n ∷ ts) = is_priority n

abbrev pub priority_on : {A : Type 0} → Reader A → Bool → Reader (Option ℤ × A)
priority_on q true ts = read_map (λ x. (Some (bits_of x.0.1), x.1)) (seq integer q ts)
priority_on q false ts = read_map (λ b. (None, b)) (q ts)

abbrev pub with_priority : {A : Type 0} → Reader A → Reader (Option ℤ × A)
with_priority q ts = priority_on q (is_priority_next ts) ts

-- whether an opening parenthesis comes next
abbrev pub is_open_next : List Placed → Bool
is_open_next [] = false
is_open_next (opening p ∷ ts) = true
is_open_next (closing p ∷ ts) = false
is_open_next (at_sign p ∷ ts) = false
is_open_next (symbol p s ∷ ts) = false
is_open_next (int p n ∷ ts) = false

-- the clauses of a rule and its right side
abbrev pub Body : Type 0
Body = List IfLet × ExprTree

-- what stands behind an opening parenthesis after a rule's pattern, where its place is known: a clause and the rest, or the right side
pub data Step : Type 0 where
  if_let_step : PatternTree → ExprTree → Body → Step
  if_step : Pos → ExprTree → Body → Step
  last_step : Inner → Step

abbrev pub clause : PatternTree → ExprTree → Pos → IfLet
clause pattern e p = record { pattern = pattern_from pattern; expr = expr_from e; pos = p }

abbrev pub step_body : Pos → Step → Body
step_body p (if_let_step pattern e body) = (clause pattern e p ∷ body.0, body.1)
step_body p (if_step q e body) = (clause (pattern_wildcard q) e p ∷ body.0, body.1)
step_body p (last_step x) = ([], inner_expr p x)

-- a clause behind its opening parenthesis: `if-let` with a pattern, and `if` with its place
abbrev pub if_let_read : ℕ → Reader (Unit {0} × (PatternTree × (ExprTree × Unit {0})))
if_let_read d = seq (says (codes "if-let")) (seq (pattern d) (seq (expr d) closed))

abbrev pub if_read : ℕ → Reader (Pos × (ExprTree × Unit {0}))
if_read d = seq (word (codes "if")) (seq (expr d) closed)

abbrev pub step_on : ℕ → Reader Body → Bool → Bool → Reader Step
step_on d more true b ts =
    read_map (λ x. if_let_step x.0.1.0 x.0.1.1.0 x.1) (seq (if_let_read d) more ts)
step_on d more false true ts = read_map (λ x. if_step x.0.0 x.0.1.0 x.1) (seq (if_read d) more ts)
step_on d more false false ts = read_map (λ x. last_step x.0) (seq (expr_inner d) closed ts)

abbrev pub step : Reader Body → ℕ → Reader Step
step more d ts = step_on d more (next_symbol_is (is_word (codes "if-let")) ts) (next_symbol_is (is_word (codes "if")) ts) ts

abbrev pub body_on : ℕ → Reader Body → Bool → Reader Body
body_on d more true ts = read_map (λ x. step_body x.0 x.1) (parens d (step more) ts)
body_on d more false ts = read_map (λ x. ([], x.0)) (seq (expr d) closed ts)

-- the number bounds the clauses; one more than the tokens is always enough
unfoldable pub body : ℕ → ℕ → Reader Body
body d zero ts = fault ts
body d (suc n) ts = body_on d (body d n) (is_open_next ts) ts

abbrev pub rule_body : ℕ → Reader Body
rule_body d ts = body d (suc (length ts)) ts

abbrev pub rule_of : Pos × (Option Ident × (Option ℤ × (PatternTree × Body))) → RuleTree
rule_of x = record {
  pattern = pattern_from x.1.1.1.0;
  iflets = x.1.1.1.1.0;
  expr = expr_from x.1.1.1.1.1;
  pos = x.0;
  prio = x.1.1.0;
  name = x.1.0;
}

abbrev pub rule : ℕ → Reader RuleTree
rule d ts = read_map rule_of (from (with_name (with_priority (seq (pattern_list d) (rule_body d)))) ts)

-- ---- definitions

abbrev pub kept_of : Ident × (Pos × List ItemTree) → KeptTree
kept_of x = record { word = x.0; items = item_trees x.1.1; pos = x.1.0 }

abbrev pub kept : ℕ → Reader KeptTree
kept d ts = read_map kept_of (seq (symbol_of is_kept_word) (from (rest_of (item d))) ts)

abbrev pub def_on : ℕ → Keyword → Reader Def
def_on d keyword.Type ts = read_map (λ x. defs.TypeDef x.1) (seq (says (codes "type")) (type_def d) ts)
def_on d keyword.Decl ts = read_map (λ x. defs.Decl x.1) (seq (says (codes "decl")) (decl d) ts)
def_on d keyword.Rule ts = read_map (λ x. defs.Rule x.1) (seq (says (codes "rule")) (rule d) ts)
def_on d keyword.Extractor ts = read_map (λ x. defs.Extractor x.1) (seq (says (codes "extractor")) (extractor d) ts)
def_on d keyword.Extern ts = read_map (λ x. defs.Extern x.1) (seq (says (codes "extern")) extern_def ts)
def_on d keyword.Convert ts = read_map (λ x. defs.Converter x.1) (seq (says (codes "convert")) converter ts)
def_on d keyword.Kept ts = read_map defs.Kept (kept d ts)
def_on d _ ts = fault ts

abbrev pub def_inner : ℕ → Reader Def
def_inner d ts = def_on d (keyword_at ts) ts

-- a definition, where so many more parentheses may be open
abbrev pub def : ℕ → Reader Def
def d ts = read_map (λ x. x.1) (parens d def_inner ts)
