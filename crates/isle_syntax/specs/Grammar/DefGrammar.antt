-- The grammar of definitions: which tokens spell one.
use Rattle.std.specs.Prelude.{◌≡◌, ℕ, ℤ, pos, negsuc, int_le, int_lt, suc, ◌-◌, ◌^◌, ◌&&◌, List, [], ◌∷◌, Bool, true, false, ◌||◌, Option, Some, None}
use Rattle.std.specs.Prelude.{codes}
use Rattle.std.specs.List.{list_any}
use Rattle.isle_ast.specs.declared.pos.Pos.{Pos}
use Rattle.isle_ast.specs.declared.ast.Ident.{Ident}
use Rattle.isle_ast.specs.declared.ast.StructField.{StructField}
use Rattle.isle_ast.specs.declared.ast.TupleField.{TupleField}
use Rattle.isle_ast.specs.declared.ast.Fields.{Fields}
use Rattle.isle_ast.specs.declared.ast.Fields.TheVariants.{Unit as no_fields, Struct as named_fields, Tuple as tuple_fields}
use Rattle.isle_ast.specs.declared.ast.Variant.{Variant}
use Rattle.isle_ast.specs.declared.ast.TypeValue.{TypeValue}
use Rattle.isle_ast.specs.declared.ast.TypeValue.TheVariants.{Primitive, Enum, Struct}
use Rattle.isle_ast.specs.declared.ast.«Type».{«Type» as TypeTree}
use Rattle.isle_ast.specs.declared.ast.Decl.{Decl as DeclTree}
use Rattle.isle_ast.specs.declared.ast.IfLet.{IfLet}
use Rattle.isle_ast.specs.declared.ast.Rule.{Rule as RuleTree}
use Rattle.isle_ast.specs.declared.ast.Extractor.{Extractor as ExtractorTree}
use Rattle.isle_ast.specs.declared.ast.Extern.{Extern as ExternTree}
use Rattle.isle_ast.specs.declared.ast.Extern.TheVariants.{Constructor as extern_constructor, Extractor as extern_extractor, Const as extern_const}
use Rattle.isle_ast.specs.declared.ast.Converter.{Converter as ConverterTree}
use Rattle.isle_ast.specs.declared.ast.Kept.{Kept as KeptTree}
use Rattle.isle_ast.specs.declared.ast.Def.{Def}
use Rattle.isle_ast.specs.declared.ast.Def.TheVariants.{TypeDef, Decl, Rule, Extractor, Extern, Converter, Pragma, Kept}
use Rattle.isle_ast.specs.Trees.PatternTree.{pattern_wildcard}
use Rattle.isle_ast.specs.Trees.PatternShape.{pattern_of}
use Rattle.isle_ast.specs.Trees.ExprTree.{ExprTree, expr_term}
use Rattle.isle_ast.specs.Trees.ExprShape.{expr_of}
use Rattle.isle_syntax.specs.Tokens.PlacedTokens.{small, Placed, int}
use Rattle.isle_syntax.specs.Tokens.Names.{is_ident, is_word}
use Rattle.isle_syntax.specs.Grammar.Phrases.{◌⊙◌, Opens, Closes, Opening, Word, Says, SymbolOf, Flag, Each, Closed, first_pos}
use Rattle.isle_syntax.specs.Grammar.TreeGrammar.{Constant, IsList, SpellsPattern, SpellsExpr, SpellsItems}

-- an identifier
abbrev pub SpellsIdent : Ident → List Placed → Type 0
SpellsIdent = SymbolOf is_ident

-- ---- types

-- a field with a name
abbrev pub SpellsField : StructField → List Placed → Type 0
SpellsField f = Opens f.pos ⊙ (SpellsIdent f.name ⊙ (SpellsIdent f.ty ⊙ Closes tt))

-- fields without a name, counted from a number
abbrev pub numbered : ℕ → List Ident → List TupleField
numbered n [] = []
numbered n (x ∷ xs) = record { index = n; ty = x; pos = x.1 } ∷ numbered (suc n) xs

-- some of a list
abbrev pub IsFilled : {A : Type 0} → List A → Type 0
IsFilled [] = ⊥
IsFilled (a ∷ rest) = Unit {0}

-- fields up to a closing parenthesis; no fields are always `Unit`
abbrev pub SpellsFields : Fields → List Placed → Type 0
SpellsFields no_fields = Closes tt
SpellsFields (named_fields fs) = λ ts. Closed SpellsField fs.fields ts × IsFilled fs.fields
SpellsFields (tuple_fields fs) = λ ts. (tys : List Ident) × Closed SpellsIdent tys ts × (fs.fields ≡ numbered 0 tys) × IsFilled tys

-- a variant: its name alone, where it has no fields, or in parentheses with its fields
pub data SpellsVariant (v : Variant) (ts : List Placed) : Type 0 where
  bare : SpellsIdent v.name ts → v.pos ≡ v.name.1 → v.fields ≡ no_fields → SpellsVariant v ts
  in_list : (Opens v.pos ⊙ (SpellsIdent v.name ⊙ SpellsFields v.fields)) ts → SpellsVariant v ts

abbrev pub SpellsTypeValue : TypeValue → List Placed → Type 0
SpellsTypeValue (Primitive x p) = Opens p ⊙ (Says (codes "primitive") tt ⊙ (SpellsIdent x ⊙ Closes tt))
SpellsTypeValue (Enum variants p) = Opens p ⊙ (Says (codes "enum") tt ⊙ Closed SpellsVariant variants)
SpellsTypeValue (Struct fields p) = Opens p ⊙ (Says (codes "struct") tt ⊙ SpellsFields fields)

-- a mark of a type
pub data Mark : Type 0 where
  extern_mark : Mark
  nodebug_mark : Mark

abbrev pub SpellsMark : Mark → List Placed → Type 0
SpellsMark extern_mark = Says (codes "extern") tt
SpellsMark nodebug_mark = Says (codes "nodebug") tt

abbrev pub is_extern_mark : Mark → Bool
is_extern_mark extern_mark = true
is_extern_mark nodebug_mark = false

abbrev pub is_nodebug_mark : Mark → Bool
is_nodebug_mark extern_mark = false
is_nodebug_mark nodebug_mark = true

-- marks, of which a repeated one means the same as one
abbrev pub SpellsMarks : Bool → Bool → List Placed → Type 0
SpellsMarks is_extern is_nodebug ts =
    (marks : List Mark) × Each SpellsMark marks ts × (is_extern ≡ list_any is_extern_mark marks) × (is_nodebug ≡ list_any is_nodebug_mark marks)

-- what follows the word `type`, and so on for each kind of definition
abbrev pub SpellsType : TypeTree → List Placed → Type 0
SpellsType t = λ ts. (SpellsIdent t.name ⊙ (SpellsMarks t.is_extern t.is_nodebug ⊙ (SpellsTypeValue t.ty ⊙ Closes tt))) ts × (t.pos ≡ t.name.1)

-- ---- terms

abbrev pub SpellsSignature : DeclTree → List Placed → Type 0
SpellsSignature d = SpellsIdent d.term ⊙ (Opening tt ⊙ (Closed SpellsIdent d.arg_tys ⊙ (SpellsIdent d.ret_ty ⊙ Closes tt)))

abbrev pub SpellsDecl : DeclTree → List Placed → Type 0
SpellsDecl d = λ ts.
    Flag (codes "pure") d.pure (Flag (codes "multi") d.multi (Flag (codes "partial") d.partial (Flag (codes "rec") d.rec (SpellsSignature d)))) ts
    × (first_pos ts ≡ d.pos)

abbrev pub SpellsExtractor : ExtractorTree → List Placed → Type 0
SpellsExtractor x =
    Opens x.pos ⊙ ((SpellsIdent x.term ⊙ Closed SpellsIdent x.args) ⊙ (SpellsPattern (pattern_of x.template) ⊙ Closes tt))

abbrev pub SpellsExtern : ExternTree → List Placed → Type 0
SpellsExtern (extern_constructor term func p) = Word (codes "constructor") p ⊙ (SpellsIdent term ⊙ (SpellsIdent func ⊙ Closes tt))
SpellsExtern (extern_extractor term func p infallible) =
    Word (codes "extractor") p ⊙ Flag (codes "infallible") infallible (SpellsIdent term ⊙ (SpellsIdent func ⊙ Closes tt))
SpellsExtern (extern_const name ty p) = Word (codes "const") p ⊙ (Constant name ⊙ (SpellsIdent ty ⊙ Closes tt))

abbrev pub SpellsConverter : ConverterTree → List Placed → Type 0
SpellsConverter c = λ ts. (SpellsIdent c.inner_ty ⊙ (SpellsIdent c.outer_ty ⊙ (SpellsIdent c.term ⊙ Closes tt))) ts × (c.pos ≡ c.inner_ty.1)

-- ---- rules

abbrev pub SpellsName : Option Ident → List Placed → Type 0
SpellsName None ts = ts ≡ []
SpellsName (Some x) ts = SpellsIdent x ts

-- a priority fits i64
abbrev pub fits_priority : ℤ → Bool
fits_priority z = int_le (negsuc (2 ^ 63 - 1)) z && int_lt z (pos (2 ^ 63))

abbrev pub SpellsPriority : Option ℤ → List Placed → Type 0
SpellsPriority None ts = ts ≡ []
SpellsPriority (Some z) ts = (p : Pos) × (ts ≡ int p (small z) ∷ []) × (fits_priority z ≡ true)

-- `(if-let pattern expr)`, or `(if expr)`, which is the same with `_` at the word
pub data SpellsIfLet (c : IfLet) (ts : List Placed) : Type 0 where
  if_let : (Opens c.pos ⊙ (Says (codes "if-let") tt ⊙ (SpellsPattern (pattern_of c.pattern) ⊙ (SpellsExpr (expr_of c.expr) ⊙ Closes tt)))) ts
      → SpellsIfLet c ts
  if_holds : (p : Pos) → (Opens c.pos ⊙ (Word (codes "if") p ⊙ (SpellsExpr (expr_of c.expr) ⊙ Closes tt))) ts
      → pattern_of c.pattern ≡ pattern_wildcard p → SpellsIfLet c ts

-- after a rule's pattern `(if` and `(if-let` are always clauses
abbrev pub is_clause_word : List ℕ → Bool
is_clause_word s = is_word (codes "if-let") s || is_word (codes "if") s

abbrev pub IsRightSide : ExprTree → Type 0
IsRightSide (expr_term x args p) = is_clause_word x.0 ≡ false
IsRightSide _ = Unit {0}

abbrev pub SpellsRightSide : ExprTree → List Placed → Type 0
SpellsRightSide e ts = SpellsExpr e ts × IsRightSide e

abbrev pub SpellsRule : RuleTree → List Placed → Type 0
SpellsRule r = λ ts.
    (SpellsName r.name
    ⊙ (SpellsPriority r.prio
    ⊙ (SpellsPattern (pattern_of r.pattern)
    ⊙ (Each SpellsIfLet r.iflets ⊙ (SpellsRightSide (expr_of r.expr) ⊙ Closes tt))))) ts
    × IsList (pattern_of r.pattern) × (first_pos ts ≡ r.pos)

-- ---- definitions

-- a word of a definition that is kept as it is written
abbrev pub is_kept_word : List ℕ → Bool
is_kept_word s =
    is_word (codes "attr") s || is_word (codes "spec") s || is_word (codes "macro") s || is_word (codes "model") s || is_word (codes "state") s
    || is_word (codes "form") s || is_word (codes "instantiate") s

abbrev pub SpellsKept : KeptTree → List Placed → Type 0
SpellsKept k = SymbolOf is_kept_word k.word ⊙ (λ ts. (SpellsItems k.items ⊙ Closes tt) ts × (first_pos ts ≡ k.pos))

abbrev pub SpellsDef : Def → List Placed → Type 0
SpellsDef (TypeDef t) = Opening tt ⊙ (Says (codes "type") tt ⊙ SpellsType t)
SpellsDef (Decl d) = Opening tt ⊙ (Says (codes "decl") tt ⊙ SpellsDecl d)
SpellsDef (Rule r) = Opening tt ⊙ (Says (codes "rule") tt ⊙ SpellsRule r)
SpellsDef (Extractor x) = Opening tt ⊙ (Says (codes "extractor") tt ⊙ SpellsExtractor x)
SpellsDef (Extern x) = Opening tt ⊙ (Says (codes "extern") tt ⊙ SpellsExtern x)
SpellsDef (Converter c) = Opening tt ⊙ (Says (codes "convert") tt ⊙ SpellsConverter c)
SpellsDef (Pragma p) = λ ts. ⊥
SpellsDef (Kept k) = Opening tt ⊙ SpellsKept k

-- a text is definitions, one after another
abbrev pub SpellsText : List Def → List Placed → Type 0
SpellsText = Each SpellsDef
