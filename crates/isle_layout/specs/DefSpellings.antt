-- The S-expressions of definitions.
use Rattle.std.specs.Prelude.{ℕ, ℤ, Bool, true, false, ◌||◌, List, [], ◌∷◌, ◌++◌, Option, Some, None, map, codes}
use Rattle.std.specs.List.{list_any}
use Rattle.std.specs.Fmt.{signed_decimal}
use Rattle.isle_ast.specs.declared.refusal.Refusal.{Refusal}
use Rattle.isle_ast.specs.declared.refusal.Refusal.TheVariants.{Fault, Memory}
use Rattle.isle_ast.specs.declared.ast.Ident.{Ident}
use Rattle.isle_ast.specs.declared.ast.StructField.{StructField}
use Rattle.isle_ast.specs.declared.ast.TupleField.{TupleField}
use Rattle.isle_ast.specs.declared.ast.StructFields.{StructFields}
use Rattle.isle_ast.specs.declared.ast.TupleFields.{TupleFields}
use Rattle.isle_ast.specs.declared.ast.Fields.{Fields}
use Rattle.isle_ast.specs.declared.ast.Fields.TheVariants.{Unit as no_fields, Struct as named_fields, Tuple as tuple_fields}
use Rattle.isle_ast.specs.declared.ast.Variant.{Variant}
use Rattle.isle_ast.specs.declared.ast.TypeValue.{TypeValue}
use Rattle.isle_ast.specs.declared.ast.TypeValue.TheVariants.{Primitive, Enum, Struct}
use Rattle.isle_ast.specs.declared.ast.«Type».{«Type» as TypeTree}
use Rattle.isle_ast.specs.declared.ast.Decl.{Decl as DeclTree}
use Rattle.isle_ast.specs.declared.ast.IfLet.{IfLet}
use Rattle.isle_ast.specs.declared.ast.Rule.{Rule as RuleTree}
use Rattle.isle_ast.specs.declared.ast.Extractor.{Extractor as ExtractorTree}
use Rattle.isle_ast.specs.declared.ast.Extern.{Extern as ExternTree}
use Rattle.isle_ast.specs.declared.ast.Extern.TheVariants.{Constructor as extern_constructor, Extractor as extern_extractor, Const as extern_const}
use Rattle.isle_ast.specs.declared.ast.Converter.{Converter as ConverterTree}
use Rattle.isle_ast.specs.declared.ast.Kept.{Kept as KeptTree}
use Rattle.isle_ast.specs.declared.ast.Pragma.{Pragma as PragmaTree}
use Rattle.isle_ast.specs.declared.ast.Def.{Def}
use Rattle.isle_ast.specs.declared.ast.Def.TheVariants.{TypeDef, Decl, Rule, Extractor, Extern, Converter, Pragma, Kept}
use Rattle.isle_ast.specs.Trees.PatternShape.{pattern_of}
use Rattle.isle_ast.specs.Trees.ExprShape.{expr_of}
use Rattle.isle_ast.specs.Trees.TreeCalls.{has_macro_arg}
use Rattle.isle_layout.specs.SExprTree.{SExprTree, sexpr_atom}
use Rattle.isle_layout.specs.Spellings.{listed, name_sexpr, constant_sexpr, pattern_sexpr, expr_sexpr, item_sexprs}

-- a word, where it is set
abbrev pub flag : List ℕ → Bool → List SExprTree
flag word true = sexpr_atom word ∷ []
flag word false = []

-- ---- types

-- a field with a name
abbrev pub struct_field_sexpr : StructField → SExprTree
struct_field_sexpr f = listed (name_sexpr f.name ∷ name_sexpr f.ty ∷ [])

-- a field without a name
abbrev pub tuple_field_sexpr : TupleField → SExprTree
tuple_field_sexpr f = name_sexpr f.ty

-- the fields of a variant or struct
abbrev pub fields_sexprs : Fields → List SExprTree
fields_sexprs no_fields = []
fields_sexprs (named_fields fs) = map struct_field_sexpr fs.fields
fields_sexprs (tuple_fields fs) = map tuple_field_sexpr fs.fields

-- the same by themselves: the list of the fields
abbrev pub fields_sexpr : Fields → SExprTree
fields_sexpr fields = listed (fields_sexprs fields)

-- fields with names by themselves
abbrev pub struct_fields_sexpr : StructFields → SExprTree
struct_fields_sexpr fs = listed (map struct_field_sexpr fs.fields)

-- fields without names by themselves
abbrev pub tuple_fields_sexpr : TupleFields → SExprTree
tuple_fields_sexpr fs = listed (map tuple_field_sexpr fs.fields)

-- a variant's name, in parentheses with its fields where it has any
abbrev pub variant_of : Ident → Fields → SExprTree
variant_of name no_fields = name_sexpr name
variant_of name (named_fields fs) = listed (name_sexpr name ∷ map struct_field_sexpr fs.fields)
variant_of name (tuple_fields fs) = listed (name_sexpr name ∷ map tuple_field_sexpr fs.fields)

-- a variant
abbrev pub variant_sexpr : Variant → SExprTree
variant_sexpr v = variant_of v.name v.fields

-- what a type is made of
abbrev pub type_value_sexpr : TypeValue → SExprTree
type_value_sexpr (Primitive x _) = listed (sexpr_atom (codes "primitive") ∷ name_sexpr x ∷ [])
type_value_sexpr (Enum variants _) = listed (sexpr_atom (codes "enum") ∷ map variant_sexpr variants)
type_value_sexpr (Struct fields _) = listed (sexpr_atom (codes "struct") ∷ fields_sexprs fields)

-- a type's definition
abbrev pub type_sexpr : TypeTree → SExprTree
type_sexpr t =
    listed (sexpr_atom (codes "type") ∷ name_sexpr t.name
    ∷ (flag (codes "extern") t.is_extern ++ (flag (codes "nodebug") t.is_nodebug ++ (type_value_sexpr t.ty ∷ []))))

-- ---- terms

-- a declaration's flags
abbrev pub decl_flags : DeclTree → List SExprTree
decl_flags d =
    flag (codes "pure") d.pure ++ (flag (codes "multi") d.multi ++ (flag (codes "partial") d.partial ++ flag (codes "rec") d.rec))

-- a term's declaration
abbrev pub decl_sexpr : DeclTree → SExprTree
decl_sexpr d =
    listed (sexpr_atom (codes "decl") ∷ (decl_flags d ++ (name_sexpr d.term ∷ listed (map name_sexpr d.arg_tys) ∷ name_sexpr d.ret_ty ∷ [])))

-- an internal extractor
abbrev pub extractor_sexpr : ExtractorTree → SExprTree
extractor_sexpr x =
    listed (sexpr_atom (codes "extractor") ∷ listed (name_sexpr x.term ∷ map name_sexpr x.args) ∷ pattern_sexpr (pattern_of x.template) ∷ [])

-- what the host provides
abbrev pub extern_sexpr : ExternTree → SExprTree
extern_sexpr (extern_constructor term func _) =
    listed (sexpr_atom (codes "extern") ∷ sexpr_atom (codes "constructor") ∷ name_sexpr term ∷ name_sexpr func ∷ [])
extern_sexpr (extern_extractor term func _ infallible) =
    listed (sexpr_atom (codes "extern") ∷ sexpr_atom (codes "extractor")
    ∷ (flag (codes "infallible") infallible ++ (name_sexpr term ∷ name_sexpr func ∷ [])))
extern_sexpr (extern_const name ty _) =
    listed (sexpr_atom (codes "extern") ∷ sexpr_atom (codes "const") ∷ constant_sexpr name ∷ name_sexpr ty ∷ [])

-- a converter
abbrev pub converter_sexpr : ConverterTree → SExprTree
converter_sexpr c =
    listed (sexpr_atom (codes "convert") ∷ name_sexpr c.inner_ty ∷ name_sexpr c.outer_ty ∷ name_sexpr c.term ∷ [])

-- ---- rules

-- a rule's name, if it has one
abbrev pub rule_name : Option Ident → List SExprTree
rule_name None = []
rule_name (Some name) = name_sexpr name ∷ []

-- a rule's priority, if it has one
abbrev pub rule_priority : Option ℤ → List SExprTree
rule_priority None = []
rule_priority (Some priority) = sexpr_atom (signed_decimal priority) ∷ []

-- a condition of a rule
abbrev pub iflet_sexpr : IfLet → SExprTree
iflet_sexpr c =
    listed (sexpr_atom (codes "if-let") ∷ pattern_sexpr (pattern_of c.pattern) ∷ expr_sexpr (expr_of c.expr) ∷ [])

-- a rule
abbrev pub rule_sexpr : RuleTree → SExprTree
rule_sexpr r =
    listed (sexpr_atom (codes "rule")
    ∷ (rule_name r.name ++ (rule_priority r.prio
    ++ (pattern_sexpr (pattern_of r.pattern) ∷ (map iflet_sexpr r.iflets ++ (expr_sexpr (expr_of r.expr) ∷ []))))))

-- ---- definitions

-- a kept definition
abbrev pub kept_sexpr : KeptTree → SExprTree
kept_sexpr k = listed (name_sexpr k.word ∷ item_sexprs k.items)

-- a pragma, of which there is none
abbrev pub pragma_sexpr : PragmaTree → SExprTree
pragma_sexpr _ = listed (sexpr_atom (codes "pragma") ∷ [])

-- a definition
abbrev pub def_sexpr : Def → SExprTree
def_sexpr (TypeDef t) = type_sexpr t
def_sexpr (Decl d) = decl_sexpr d
def_sexpr (Rule r) = rule_sexpr r
def_sexpr (Extractor x) = extractor_sexpr x
def_sexpr (Extern x) = extern_sexpr x
def_sexpr (Converter c) = converter_sexpr c
def_sexpr (Pragma p) = pragma_sexpr p
def_sexpr (Kept k) = kept_sexpr k

-- ---- numbered arguments of templates

-- whether one occurs in a condition's pattern
abbrev pub iflet_has_macro_arg : IfLet → Bool
iflet_has_macro_arg c = has_macro_arg (pattern_of c.pattern)

-- whether one occurs in a rule's patterns
abbrev pub rule_has_macro_arg : RuleTree → Bool
rule_has_macro_arg r = has_macro_arg (pattern_of r.pattern) || list_any iflet_has_macro_arg r.iflets

-- whether one occurs in an extractor's template
abbrev pub extractor_has_macro_arg : ExtractorTree → Bool
extractor_has_macro_arg x = has_macro_arg (pattern_of x.template)

-- whether one occurs in a definition's patterns
abbrev pub def_has_macro_arg : Def → Bool
def_has_macro_arg (Rule r) = rule_has_macro_arg r
def_has_macro_arg (Extractor x) = extractor_has_macro_arg x
def_has_macro_arg _ = false

-- a claim of what a fault tells; memory may always be refused
abbrev pub OnFault : {E : Type 0} → Refusal E → Type 0 → Type 0
OnFault (Fault _) claim = claim
OnFault (Memory _) claim = Unit {0}
