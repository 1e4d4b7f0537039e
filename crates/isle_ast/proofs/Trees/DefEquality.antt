-- The `==` of a definition, and of each of its parts, holds exactly where the two are the same value.
use Rattle.std.proofs.Common.{◌≡◌, ◌&&◌, Bool, true, false, refl, ap}
use Rattle.std.specs.Prelude.{Option}
use Rattle.std.specs.declared.option.Option.TheVariants.{None, Some}
use Rattle.std.specs.Option.{option_eq}
use Rattle.std.specs.Bool.{Decides}
use Rattle.std.specs.Cmp.{signed_Decides, booleans_Decides}
use Rattle.std.specs.Cmp.Lexicographic.{pointwise_decides}
use Rattle.std.proofs.lemmas.Bool.Decides.{Decides-eqb}
use Rattle.std.proofs.lemmas.Slice.Eq.{bytes_eq-Decides}
use Rattle.isle_ast.specs.declared.pos.Pos.{Pos}
use Rattle.isle_ast.specs.declared.ast.Ident.{Ident}
use Rattle.isle_ast.specs.declared.ast.«Type».{«Type» as TypeTree}
use Rattle.isle_ast.specs.declared.ast.TypeValue.{TypeValue}
use Rattle.isle_ast.specs.declared.ast.TypeValue.TheVariants.{Primitive, Enum, Struct}
use Rattle.isle_ast.specs.declared.ast.Variant.{Variant}
use Rattle.isle_ast.specs.declared.ast.Fields.{Fields}
use Rattle.isle_ast.specs.declared.ast.Fields.TheVariants.{Unit as no_fields, Struct as named_fields, Tuple as tuple_fields}
use Rattle.isle_ast.specs.declared.ast.StructFields.{StructFields}
use Rattle.isle_ast.specs.declared.ast.StructField.{StructField}
use Rattle.isle_ast.specs.declared.ast.TupleFields.{TupleFields}
use Rattle.isle_ast.specs.declared.ast.TupleField.{TupleField}
use Rattle.isle_ast.specs.declared.ast.Decl.{Decl}
use Rattle.isle_ast.specs.declared.ast.Rule.{Rule}
use Rattle.isle_ast.specs.declared.ast.IfLet.{IfLet}
use Rattle.isle_ast.specs.declared.ast.Extractor.{Extractor}
use Rattle.isle_ast.specs.declared.ast.Extern.{Extern}
use Rattle.isle_ast.specs.declared.ast.Extern.TheVariants.{Constructor as extern_constructor, Extractor as extern_extractor, Const as extern_const}
use Rattle.isle_ast.specs.declared.ast.Converter.{Converter}
use Rattle.isle_ast.specs.declared.ast.Pragma.{Pragma}
use Rattle.isle_ast.specs.declared.ast.Kept.{Kept}
use Rattle.isle_ast.specs.declared.ast.Def.{Def}
use Rattle.isle_ast.specs.declared.ast.Def.TheVariants as defs
use Rattle.isle_ast.specs.Trees.DefEquality.{same_def}
use Rattle.isle_ast.specs.Trees.ItemCode.{item_trees_code}
use Rattle.isle_ast.specs.Trees.Equality.{same_coded-decides}
use Rattle.isle_ast.specs.contracts.pos.PosPartialEq.TheImpl as pos
use Rattle.isle_ast.specs.contracts.ast.IdentPartialEq.TheImpl as ident
use Rattle.isle_ast.specs.contracts.ast.TypePartialEq.TheImpl as type_tree
use Rattle.isle_ast.specs.contracts.ast.TypeValuePartialEq.TheImpl as type_value
use Rattle.isle_ast.specs.contracts.ast.VariantPartialEq.TheImpl as variant
use Rattle.isle_ast.specs.contracts.ast.FieldsPartialEq.TheImpl as fields
use Rattle.isle_ast.specs.contracts.ast.StructFieldsPartialEq.TheImpl as struct_fields
use Rattle.isle_ast.specs.contracts.ast.StructFieldPartialEq.TheImpl as struct_field
use Rattle.isle_ast.specs.contracts.ast.TupleFieldsPartialEq.TheImpl as tuple_fields_of
use Rattle.isle_ast.specs.contracts.ast.TupleFieldPartialEq.TheImpl as tuple_field
use Rattle.isle_ast.specs.contracts.ast.DeclPartialEq.TheImpl as decl
use Rattle.isle_ast.specs.contracts.ast.RulePartialEq.TheImpl as rule
use Rattle.isle_ast.specs.contracts.ast.IfLetPartialEq.TheImpl as if_let
use Rattle.isle_ast.specs.contracts.ast.ExtractorPartialEq.TheImpl as extractor
use Rattle.isle_ast.specs.contracts.ast.ExternPartialEq.TheImpl as extern_of
use Rattle.isle_ast.specs.contracts.ast.ConverterPartialEq.TheImpl as converter
use Rattle.isle_ast.specs.contracts.ast.PragmaPartialEq.TheImpl as pragma_of
use Rattle.isle_ast.specs.contracts.ast.KeptPartialEq.TheImpl as kept
use Rattle.isle_ast.proofs.Trees.Equality.{same_pattern-decides, same_expr-decides}

-- two answers that decide two facts decide both
both : {P Q : Type 0} (s t : Bool) → Decides s P → Decides t Q → Decides (s && t) (P × Q)
both true true p q = (λ e. (p.0 refl, q.0 refl), λ h. refl)
both true false p q = (λ e. cc, λ h. q.1 h.1)
both false t p q = (λ e. cc, λ h. p.1 h.0)

-- an answer decides whatever its fact comes to
through : {P Q : Type 0} {s : Bool} → Decides s P → (P → Q) → (Q → P) → Decides s Q
through d f g = (λ e. f (d.0 e), λ q. d.1 (g q))

options : {A : Type 0} {E : A → A → Bool} → ((x y : A) → Decides (E x y) (x ≡ y))
    → (o p : Option A) → Decides (option_eq E o p) (o ≡ p)
options d None None = (λ e. refl, λ e. refl)
options d None (Some y) = (λ e. cc, λ e. cc)
options d (Some x) None = (λ e. cc, λ e. cc)
options d (Some x) (Some y) = through (d x y) (λ e. ap Some e) (λ e. cc)

pub pos-decides : (a b : Pos) → Decides ((pos.ghosts).eq a b) (a ≡ b)
pos-decides a b =
    through (both _ _ (Decides-eqb a.file b.file) (Decides-eqb a.offset b.offset))
    (λ h i. record { file = h.0 i; offset = h.1 i })
    (λ e. (ap (λ p. p.file) e, ap (λ p. p.offset) e))

pub ident-decides : (a b : Ident) → Decides ((ident.ghosts).eq a b) (a ≡ b)
ident-decides a b =
    through (both _ _ (bytes_eq-Decides a.0 b.0) (pos-decides a.1 b.1))
    (λ h i. record { 0 = h.0 i; 1 = h.1 i })
    (λ e. (ap (λ n. n.0) e, ap (λ n. n.1) e))

pub struct_field-decides : (a b : StructField) → Decides ((struct_field.ghosts).eq a b) (a ≡ b)
struct_field-decides a b =
    through (both _ _ (ident-decides a.name b.name) (both _ _ (ident-decides a.ty b.ty) (pos-decides a.pos b.pos)))
    (λ h i. record { name = h.0 i; ty = h.1.0 i; pos = h.1.1 i })
    (λ e. (ap (λ v. v.name) e, (ap (λ v. v.ty) e, ap (λ v. v.pos) e)))

pub struct_fields-decides : (a b : StructFields) → Decides ((struct_fields.ghosts).eq a b) (a ≡ b)
struct_fields-decides a b =
    through (pointwise_decides struct_field-decides a.fields b.fields) (λ h i. record { fields = h i })
    (λ e. ap (λ v. v.fields) e)

pub tuple_field-decides : (a b : TupleField) → Decides ((tuple_field.ghosts).eq a b) (a ≡ b)
tuple_field-decides a b =
    through (both _ _ (Decides-eqb a.index b.index) (both _ _ (ident-decides a.ty b.ty) (pos-decides a.pos b.pos)))
    (λ h i. record { index = h.0 i; ty = h.1.0 i; pos = h.1.1 i })
    (λ e. (ap (λ v. v.index) e, (ap (λ v. v.ty) e, ap (λ v. v.pos) e)))

pub tuple_fields-decides : (a b : TupleFields) → Decides ((tuple_fields_of.ghosts).eq a b) (a ≡ b)
tuple_fields-decides a b =
    through (pointwise_decides tuple_field-decides a.fields b.fields) (λ h i. record { fields = h i })
    (λ e. ap (λ v. v.fields) e)

pub fields-decides : (a b : Fields) → Decides ((fields.ghosts).eq a b) (a ≡ b)
fields-decides no_fields no_fields = (λ e. refl, λ e. refl)
fields-decides (named_fields s) (named_fields t) = through (struct_fields-decides s t) (λ h. ap named_fields h) (λ e. cc)
fields-decides (tuple_fields s) (tuple_fields t) = through (tuple_fields-decides s t) (λ h. ap tuple_fields h) (λ e. cc)
fields-decides a b = (λ e. cc, λ e. cc)

pub variant-decides : (a b : Variant) → Decides ((variant.ghosts).eq a b) (a ≡ b)
variant-decides a b =
    through (both _ _ (ident-decides a.name b.name) (both _ _ (fields-decides a.fields b.fields) (pos-decides a.pos b.pos)))
    (λ h i. record { name = h.0 i; fields = h.1.0 i; pos = h.1.1 i })
    (λ e. (ap (λ v. v.name) e, (ap (λ v. v.fields) e, ap (λ v. v.pos) e)))

pub type_value-decides : (a b : TypeValue) → Decides ((type_value.ghosts).eq a b) (a ≡ b)
type_value-decides (Primitive a p) (Primitive b q) =
    through (both _ _ (ident-decides a b) (pos-decides p q)) (λ h i. Primitive (h.0 i) (h.1 i)) (λ e. (cc, cc))
type_value-decides (Enum a p) (Enum b q) =
    through (both _ _ (pointwise_decides variant-decides a b) (pos-decides p q)) (λ h i. Enum (h.0 i) (h.1 i)) (λ e. (cc, cc))
type_value-decides (Struct a p) (Struct b q) =
    through (both _ _ (fields-decides a b) (pos-decides p q)) (λ h i. Struct (h.0 i) (h.1 i)) (λ e. (cc, cc))
type_value-decides a b = (λ e. cc, λ e. cc)

pub type-decides : (a b : TypeTree) → Decides ((type_tree.ghosts).eq a b) (a ≡ b)
type-decides a b =
    through (both _ _ (ident-decides a.name b.name)
    (both _ _ (booleans_Decides a.is_extern b.is_extern)
    (both _ _ (booleans_Decides a.is_nodebug b.is_nodebug)
    (both _ _ (type_value-decides a.ty b.ty) (pos-decides a.pos b.pos)))))
    (λ h i. record { name = h.0 i; is_extern = h.1.0 i; is_nodebug = h.1.1.0 i; ty = h.1.1.1.0 i; pos = h.1.1.1.1 i })
    (λ e. (ap (λ v. v.name) e, (ap (λ v. v.is_extern) e, (ap (λ v. v.is_nodebug) e, (ap (λ v. v.ty) e, ap (λ v. v.pos) e)))))

pub decl-decides : (a b : Decl) → Decides ((decl.ghosts).eq a b) (a ≡ b)
decl-decides a b =
    through (both _ _ (ident-decides a.term b.term)
    (both _ _ (pointwise_decides ident-decides a.arg_tys b.arg_tys)
    (both _ _ (ident-decides a.ret_ty b.ret_ty)
    (both _ _ (booleans_Decides a.pure b.pure)
    (both _ _ (booleans_Decides a.multi b.multi)
    (both _ _ (booleans_Decides a.partial b.partial)
    (both _ _ (booleans_Decides a.rec b.rec) (pos-decides a.pos b.pos))))))))
    (λ h i. record {
      term = h.0 i;
      arg_tys = h.1.0 i;
      ret_ty = h.1.1.0 i;
      pure = h.1.1.1.0 i;
      multi = h.1.1.1.1.0 i;
      partial = h.1.1.1.1.1.0 i;
      rec = h.1.1.1.1.1.1.0 i;
      pos = h.1.1.1.1.1.1.1 i;
    })
    (λ e. (
      ap (λ v. v.term) e,
      (
        ap (λ v. v.arg_tys) e,
        (
          ap (λ v. v.ret_ty) e,
          (
            ap (λ v. v.pure) e,
            (ap (λ v. v.multi) e, (ap (λ v. v.partial) e, (ap (λ v. v.rec) e, ap (λ v. v.pos) e))),
          ),
        ),
      ),
    ))

pub if_let-decides : (a b : IfLet) → Decides ((if_let.ghosts).eq a b) (a ≡ b)
if_let-decides a b =
    through (both _ _ (same_pattern-decides a.pattern b.pattern)
    (both _ _ (same_expr-decides a.expr b.expr) (pos-decides a.pos b.pos)))
    (λ h i. record { pattern = h.0 i; expr = h.1.0 i; pos = h.1.1 i })
    (λ e. (ap (λ v. v.pattern) e, (ap (λ v. v.expr) e, ap (λ v. v.pos) e)))

pub rule-decides : (a b : Rule) → Decides ((rule.ghosts).eq a b) (a ≡ b)
rule-decides a b =
    through (both _ _ (same_pattern-decides a.pattern b.pattern)
    (both _ _ (pointwise_decides if_let-decides a.iflets b.iflets)
    (both _ _ (same_expr-decides a.expr b.expr)
    (both _ _ (pos-decides a.pos b.pos)
    (both _ _ (options signed_Decides a.prio b.prio) (options ident-decides a.name b.name))))))
    (λ h i. record {
      pattern = h.0 i;
      iflets = h.1.0 i;
      expr = h.1.1.0 i;
      pos = h.1.1.1.0 i;
      prio = h.1.1.1.1.0 i;
      name = h.1.1.1.1.1 i;
    })
    (λ e. (
      ap (λ v. v.pattern) e,
      (
        ap (λ v. v.iflets) e,
        (
          ap (λ v. v.expr) e,
          (
            ap (λ v. v.pos) e,
            (ap (λ v. v.prio) e, ap (λ v. v.name) e),
          ),
        ),
      ),
    ))

pub extractor-decides : (a b : Extractor) → Decides ((extractor.ghosts).eq a b) (a ≡ b)
extractor-decides a b =
    through (both _ _ (ident-decides a.term b.term)
    (both _ _ (pointwise_decides ident-decides a.args b.args)
    (both _ _ (same_pattern-decides a.template b.template) (pos-decides a.pos b.pos))))
    (λ h i. record { term = h.0 i; args = h.1.0 i; template = h.1.1.0 i; pos = h.1.1.1 i })
    (λ e. (ap (λ v. v.term) e, (ap (λ v. v.args) e, (ap (λ v. v.template) e, ap (λ v. v.pos) e))))

pub extern-decides : (a b : Extern) → Decides ((extern_of.ghosts).eq a b) (a ≡ b)
extern-decides (extern_constructor a b p) (extern_constructor c d q) =
    through (both _ _ (ident-decides a c) (both _ _ (ident-decides b d) (pos-decides p q)))
    (λ h i. extern_constructor (h.0 i) (h.1.0 i) (h.1.1 i))
    (λ e. (cc, (cc, cc)))
extern-decides (extern_extractor a b p m) (extern_extractor c d q n) =
    through (both _ _ (ident-decides a c) (both _ _ (ident-decides b d) (both _ _ (pos-decides p q) (booleans_Decides m n))))
    (λ h i. extern_extractor (h.0 i) (h.1.0 i) (h.1.1.0 i) (h.1.1.1 i))
    (λ e. (cc, (cc, (cc, cc))))
extern-decides (extern_const a b p) (extern_const c d q) =
    through (both _ _ (ident-decides a c) (both _ _ (ident-decides b d) (pos-decides p q)))
    (λ h i. extern_const (h.0 i) (h.1.0 i) (h.1.1 i))
    (λ e. (cc, (cc, cc)))
extern-decides a b = (λ e. cc, λ e. cc)

pub converter-decides : (a b : Converter) → Decides ((converter.ghosts).eq a b) (a ≡ b)
converter-decides a b =
    through (both _ _ (ident-decides a.term b.term)
    (both _ _ (ident-decides a.inner_ty b.inner_ty)
    (both _ _ (ident-decides a.outer_ty b.outer_ty) (pos-decides a.pos b.pos))))
    (λ h i. record { term = h.0 i; inner_ty = h.1.0 i; outer_ty = h.1.1.0 i; pos = h.1.1.1 i })
    (λ e. (ap (λ v. v.term) e, (ap (λ v. v.inner_ty) e, (ap (λ v. v.outer_ty) e, ap (λ v. v.pos) e))))

pub pragma-decides : (a b : Pragma) → Decides ((pragma_of.ghosts).eq a b) (a ≡ b)
pragma-decides a b = (λ e. refl, λ e. refl)

pub kept-decides : (a b : Kept) → Decides ((kept.ghosts).eq a b) (a ≡ b)
kept-decides a b =
    through (both _ _ (ident-decides a.word b.word)
    (both _ _ (same_coded-decides item_trees_code a.items b.items) (pos-decides a.pos b.pos)))
    (λ h i. record { word = h.0 i; items = h.1.0 i; pos = h.1.1 i })
    (λ e. (ap (λ v. v.word) e, (ap (λ v. v.items) e, ap (λ v. v.pos) e)))

pub same_def-decides : (a b : Def) → Decides (same_def a b) (a ≡ b)
same_def-decides (defs.TypeDef a) (defs.TypeDef b) = through (type-decides a b) (λ h. ap defs.TypeDef h) (λ e. cc)
same_def-decides (defs.Decl a) (defs.Decl b) = through (decl-decides a b) (λ h. ap defs.Decl h) (λ e. cc)
same_def-decides (defs.Rule a) (defs.Rule b) = through (rule-decides a b) (λ h. ap defs.Rule h) (λ e. cc)
same_def-decides (defs.Extractor a) (defs.Extractor b) = through (extractor-decides a b) (λ h. ap defs.Extractor h) (λ e. cc)
same_def-decides (defs.Extern a) (defs.Extern b) = through (extern-decides a b) (λ h. ap defs.Extern h) (λ e. cc)
same_def-decides (defs.Converter a) (defs.Converter b) = through (converter-decides a b) (λ h. ap defs.Converter h) (λ e. cc)
same_def-decides (defs.Pragma a) (defs.Pragma b) = through (pragma-decides a b) (λ h. ap defs.Pragma h) (λ e. cc)
same_def-decides (defs.Kept a) (defs.Kept b) = through (kept-decides a b) (λ h. ap defs.Kept h) (λ e. cc)
same_def-decides a b = (λ e. cc, λ e. cc)
