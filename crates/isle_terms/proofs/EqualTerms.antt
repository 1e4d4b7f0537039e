-- The `==` of terms, and of what they are made of, holds exactly where the two are the same.
use Rattle.std.proofs.Common.{◌≡◌, Bool, List, refl, ap}
use Rattle.std.specs.Prelude.{Option}
use Rattle.std.specs.declared.option.Option.TheVariants.{None, Some}
use Rattle.std.specs.Option.{option_eq}
use Rattle.std.specs.Bool.{Decides}
use Rattle.std.specs.Cmp.{booleans_Decides}
use Rattle.std.specs.Cmp.Lexicographic.{pointwise, pointwise_decides}
use Rattle.std.proofs.lemmas.Bool.Decides.{Decides-eqb}
use Rattle.isle_ast.proofs.Trees.DefEquality.{pos-decides}
use Rattle.isle_ast.proofs.Trees.Equality.{same_pattern-decides}
use Rattle.isle_types.specs.declared.ids.TypeId.{TypeId}
use Rattle.isle_types.specs.declared.ids.VariantId.{VariantId}
use Rattle.isle_types.specs.contracts.ids.TypeIdPartialEq.TheImpl as type_of
use Rattle.isle_types.specs.contracts.ids.VariantIdPartialEq.TheImpl as variant_of
use Rattle.isle_rules.specs.declared.terms.Term.{Term}
use Rattle.isle_rules.specs.declared.terms.TermFlags.{TermFlags}
use Rattle.isle_rules.specs.declared.terms.TermKind.{TermKind}
use Rattle.isle_rules.specs.declared.terms.TermKind.TheVariants.{EnumVariant, Struct, Decl}
use Rattle.isle_rules.specs.declared.terms.ConstructorKind.{ConstructorKind}
use Rattle.isle_rules.specs.declared.terms.ConstructorKind.TheVariants.{InternalConstructor, ExternalConstructor}
use Rattle.isle_rules.specs.declared.terms.ExtractorKind.{ExtractorKind}
use Rattle.isle_rules.specs.declared.terms.ExtractorKind.TheVariants.{InternalExtractor, ExternalExtractor}
use Rattle.isle_rules.specs.declared.signatures.ReturnKind.{ReturnKind}
use Rattle.isle_rules.specs.declared.signatures.ReturnKind.TheVariants.{Plain, Option as optional, Iterator}
use Rattle.isle_rules.specs.contracts.signatures.ReturnKindPartialEq.TheImpl as return_of
use Rattle.isle_rules.specs.contracts.terms.TermPartialEq.TheImpl as term_of
use Rattle.isle_rules.specs.contracts.terms.TermFlagsPartialEq.TheImpl as flags_of
use Rattle.isle_rules.specs.contracts.terms.TermKindPartialEq.TheImpl as kind_of
use Rattle.isle_rules.specs.contracts.terms.ConstructorKindPartialEq.TheImpl as constructor_of
use Rattle.isle_rules.specs.contracts.terms.ExtractorKindPartialEq.TheImpl as extractor_of
use Rattle.isle_terms.proofs.EqualTrees.{both, through, sym-decides, term_id-decides, type_id-decides}

variant-decides : (a b : VariantId) → Decides ((variant_of.ghosts).eq a b) (a ≡ b)
variant-decides a b = through (Decides-eqb a.0 b.0) (λ h i. record { 0 = h i }) (λ e. ap (λ v. v.0) e)

option-decides : {A : Type 0} {eq : A → A → Bool} → ((a b : A) → Decides (eq a b) (a ≡ b)) → (x y : Option A) → Decides (option_eq eq x y) (x ≡ y)
option-decides d None None = (λ e. refl, λ e. refl)
option-decides d None (Some b) = (λ e. cc, λ e. cc)
option-decides d (Some a) None = (λ e. cc, λ e. cc)
option-decides d (Some a) (Some b) = through (d a b) (λ h. ap Some h) (λ e. cc)

pub flags-decides : (a b : TermFlags) → Decides ((flags_of.ghosts).eq a b) (a ≡ b)
flags-decides a b =
    through (both _ _ (booleans_Decides a.pure b.pure)
    (both _ _ (booleans_Decides a.multi b.multi) (both _ _ (booleans_Decides a.partial b.partial) (booleans_Decides a.rec b.rec))))
    (λ h i. record { pure = h.0 i; multi = h.1.0 i; partial = h.1.1.0 i; rec = h.1.1.1 i })
    (λ e. (ap (λ v. v.pure) e, (ap (λ v. v.multi) e, (ap (λ v. v.partial) e, ap (λ v. v.rec) e))))

pub constructor-decides : (a b : ConstructorKind) → Decides ((constructor_of.ghosts).eq a b) (a ≡ b)
constructor-decides InternalConstructor InternalConstructor = (λ e. refl, λ e. refl)
constructor-decides (ExternalConstructor a) (ExternalConstructor b) = through (sym-decides a b) (λ h. ap ExternalConstructor h) (λ e. cc)
constructor-decides a b = (λ e. cc, λ e. cc)

pub extractor-decides : (a b : ExtractorKind) → Decides ((extractor_of.ghosts).eq a b) (a ≡ b)
extractor-decides (InternalExtractor p) (InternalExtractor q) = through (same_pattern-decides p q) (λ h. ap InternalExtractor h) (λ e. cc)
extractor-decides (ExternalExtractor a m p) (ExternalExtractor b n q) =
    through (both _ _ (sym-decides a b) (both _ _ (booleans_Decides m n) (pos-decides p q)))
    (λ h i. ExternalExtractor (h.0 i) (h.1.0 i) (h.1.1 i)) (λ e. (cc, (cc, cc)))
extractor-decides a b = (λ e. cc, λ e. cc)

pub kind-decides : (a b : TermKind) → Decides ((kind_of.ghosts).eq a b) (a ≡ b)
kind-decides (EnumVariant v) (EnumVariant w) = through (variant-decides v w) (λ h. ap EnumVariant h) (λ e. cc)
kind-decides Struct Struct = (λ e. refl, λ e. refl)
kind-decides (Decl f m x) (Decl g n y) =
    through (both _ _ (flags-decides f g) (both _ _ (option-decides constructor-decides m n) (option-decides extractor-decides x y)))
    (λ h i. Decl (h.0 i) (h.1.0 i) (h.1.1 i)) (λ e. (cc, (cc, cc)))
kind-decides a b = (λ e. cc, λ e. cc)

types-decide : (s t : List TypeId) → Decides (pointwise (type_of.ghosts).eq s t) (s ≡ t)
types-decide s t = pointwise_decides type_id-decides s t

pub term-decides : (a b : Term) → Decides ((term_of.ghosts).eq a b) (a ≡ b)
term-decides a b =
    through (both _ _ (term_id-decides a.id b.id) (both _ _ (pos-decides a.decl_pos b.decl_pos)
    (both _ _ (sym-decides a.name b.name) (both _ _ (types-decide a.arg_tys b.arg_tys)
    (both _ _ (type_id-decides a.ret_ty b.ret_ty) (kind-decides a.kind b.kind))))))
    (λ h i. record {
      id = h.0 i;
      decl_pos = h.1.0 i;
      name = h.1.1.0 i;
      arg_tys = h.1.1.1.0 i;
      ret_ty = h.1.1.1.1.0 i;
      kind = h.1.1.1.1.1 i;
    })
    (λ e. (ap (λ v. v.id) e, (ap (λ v. v.decl_pos) e, (ap (λ v. v.name) e, (ap (λ v. v.arg_tys) e, (ap (λ v. v.ret_ty) e, ap (λ v. v.kind) e))))))

pub return-decides : (a b : ReturnKind) → Decides ((return_of.ghosts).eq a b) (a ≡ b)
return-decides Plain Plain = (λ e. refl, λ e. refl)
return-decides optional optional = (λ e. refl, λ e. refl)
return-decides Iterator Iterator = (λ e. refl, λ e. refl)
return-decides a b = (λ e. cc, λ e. cc)
