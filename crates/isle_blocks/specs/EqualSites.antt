-- The `==` of sites holds exactly where the two are the same, and then they are hashed alike.
use Rattle.std.specs.Prelude.{IsTrue}
use Rattle.std.proofs.Common.{◌≡◌, ◌&&◌, Bool, true, false, List, refl, ap}
use Rattle.std.specs.Bool.{Decides}
use Rattle.std.specs.Cmp.{signed_Decides, booleans_Decides}
use Rattle.std.specs.Cmp.Lexicographic.{pointwise, pointwise_decides}
use Rattle.std.proofs.lemmas.Bool.Decides.{Decides-eqb}
use Rattle.isle_types.specs.declared.ids.Sym.{Sym}
use Rattle.isle_types.specs.declared.ids.TermId.{TermId}
use Rattle.isle_types.specs.declared.ids.TypeId.{TypeId}
use Rattle.isle_types.specs.declared.ids.VariantId.{VariantId}
use Rattle.isle_types.specs.contracts.ids.SymPartialEq.TheImpl as sym_of
use Rattle.isle_types.specs.contracts.ids.TermIdPartialEq.TheImpl as term_of
use Rattle.isle_types.specs.contracts.ids.TypeIdPartialEq.TheImpl as type_of
use Rattle.isle_types.specs.contracts.ids.VariantIdPartialEq.TheImpl as variant_of
use Rattle.isle_blocks.specs.declared.ids.BindingId.{BindingId}
use Rattle.isle_blocks.specs.declared.ids.TupleIndex.{TupleIndex}
use Rattle.isle_blocks.specs.declared.binding.Binding.{Binding}
use Rattle.isle_blocks.specs.declared.binding.Binding.TheVariants as sites
use Rattle.isle_blocks.specs.Hashes.{binding_hash}
use Rattle.isle_blocks.specs.contracts.ids.BindingIdPartialEq.TheImpl as id_of
use Rattle.isle_blocks.specs.contracts.ids.TupleIndexPartialEq.TheImpl as index_of
use Rattle.isle_blocks.specs.contracts.binding.BindingPartialEq.TheImpl as binding_of

-- two answers that decide two facts decide both
pub both : {P Q : Type 0} (s t : Bool) → Decides s P → Decides t Q → Decides (s && t) (P × Q)
both true true p q = (λ e. (p.0 refl, q.0 refl), λ h. refl)
both true false p q = (λ e. cc, λ h. q.1 h.1)
both false t p q = (λ e. cc, λ h. p.1 h.0)

-- an answer decides whatever its fact comes to
pub through : {P Q : Type 0} {s : Bool} → Decides s P → (P → Q) → (Q → P) → Decides s Q
through d f g = (λ e. f (d.0 e), λ q. d.1 (g q))

pub sym-decides : (a b : Sym) → Decides ((sym_of.ghosts).eq a b) (a ≡ b)
sym-decides a b = through (Decides-eqb a.0 b.0) (λ h i. record { 0 = h i }) (λ e. ap (λ v. v.0) e)

term-decides : (a b : TermId) → Decides ((term_of.ghosts).eq a b) (a ≡ b)
term-decides a b = through (Decides-eqb a.0 b.0) (λ h i. record { 0 = h i }) (λ e. ap (λ v. v.0) e)

pub type-decides : (a b : TypeId) → Decides ((type_of.ghosts).eq a b) (a ≡ b)
type-decides a b = through (Decides-eqb a.0 b.0) (λ h i. record { 0 = h i }) (λ e. ap (λ v. v.0) e)

pub variant-decides : (a b : VariantId) → Decides ((variant_of.ghosts).eq a b) (a ≡ b)
variant-decides a b = through (Decides-eqb a.0 b.0) (λ h i. record { 0 = h i }) (λ e. ap (λ v. v.0) e)

pub id-decides : (a b : BindingId) → Decides ((id_of.ghosts).eq a b) (a ≡ b)
id-decides a b = through (Decides-eqb a.0 b.0) (λ h i. record { 0 = h i }) (λ e. ap (λ v. v.0) e)

pub index-decides : (a b : TupleIndex) → Decides ((index_of.ghosts).eq a b) (a ≡ b)
index-decides a b = through (Decides-eqb a.0 b.0) (λ h i. record { 0 = h i }) (λ e. ap (λ v. v.0) e)

ids-decide : (cs ds : List BindingId) → Decides (pointwise (id_of.ghosts).eq cs ds) (cs ≡ ds)
ids-decide cs ds = pointwise_decides id-decides cs ds

pub binding-decides : (a b : Binding) → Decides ((binding_of.ghosts).eq a b) (a ≡ b)
binding-decides (sites.ConstBool a s) (sites.ConstBool b t) =
    through (both _ _ (booleans_Decides a b) (type-decides s t)) (λ h i. sites.ConstBool (h.0 i) (h.1 i)) (λ e. (cc, cc))
binding-decides (sites.ConstInt a s) (sites.ConstInt b t) =
    through (both _ _ (signed_Decides a b) (type-decides s t)) (λ h i. sites.ConstInt (h.0 i) (h.1 i)) (λ e. (cc, cc))
binding-decides (sites.ConstPrim a) (sites.ConstPrim b) = through (sym-decides a b) (λ h. ap sites.ConstPrim h) (λ e. cc)
binding-decides (sites.Argument a) (sites.Argument b) = through (index-decides a b) (λ h. ap sites.Argument h) (λ e. cc)
binding-decides (sites.Extractor s a) (sites.Extractor t b) =
    through (both _ _ (term-decides s t) (id-decides a b)) (λ h i. sites.Extractor (h.0 i) (h.1 i)) (λ e. (cc, cc))
binding-decides (sites.Constructor s cs m) (sites.Constructor t ds n) =
    through (both _ _ (term-decides s t) (both _ _ (ids-decide cs ds) (Decides-eqb m n)))
    (λ h i. sites.Constructor (h.0 i) (h.1.0 i) (h.1.1 i)) (λ e. (cc, (cc, cc)))
binding-decides (sites.Iterator a) (sites.Iterator b) = through (id-decides a b) (λ h. ap sites.Iterator h) (λ e. cc)
binding-decides (sites.MakeVariant s v cs) (sites.MakeVariant t w ds) =
    through (both _ _ (type-decides s t) (both _ _ (variant-decides v w) (ids-decide cs ds)))
    (λ h i. sites.MakeVariant (h.0 i) (h.1.0 i) (h.1.1 i)) (λ e. (cc, (cc, cc)))
binding-decides (sites.MatchVariant a v f) (sites.MatchVariant b w g) =
    through (both _ _ (id-decides a b) (both _ _ (variant-decides v w) (index-decides f g)))
    (λ h i. sites.MatchVariant (h.0 i) (h.1.0 i) (h.1.1 i)) (λ e. (cc, (cc, cc)))
binding-decides (sites.MakeStruct s cs) (sites.MakeStruct t ds) =
    through (both _ _ (type-decides s t) (ids-decide cs ds)) (λ h i. sites.MakeStruct (h.0 i) (h.1 i)) (λ e. (cc, cc))
binding-decides (sites.ExtractStruct a f) (sites.ExtractStruct b g) =
    through (both _ _ (id-decides a b) (index-decides f g)) (λ h i. sites.ExtractStruct (h.0 i) (h.1 i)) (λ e. (cc, cc))
binding-decides (sites.MakeSome a) (sites.MakeSome b) = through (id-decides a b) (λ h. ap sites.MakeSome h) (λ e. cc)
binding-decides (sites.MatchSome a) (sites.MatchSome b) = through (id-decides a b) (λ h. ap sites.MatchSome h) (λ e. cc)
binding-decides (sites.MatchTuple a f) (sites.MatchTuple b g) =
    through (both _ _ (id-decides a b) (index-decides f g)) (λ h i. sites.MatchTuple (h.0 i) (h.1 i)) (λ e. (cc, cc))
binding-decides a b = (λ e. cc, λ e. cc)

-- equal sites are hashed alike
pub same_sites-alike : (a b : Binding) → IsTrue ((binding_of.ghosts).eq a b) → binding_hash a ≡ binding_hash b
same_sites-alike a b e = ap binding_hash ((binding-decides a b).0 e)
