-- What numbers stand for in a store: it stays so as the store grows, a number stands for one value, and where no node stands twice
-- a value has one number.
use Rattle.std.proofs.Common.{◌≡◌, ◌++◌, ℕ, List, [], ◌∷◌, None, Some, slice_get, refl, sym, ◌∙◌, ap, subst, append_assoc}
use Rattle.std.proofs.lemmas.List.{append-nil}
use Rattle.std.proofs.lemmas.Option.{none-some}
use Rattle.isle_types.specs.Names.{AreDistinct}
use Rattle.isle_types.specs.TypeEnvs.{type_at}
use Rattle.isle_types.specs.declared.ids.TypeId.{TypeId}
use Rattle.isle_types.specs.declared.ids.VariantId.{VariantId}
use Rattle.isle_containers.proofs.Lists.{slice_get-kept}
use Rattle.isle_meaning.specs.Values.{Value, Values, bool_value, int_value, constant_value, opaque_value, made_variant, made_struct}
use Rattle.isle_meaning.specs.Values.{no_values, more_values}
use Rattle.isle_calls.specs.declared.store.Stored.{Stored}
use Rattle.isle_calls.specs.declared.store.Stored.TheVariants.{Bool, Int, Const, Opaque, Variant, Struct}
use Rattle.isle_calls.specs.Stores.Values.{Stands, StandEach, Extends}
use Rattle.isle_program.specs.Tables.{variant_at}

-- a store extends itself
pub extends_same : (stored : List Stored) → Extends stored stored
extends_same stored = record { more = []; joined = sym (append-nil stored) }

-- what extends an extension extends what that extends
pub extends_again : {first second third : List Stored} → Extends first second → Extends second third → Extends first third
extends_again {first = first} p q = record {
  more = p.more ++ q.more;
  joined = q.joined ∙ ap (λ l. l ++ q.more) p.joined ∙ append_assoc first p.more q.more;
}

module _ {old new : List Stored} (extends : Extends old new) where
  -- a node keeps its number
  pub node_longer : (n : ℕ) (stored : Stored) → slice_get old n ≡ Some stored → slice_get new n ≡ Some stored
  node_longer n stored is = subst (λ l. slice_get l n ≡ Some stored) (sym extends.joined) (slice_get-kept old extends.more n stored is)

  mutual
    -- a number still stands for its value in a longer store
    pub stands_longer : (v : Value) (n : ℕ) → Stands old v n → Stands new v n
    stands_longer (bool_value b) n is = node_longer n (Bool b) is
    stands_longer (int_value i) n is = node_longer n (Int i) is
    stands_longer (constant_value name) n is = node_longer n (Const name) is
    stands_longer (opaque_value o) n is = node_longer n (Opaque o) is
    stands_longer (made_variant ty k vs) n (fields, is, each) =
        (fields, node_longer n (Variant (type_at ty) (variant_at k) fields) is, stand_longer vs fields each)
    stands_longer (made_struct ty vs) n (fields, is, each) =
        (fields, node_longer n (Struct (type_at ty) fields) is, stand_longer vs fields each)

    -- so do numbers for their values
    pub stand_longer : (vs : Values) (ns : List ℕ) → StandEach old vs ns → StandEach new vs ns
    stand_longer no_values [] each = tt
    stand_longer no_values (n ∷ ns) each = absurd each
    stand_longer (more_values v vs) [] each = absurd each
    stand_longer (more_values v vs) (n ∷ ns) each = (stands_longer v n each.0, stand_longer vs ns each.1)

module _ (stored : List Stored) where
  mutual
    -- a number stands for one value
    pub stands_one : (v w : Value) (n : ℕ) → Stands stored v n → Stands stored w n → v ≡ w
    stands_one (bool_value a) (bool_value b) n h k = let same : a ≡ b = cc in ap bool_value same
    stands_one (int_value a) (int_value b) n h k = let same : a ≡ b = cc in ap int_value same
    stands_one (constant_value a) (constant_value b) n h k = let same : a ≡ b = cc in ap constant_value same
    stands_one (opaque_value a) (opaque_value b) n h k = let same : a ≡ b = cc in ap opaque_value same
    stands_one (made_variant s i vs) (made_variant t j ws) n (fs, is, each) (gs, also, these) =
        let types : type_at s ≡ type_at t = cc in
        let variants : variant_at i ≡ variant_at j = cc in
        let fields : gs ≡ fs = cc in
        let all = stand_one vs ws fs each (subst (StandEach stored ws) fields these) in
        λ x. made_variant ((types x).0) ((variants x).0) (all x)
    stands_one (made_struct s vs) (made_struct t ws) n (fs, is, each) (gs, also, these) =
        let types : type_at s ≡ type_at t = cc in
        let fields : gs ≡ fs = cc in
        let all = stand_one vs ws fs each (subst (StandEach stored ws) fields these) in
        λ x. made_struct ((types x).0) (all x)
    stands_one v w n h k = cc

    -- numbers stand for one list of values
    pub stand_one : (vs ws : Values) (ns : List ℕ) → StandEach stored vs ns → StandEach stored ws ns → vs ≡ ws
    stand_one no_values no_values ns h k = refl
    stand_one no_values (more_values w ws) [] h k = absurd k
    stand_one no_values (more_values w ws) (n ∷ ns) h k = absurd h
    stand_one (more_values v vs) no_values [] h k = absurd h
    stand_one (more_values v vs) no_values (n ∷ ns) h k = absurd k
    stand_one (more_values v vs) (more_values w ws) [] h k = absurd h
    stand_one (more_values v vs) (more_values w ws) (n ∷ ns) h k =
        let first = stands_one v w n h.0 k.0 in
        let rest = stand_one vs ws ns h.1 k.1 in
        λ x. more_values (first x) (rest x)

module _ (stored : List Stored) (once : AreDistinct stored) where
  mutual
    -- a value has one number
    pub stands_once : (v : Value) (n m : ℕ) → Stands stored v n → Stands stored v m → n ≡ m
    stands_once (bool_value b) n m h k = once (Bool b) n m h k
    stands_once (int_value i) n m h k = once (Int i) n m h k
    stands_once (constant_value name) n m h k = once (Const name) n m h k
    stands_once (opaque_value o) n m h k = once (Opaque o) n m h k
    stands_once (made_variant ty i vs) n m (fs, is, each) (gs, also, these) =
        let fields = stand_once vs fs gs each these in
        once (Variant (type_at ty) (variant_at i) gs) n m
        (subst (λ l. slice_get stored n ≡ Some (Variant (type_at ty) (variant_at i) l)) fields is) also
    stands_once (made_struct ty vs) n m (fs, is, each) (gs, also, these) =
        let fields = stand_once vs fs gs each these in
        once (Struct (type_at ty) gs) n m (subst (λ l. slice_get stored n ≡ Some (Struct (type_at ty) l)) fields is) also

    -- values have one list of numbers
    pub stand_once : (vs : Values) (ns ms : List ℕ) → StandEach stored vs ns → StandEach stored vs ms → ns ≡ ms
    stand_once no_values [] [] h k = refl
    stand_once no_values [] (m ∷ ms) h k = absurd k
    stand_once no_values (n ∷ ns) ms h k = absurd h
    stand_once (more_values v vs) [] ms h k = absurd h
    stand_once (more_values v vs) (n ∷ ns) [] h k = absurd k
    stand_once (more_values v vs) (n ∷ ns) (m ∷ ms) h k =
        let first = stands_once v n m h.0 k.0 in
        let rest = stand_once vs ns ms h.1 k.1 in
        λ x. first x ∷ rest x

-- a number that stands for a value has a node
pub stands_there : (stored : List Stored) (v : Value) (n : ℕ) → Stands stored v n → slice_get stored n ≡ None → ⊥
stands_there stored (bool_value b) n is none = none-some _ (sym none ∙ is)
stands_there stored (int_value i) n is none = none-some _ (sym none ∙ is)
stands_there stored (constant_value name) n is none = none-some _ (sym none ∙ is)
stands_there stored (opaque_value o) n is none = none-some _ (sym none ∙ is)
stands_there stored (made_variant ty k vs) n (fields, is, each) none = none-some _ (sym none ∙ is)
stands_there stored (made_struct ty vs) n (fields, is, each) none = none-some _ (sym none ∙ is)

-- a number of a variant's node stands for the variant of what its fields stand for
pub variant_stands : (stored : List Stored) (v : Value) (n : ℕ) (ty : TypeId) (k : VariantId) (fields : List ℕ)
    → slice_get stored n ≡ Some (Variant ty k fields) → Stands stored v n → (vs : Values) × StandEach stored vs fields
    × (v ≡ made_variant ty.0 k.0 vs)
variant_stands stored (made_variant s i vs) n ty k fields at (gs, is, each) =
    let types : type_at s ≡ ty = cc in
    let variants : record { 0 = i } ≡ k = cc in
    let same : gs ≡ fields = cc in
    (vs, subst (StandEach stored vs) same each, λ x. made_variant ((types x).0) ((variants x).0) vs)
variant_stands stored v n ty k fields at is = absurd cc

pub struct_stands : (stored : List Stored) (v : Value) (n : ℕ) (ty : TypeId) (fields : List ℕ)
    → slice_get stored n ≡ Some (Struct ty fields)
    → Stands stored v n → (vs : Values) × StandEach stored vs fields × (v ≡ made_struct ty.0 vs)
struct_stands stored (made_struct s vs) n ty fields at (gs, is, each) =
    let types : type_at s ≡ ty = cc in
    let same : gs ≡ fields = cc in
    (vs, subst (StandEach stored vs) same each, λ x. made_struct ((types x).0) vs)
struct_stands stored v n ty fields at is = absurd cc
