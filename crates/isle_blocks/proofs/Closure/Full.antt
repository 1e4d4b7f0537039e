-- A missing field is added, or has no room.
use Rattle.std.proofs.Common.{◌≡◌, ◌<◌, ◌++◌, inl, inr, ℕ, List, [], ◌∷◌, length, get_or, Option, Some, slice_get, refl, sym, ◌∙◌, ap, subst, arith}
use Rattle.std.proofs.lemmas.List.{get_or_default}
use Rattle.std.proofs.lemmas.Option.{slice_get_within, same_Some}
use Rattle.isle_containers.proofs.Lists.{slice_get-last}
use Rattle.isle_blocks.specs.declared.ids.BindingId.{BindingId}
use Rattle.isle_blocks.specs.declared.binding.Binding.{Binding}
use Rattle.isle_blocks.specs.declared.constraint.Constraint.{Constraint}
use Rattle.isle_blocks.specs.declared.close.fields.Opening.{Opening}
use Rattle.isle_blocks.specs.Inside.ClosureFields.{Opens, AreFields, kind_of, field_binding}
use Rattle.isle_blocks.specs.Inside.ClosureStates.{AreClasses, HasOwn, HasField, HasFields, IsOpened, IsState, IsMissingField, Grows, Still, Added, RunsOut}
use Rattle.isle_blocks.specs.Tables.{IsAbsent, IsInterned, IsFull}
use Rattle.isle_blocks.proofs.Closure.Growth.{grown_state, grown_class, grown_join}

module _ (table : List Binding) (class : List ℕ) (s : ℕ) (kind : Option ℕ) (i : ℕ) (inside : s < length table)
    (missing : IsAbsent table (field_binding kind s i)) where
  lacks : (own : List (Option Constraint)) (f : ℕ) → IsOpened own (get_or class s 0) kind i
      → slice_get table f ≡ Some (field_binding kind (get_or class s 0) i)
      → IsMissingField own table class s kind i f
  lacks own f opened like = record { site_in = inside; opened = opened; missing = missing; like = like }

  -- where no number is left, the field is a need
  pub no_room : (new : List Binding) → new ≡ table → (site : Binding) → site ≡ field_binding kind s i → IsFull table site
      → HasField table kind (get_or class s 0) i → (own : List (Option Constraint)) → IsOpened own (get_or class s 0) kind i
      → RunsOut own table class new class
  no_room new same site is full (f, like) own opened = subst (λ (t : List Binding). RunsOut own table class t class) (sym same) (record {
    grows = Still;
    full = full.1;
    need = record { site = s; kind = kind; index = i; field = f; needed = lacks own f opened like };
  })

  -- what is interned stands last
  interned : (new : List Binding) (id : BindingId) (site : Binding) → site ≡ field_binding kind s i → IsInterned table site id new
      → (id.0 ≡ length table) × (new ≡ table ++ field_binding kind s i ∷ [])
  interned new id site is put = elim put [
    | inl (there, same) ↦ absurd (missing id.0 (there ∙ ap Some is))
    | inr (absent, last, longer) ↦ (last, longer ∙ ap (λ (b : Binding). table ++ b ∷ []) is)
  ]

  pub now_there : (new : List Binding) (id : BindingId) (site : Binding) → site ≡ field_binding kind s i → IsInterned table site id new
      → HasField new kind s i
  now_there new id site is put = (
    length table,
    subst (λ (t : List Binding). slice_get t (length table) ≡ Some (field_binding kind s i)) (sym (interned new id site is put).1)
        (slice_get-last table (field_binding kind s i)),
  )

  pub grows_one : (classes : AreClasses (length table) class) (new : List Binding) (id : BindingId) (site : Binding) → site ≡ field_binding kind s i
      → IsInterned table site id new → (base f root : ℕ) (longer : List ℕ) → base ≡ get_or class s base
      → slice_get table f ≡ Some (field_binding kind base i)
      → root ≡ get_or class f root → longer ≡ class ++ root ∷ [] → (own : List (Option Constraint)) → IsOpened own (get_or class s 0) kind i
      → Grows own table class new longer
  grows_one classes new id site is put base f root longer base_is like root_is pushed own opened =
      let fits = classes.fits in
      let within = slice_get_within table f (field_binding kind base i) like in
      let b : base ≡ get_or class s 0 = base_is ∙ get_or_default class s base 0 (omega arith) in
      let r : root ≡ get_or class f 0 = root_is ∙ get_or_default class f root 0 (omega arith) in
      let like' = subst (λ (z : ℕ). slice_get table f ≡ Some (field_binding kind z i)) b like in
      let one = Added s kind i f Still (lacks own f opened like') in
      let longer_is = pushed ∙ ap (λ (z : ℕ). class ++ z ∷ []) r in
      subst (λ (d : List ℕ). Grows own table class new d) (sym longer_is)
      (subst (λ (t : List Binding). Grows own table class t (class ++ get_or class f 0 ∷ [])) (sym (interned new id site is put).1) one)

module _ (own : List (Option Constraint)) (equals : List (ℕ × ℕ)) (t u : List Binding) (c d : List ℕ) (grows : Grows own t c u d) where
  pub runs_out : (w : List Binding) (e : List ℕ) → RunsOut own u d w e → RunsOut own t c w e
  runs_out w e out = record { grows = grown_join own equals t u w c d e grows out.grows; full = out.full; need = out.need }

  module _ (state : IsState own equals t c) (s : ℕ) (inside : s < length t) (base : ℕ) (base_is : base ≡ get_or c s base)
      (test : Constraint) (has : HasOwn own base test) (opening : Opening) (fields : AreFields test opening) where
    same_base : base ≡ get_or d s 0
    same_base =
        let fits = state.classes.fits in
        base_is ∙ get_or_default c s base 0 (omega arith) ∙ sym (grown_class own equals t u c d grows state s inside)

    -- the test opens the fields of the class still
    pub opened_still : (i : ℕ) → i < opening.fields.0 → IsOpened own (get_or d s 0) (kind_of opening.variant) i
    opened_still i low =
        (test, subst (λ (z : ℕ). HasOwn own z test) same_base has, (fields (kind_of opening.variant) i).1 (refl, low))

    pub like_there : (i : ℕ) → i < opening.fields.0 → HasField u (kind_of opening.variant) (get_or d s 0) i
    like_there i low = (grown_state own equals t u c d grows state).fields (get_or d s 0) (kind_of opening.variant) i (opened_still i low)

    -- and no others
    pub only_opened : (kind : Option ℕ) (i : ℕ) → IsOpened own (get_or d s 0) kind i → (kind ≡ kind_of opening.variant) × (i < opening.fields.0)
    only_opened kind i (other, other_has, opens) =
        let same : other ≡ test = same_Some _ _ (sym other_has ∙ subst (λ (z : ℕ). HasOwn own z test) same_base has) in
        (fields kind i).0 (subst (λ (x : Constraint). Opens x kind i) same opens)

    pub has_all : ((i : ℕ) → i < opening.fields.0 → HasField u (kind_of opening.variant) s i) → HasFields own u d s
    has_all added kind i opened =
        let at = only_opened kind i opened in
        let (f, there) = added i at.1 in
        (f, there ∙ ap Some (λ j. field_binding (sym at.0 j) s i))
