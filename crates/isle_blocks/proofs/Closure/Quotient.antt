-- A closed state has all that is derived, also of sites that stand in no table: each has the class of its source's field.
use Rattle.std.proofs.Common.{◌≡◌, ◌<◌, ◌⊎◌, inl, inr, ℕ, List, get_or, Option, Some, None, slice_get, refl, sym, ◌∙◌, ap, subst, arith}
use Rattle.std.specs.Prelude.{Contains}
use Rattle.std.proofs.lemmas.Option.{same_Some}
use Rattle.isle_types.specs.declared.ids.Sym.{Sym}
use Rattle.isle_meaning.specs.Sites.{Site, bool_site, int_site, prim_site, argument, extractor_call, constructor_call, iterator}
use Rattle.isle_meaning.specs.Sites.{make_variant, match_variant, make_struct, extract_struct, make_some, match_some, match_tuple}
use Rattle.isle_meaning.specs.Demands as meaning
use Rattle.isle_meaning.specs.Demands.{Demand, constrained, equal, variant_constraint, struct_constraint}
use Rattle.isle_meaning.specs.Derived.{Derived, demanded, flipped, chained, shared, like_variant, like_struct, FieldOf, of_variant, of_struct}
use Rattle.isle_meaning.specs.Derived.{Inside, directly, further_in}
use Rattle.isle_meaning.specs.Faults.{Conflict, Endless}
use Rattle.isle_meaning.specs.Numbered.{At}
use Rattle.isle_blocks.specs.declared.binding.Binding.{Binding}
use Rattle.isle_blocks.specs.declared.constraint.Constraint.{Constraint}
use Rattle.isle_blocks.specs.declared.constraint.Constraint.TheVariants as tests
use Rattle.isle_blocks.specs.Rows.{IsInjective, rows_of, test_of}
use Rattle.isle_blocks.specs.Inside.ClosureFields.{Opens, field_binding, field_site}
use Rattle.isle_blocks.specs.Tables.{IsTable}
use Rattle.isle_blocks.specs.Inside.ClosureStates.{HasField, HasOwn, IsOpened, IsClosed, IsChildAt, IsRanked}
use Rattle.isle_blocks.proofs.Closure.Trees.{one_number, at_below, at_field}

-- a constraint with a field is a test that opens it
pub of_variant_test : (name : Sym → List ℕ) (c : Constraint) (ty k n i : ℕ) → test_of name c ≡ variant_constraint ty k n → i < n → Opens c (Some k) i
of_variant_test name (tests.Variant t v f) ty k n i e l = let p : v.0 ≡ k = cc in let q : f.0 ≡ n = cc in (ap Some (sym p), omega arith)
of_variant_test name (tests.Struct t f) ty k n i e l = absurd cc
of_variant_test name (tests.ConstBool v t) ty k n i e l = absurd cc
of_variant_test name (tests.ConstInt v t) ty k n i e l = absurd cc
of_variant_test name (tests.ConstPrim v) ty k n i e l = absurd cc
of_variant_test name tests.Some ty k n i e l = absurd cc

pub of_struct_test : (name : Sym → List ℕ) (c : Constraint) (ty n i : ℕ) → test_of name c ≡ struct_constraint ty n → i < n → Opens c None i
of_struct_test name (tests.Variant t v f) ty n i e l = absurd cc
of_struct_test name (tests.Struct t f) ty n i e l = let q : f.0 ≡ n = cc in (refl, omega arith)
of_struct_test name (tests.ConstBool v t) ty n i e l = absurd cc
of_struct_test name (tests.ConstInt v t) ty n i e l = absurd cc
of_struct_test name (tests.ConstPrim v) ty n i e l = absurd cc
of_struct_test name tests.Some ty n i e l = absurd cc

module _ (name : Sym → List ℕ) (injective : IsInjective name) (table : List Binding) (ok : IsTable table) (D : Demand → Type 0)
    (equals : List (ℕ × ℕ)) (own : List (Option Constraint)) (class : List ℕ)
    (all : (t : Site) (d : meaning.Constraint) → D (constrained t d)
    → (a : ℕ) × (c : Constraint) × At (rows_of name table) t a × HasOwn own a c × (test_of name c ≡ d))
    (given : (t u : Site) → D (equal t u) → (a : ℕ) × (b : ℕ) × At (rows_of name table) t a × At (rows_of name table) u b × Contains equals (a, b))
    (closed : IsClosed table equals own class)
    (fields : (a : ℕ) (kind : Option ℕ) (i : ℕ) → IsOpened own a kind i → HasField table kind a i) where
  -- the class of a number that stands for the site
  abbrev pub OwnClass : Site → ℕ → Type 0
  OwnClass t r = (a : ℕ) × At (rows_of name table) t a × (get_or class a 0 ≡ r)

  -- the class of the like field of a source's class
  abbrev pub FieldClass : (ℕ → Type 0) → Option ℕ → ℕ → ℕ → Type 0
  FieldClass Source kind i r = (k : ℕ) × (g : ℕ) × Source k × IsOpened own k kind i × (slice_get table g ≡ Some (field_binding kind k i))
      × (get_or class g 0 ≡ r)

  -- the class of a site: that of its number, or of the like field of its source's class
  abbrev pub ClassOf : Site → ℕ → Type 0
  ClassOf (bool_site b ty) r = OwnClass (bool_site b ty) r
  ClassOf (int_site n ty) r = OwnClass (int_site n ty) r
  ClassOf (prim_site n) r = OwnClass (prim_site n) r
  ClassOf (argument i) r = OwnClass (argument i) r
  ClassOf (extractor_call t s) r = OwnClass (extractor_call t s) r
  ClassOf (constructor_call t ss i) r = OwnClass (constructor_call t ss i) r
  ClassOf (iterator s) r = OwnClass (iterator s) r
  ClassOf (make_variant ty v ss) r = OwnClass (make_variant ty v ss) r
  ClassOf (match_variant s v i) r = FieldClass (ClassOf s) (Some v) i r ⊎ OwnClass (match_variant s v i) r
  ClassOf (make_struct ty ss) r = OwnClass (make_struct ty ss) r
  ClassOf (extract_struct s i) r = FieldClass (ClassOf s) None i r ⊎ OwnClass (extract_struct s i) r
  ClassOf (make_some s) r = OwnClass (make_some s) r
  ClassOf (match_some s) r = OwnClass (match_some s) r
  ClassOf (match_tuple s i) r = OwnClass (match_tuple s i) r

  pub at_class : (t : Site) (a : ℕ) → At (rows_of name table) t a → ClassOf t (get_or class a 0)
  at_class (bool_site b ty) a h = (a, h, refl)
  at_class (int_site n ty) a h = (a, h, refl)
  at_class (prim_site n) a h = (a, h, refl)
  at_class (argument i) a h = (a, h, refl)
  at_class (extractor_call t s) a h = (a, h, refl)
  at_class (constructor_call t ss i) a h = (a, h, refl)
  at_class (iterator s) a h = (a, h, refl)
  at_class (make_variant ty v ss) a h = (a, h, refl)
  at_class (match_variant s v i) a h = inr (a, h, refl)
  at_class (make_struct ty ss) a h = (a, h, refl)
  at_class (extract_struct s i) a h = inr (a, h, refl)
  at_class (make_some s) a h = (a, h, refl)
  at_class (match_some s) a h = (a, h, refl)
  at_class (match_tuple s i) a h = (a, h, refl)

  own_one : (t : Site) (r q : ℕ) → OwnClass t r → OwnClass t q → r ≡ q
  own_one t r q (a, h, e) (b, k, d) = sym e ∙ ap (λ (z : ℕ). get_or class z 0) (one_number name table injective ok t a b h k) ∙ d

  -- a field's class and its like field's
  meets : (t : Site) (kind : Option ℕ) (i r q : ℕ) → ((r q : ℕ) → ClassOf t r → ClassOf t q → r ≡ q)
      → FieldClass (ClassOf t) kind i r → OwnClass (field_site kind t i) q → r ≡ q
  meets t kind i r q one (k, g, p, opened, e, d) (a, h, m) =
      let (s, f, at) = at_field name table injective kind t i a h in
      let same : k ≡ get_or class s 0 = one k (get_or class s 0) p (at_class t s at) in
      let (c, has, opens) = opened in
      sym d ∙ sym (closed.like s c kind i a g (at_below name table t s at) (subst (λ (z : ℕ). HasOwn own z c) same has) opens f
      (subst (λ (z : ℕ). slice_get table g ≡ Some (field_binding kind z i)) same e)) ∙ m

  both_fields : (t : Site) (kind : Option ℕ) (i r q : ℕ) → ((r q : ℕ) → ClassOf t r → ClassOf t q → r ≡ q)
      → FieldClass (ClassOf t) kind i r → FieldClass (ClassOf t) kind i q → r ≡ q
  both_fields t kind i r q one (k, g, p, opened, e, d) (l, h, p', opened', e', d') =
      let same : k ≡ l = one k l p p' in
      sym d ∙ ap (λ (z : ℕ). get_or class z 0) (ok.once (field_binding kind l i) g h
      (subst (λ (z : ℕ). slice_get table g ≡ Some (field_binding kind z i)) same e) e') ∙ d'

  pub one_class : (t : Site) (r q : ℕ) → ClassOf t r → ClassOf t q → r ≡ q
  one_class (bool_site b ty) r q x y = own_one (bool_site b ty) r q x y
  one_class (int_site n ty) r q x y = own_one (int_site n ty) r q x y
  one_class (prim_site n) r q x y = own_one (prim_site n) r q x y
  one_class (argument i) r q x y = own_one (argument i) r q x y
  one_class (extractor_call t s) r q x y = own_one (extractor_call t s) r q x y
  one_class (constructor_call t ss i) r q x y = own_one (constructor_call t ss i) r q x y
  one_class (iterator s) r q x y = own_one (iterator s) r q x y
  one_class (make_variant ty v ss) r q x y = own_one (make_variant ty v ss) r q x y
  one_class (match_variant s v i) r q (inl x) (inl y) = both_fields s (Some v) i r q (one_class s) x y
  one_class (match_variant s v i) r q (inl x) (inr y) = meets s (Some v) i r q (one_class s) x y
  one_class (match_variant s v i) r q (inr x) (inl y) = sym (meets s (Some v) i q r (one_class s) y x)
  one_class (match_variant s v i) r q (inr x) (inr y) = own_one (match_variant s v i) r q x y
  one_class (make_struct ty ss) r q x y = own_one (make_struct ty ss) r q x y
  one_class (extract_struct s i) r q (inl x) (inl y) = both_fields s None i r q (one_class s) x y
  one_class (extract_struct s i) r q (inl x) (inr y) = meets s None i r q (one_class s) x y
  one_class (extract_struct s i) r q (inr x) (inl y) = sym (meets s None i q r (one_class s) y x)
  one_class (extract_struct s i) r q (inr x) (inr y) = own_one (extract_struct s i) r q x y
  one_class (make_some s) r q x y = own_one (make_some s) r q x y
  one_class (match_some s) r q x y = own_one (match_some s) r q x y
  one_class (match_tuple s i) r q x y = own_one (match_tuple s i) r q x y

  field_class : (kind : Option ℕ) (t : Site) (i r : ℕ) → FieldClass (ClassOf t) kind i r → ClassOf (field_site kind t i) r
  field_class (Some v) t i r x = inl x
  field_class None t i r x = inl x

  abbrev pub Seen : Demand → Type 0
  Seen (equal t u) = (r : ℕ) × ClassOf t r × ClassOf u r
  Seen (constrained t d) = (r : ℕ) × (c : Constraint) × ClassOf t r × HasOwn own r c × (test_of name c ≡ d)

  -- like fields of sites of one class
  seen_fields : (t u : Site) (r : ℕ) (kind : Option ℕ) (i : ℕ) → ClassOf t r → ClassOf u r → IsOpened own r kind i
      → Seen (equal (field_site kind t i) (field_site kind u i))
  seen_fields t u r kind i p q opened =
      let (g, e) = fields r kind i opened in (
        get_or class g 0,
        field_class kind t i (get_or class g 0) (r, g, p, opened, e, refl),
        field_class kind u i
            (get_or class g 0) (r, g, q, opened, e, refl),
      )

  pub seen : (d : Demand) → Derived D d → Seen d
  seen (constrained t d) (demanded h) =
      let (a, c, p, has, e) = all t d h in
      (get_or class a 0, c, at_class t a p, closed.shared a c (at_below name table t a p) has, e)
  seen (equal t u) (demanded h) =
      let (a, b, p, q, inside) = given t u h in
      (get_or class a 0, at_class t a p, subst (λ (z : ℕ). ClassOf u z) (sym (closed.given a b inside)) (at_class u b q))
  seen d (flipped {s = t} {u = u} h) = let (r, p, q) = seen (equal t u) h in (r, q, p)
  seen d (chained {s = t} {u = u} {w = w} h k) =
      let (r, p, q) = seen (equal t u) h in let (s, x, y) = seen (equal u w) k in
      (r, p, subst (λ (z : ℕ). ClassOf w z) (one_class u s r x q) y)
  seen d (shared {s = t} {u = u} {c = c} h k) =
      let (r, p, q) = seen (equal t u) h in let (s, test, x, has, e) = seen (constrained t c) k in
      (r, test, q, subst (λ (z : ℕ). HasOwn own z test) (one_class t s r x p) has, e)
  seen d (like_variant {s = t} {u = u} {ty = ty} {k = v} {n = n} {i = i} h k l) =
      let (r, p, q) = seen (equal t u) h in let (s, test, x, has, e) = seen (constrained t (variant_constraint ty v n)) k in
      seen_fields t u r (Some v) i p q (test, subst (λ (z : ℕ). HasOwn own z test) (one_class t s r x p) has, of_variant_test name test ty v n i e l)
  seen d (like_struct {s = t} {u = u} {ty = ty} {n = n} {i = i} h k l) =
      let (r, p, q) = seen (equal t u) h in let (s, test, x, has, e) = seen (constrained t (struct_constraint ty n)) k in
      seen_fields t u r None i p q (test, subst (λ (z : ℕ). HasOwn own z test) (one_class t s r x p) has, of_struct_test name test ty n i e l)

  -- no site has two constraints
  pub no_clash : Conflict D → ⊥
  no_clash c =
      let (r, one, p, h, e) = seen (constrained c.site c.one) c.has_one in let (s, other, q, k, f) = seen (constrained c.site c.other) c.has_other in
      let k' = subst (λ (z : ℕ). HasOwn own z other) (one_class c.site s r q p) k in
      c.differ (sym e ∙ ap (test_of name) (same_Some one other (sym h ∙ k')) ∙ f)

  -- a field under a derived test is in the class of a child
  pub field_seen : (t w : Site) → FieldOf D t w → (r : ℕ) × (g : ℕ) × ClassOf t r × ClassOf w (get_or class g 0)
      × IsChildAt table own class r g (get_or class g 0)
  field_seen t w (of_variant {ty = ty} {k = v} {n = n} {i = i} d l) =
      let (r, test, p, has, e) = seen (constrained t (variant_constraint ty v n)) d in
      let opens : Opens test (Some v) i = of_variant_test name test ty v n i e l in
      let (g, at) = fields r (Some v) i (test, has, opens) in (
        r,
        g,
        p,
        inl (r, g, p, (test, has, opens), at, refl),
        record { test = test; kind = Some v; index = i; has = has; opened = opens; field = at; leads = refl },
      )
  field_seen t w (of_struct {ty = ty} {n = n} {i = i} d l) =
      let (r, test, p, has, e) = seen (constrained t (struct_constraint ty n)) d in
      let opens : Opens test None i = of_struct_test name test ty n i e l in
      let (g, at) = fields r None i (test, has, opens) in (
        r,
        g,
        p,
        inl (r, g, p, (test, has, opens), at, refl),
        record { test = test; kind = None; index = i; has = has; opened = opens; field = at; leads = refl },
      )

  module _ (ranked : IsRanked table own class) where
    lower_class : (t u : Site) → Inside D t u → (r : ℕ) × (q : ℕ) × ClassOf t r × ClassOf u q × (ranked.rank q < ranked.rank r)
    lower_class t u (directly f) = let (r, g, p, q, child) = field_seen t u f in
        (r, get_or class g 0, p, q, ranked.falls r g (get_or class g 0) child)
    lower_class t u (further_in {u = w} j f) =
        let (r, s, p, q, low) = lower_class t w j in
        let (k, g, x, y, child) = field_seen w u f in
        let lower = ranked.falls k g (get_or class g 0) child in
        let same : ranked.rank s ≡ ranked.rank k = ap ranked.rank (one_class w s k q x) in
        (r, get_or class g 0, p, y, omega arith)

    -- no site is equal to a field of itself
    pub no_loop : Endless D → ⊥
    no_loop c =
        let (r, q, p, s, low) = lower_class c.site c.part c.inside in
        let (k, x, y) = seen (equal c.site c.part) c.same in
        let one : ranked.rank k ≡ ranked.rank r = ap ranked.rank (one_class c.site k r x p) in
        let two : ranked.rank k ≡ ranked.rank q = ap ranked.rank (one_class c.part k q y s) in
        omega arith
