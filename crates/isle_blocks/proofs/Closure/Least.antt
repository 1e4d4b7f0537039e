-- All that follows from the demands is seen in a closed table that has all fields.
use Rattle.std.proofs.Common.{◌≡◌, ◌<◌, ℕ, List, length, get_or, Option, Some, None, slice_get, sym, ◌∙◌, ap, subst}
use Rattle.std.specs.Prelude.{Contains}
use Rattle.isle_types.specs.declared.ids.Sym.{Sym}
use Rattle.isle_meaning.specs.Sites.{Site}
use Rattle.isle_meaning.specs.Demands as meaning
use Rattle.isle_meaning.specs.Demands.{Demand, constrained, equal, variant_constraint, struct_constraint}
use Rattle.isle_meaning.specs.Derived.{Derived, demanded, flipped, chained, shared, like_variant, like_struct, of_variant, of_struct}
use Rattle.isle_meaning.specs.Numbered.{At}
use Rattle.isle_blocks.specs.declared.binding.Binding.{Binding}
use Rattle.isle_blocks.specs.declared.constraint.Constraint.{Constraint}
use Rattle.isle_blocks.specs.Rows.{IsInjective, rows_of, test_of}
use Rattle.isle_blocks.specs.Inside.ClosureFields.{Opens, field_binding, field_site}
use Rattle.isle_blocks.specs.Tables.{IsTable}
use Rattle.isle_blocks.specs.Inside.ClosureStates.{HasField, HasFields, HasOwn, IsOpened, IsClosed}
use Rattle.isle_blocks.specs.Closure.{Stands, HasAllFields}
use Rattle.isle_blocks.proofs.Closure.Trees.{one_number, at_below, field_at}
use Rattle.isle_blocks.proofs.Closure.Quotient.{of_variant_test, of_struct_test}

module _ (name : Sym → List ℕ) (injective : IsInjective name) (table : List Binding) (ok : IsTable table) (D : Demand → Type 0)
    (equals : List (ℕ × ℕ)) (own : List (Option Constraint)) (class : List ℕ)
    (all : (t : Site) (d : meaning.Constraint) → D (constrained t d)
    → (a : ℕ) × (c : Constraint) × At (rows_of name table) t a × HasOwn own a c × (test_of name c ≡ d))
    (given : (t u : Site) → D (equal t u) → (a : ℕ) × (b : ℕ) × At (rows_of name table) t a × At (rows_of name table) u b × Contains equals (a, b))
    (closed : IsClosed table equals own class)
    (fields : (a : ℕ) (kind : Option ℕ) (i : ℕ) → IsOpened own a kind i → HasField table kind a i)
    (full : (a : ℕ) → a < length table → HasFields own table class a) where
  abbrev pub Shows : Demand → Type 0
  Shows (equal t u) = (a : ℕ) × (b : ℕ) × At (rows_of name table) t a × At (rows_of name table) u b × (get_or class a 0 ≡ get_or class b 0)
  Shows (constrained t d) = (a : ℕ) × (c : Constraint) × At (rows_of name table) t a × HasOwn own (get_or class a 0) c × (test_of name c ≡ d)

  -- a field of a site is in the class of its representative's field
  field_in : (a : ℕ) (c : Constraint) (kind : Option ℕ) (i : ℕ) → a < length table → HasOwn own (get_or class a 0) c → Opens c kind i
      → (f : ℕ) × (g : ℕ) × (slice_get table f ≡ Some (field_binding kind a i)) × (slice_get table g ≡ Some (field_binding kind (get_or class a 0) i))
      × (get_or class f 0 ≡ get_or class g 0)
  field_in a c kind i l has opens =
      let (f, e) = full a l kind i (c, has, opens) in
      let (g, d) = fields (get_or class a 0) kind i (c, has, opens) in
      (f, g, e, d, closed.like a c kind i f g l has opens e d)

  -- like fields of sites of one class are in one class
  like_fields : (t u : Site) (a b : ℕ) (c : Constraint) (kind : Option ℕ) (i : ℕ) → At (rows_of name table) t a → At (rows_of name table) u b
      → get_or class a 0 ≡ get_or class b 0 → HasOwn own (get_or class a 0) c → Opens c kind i
      → Shows (equal (field_site kind t i) (field_site kind u i))
  like_fields t u a b c kind i p q e has opens =
      let (fa, ka, ea, da, sa) = field_in a c kind i (at_below name table t a p) has opens in
      let (fb, kb, eb, db, sb) = field_in b c kind i (at_below name table u b q) (subst (λ (z : ℕ). HasOwn own z c) e has) opens in
      let same : ka ≡ kb =
      ok.once (field_binding kind (get_or class b 0) i) ka kb (subst (λ (z : ℕ). slice_get table ka ≡ Some (field_binding kind z i)) e da) db in
      (fa, fb, field_at name table kind a i fa t ea p, field_at name table kind b i fb u eb q, sa ∙ ap (λ (z : ℕ). get_or class z 0) same ∙ sym sb)

  -- a site has one class
  same_class : (t : Site) (a b : ℕ) → At (rows_of name table) t a → At (rows_of name table) t b → get_or class a 0 ≡ get_or class b 0
  same_class t a b p q = ap (λ (z : ℕ). get_or class z 0) (one_number name table injective ok t a b p q)

  pub shown : (d : Demand) → Derived D d → Shows d
  shown (constrained t d) (demanded h) =
      let (a, c, p, has, e) = all t d h in (a, c, p, closed.shared a c (at_below name table t a p) has, e)
  shown (equal t u) (demanded h) = let (a, b, p, q, inside) = given t u h in (a, b, p, q, closed.given a b inside)
  shown d (flipped {s = t} {u = u} h) = let (a, b, p, q, e) = shown (equal t u) h in (b, a, q, p, sym e)
  shown d (chained {s = t} {u = u} {w = w} h k) =
      let (a, b, p, q, e) = shown (equal t u) h in let (x, y, r, s, g) = shown (equal u w) k in
      (a, y, p, s, e ∙ same_class u b x q r ∙ g)
  shown d (shared {s = t} {u = u} {c = c} h k) =
      let (a, b, p, q, e) = shown (equal t u) h in let (x, test, r, has, g) = shown (constrained t c) k in
      (b, test, q, subst (λ (z : ℕ). HasOwn own z test) (same_class t x a r p ∙ e) has, g)
  shown d (like_variant {s = t} {u = u} {ty = ty} {k = v} {n = n} {i = i} h k l) =
      let (a, b, p, q, e) = shown (equal t u) h in let (x, test, r, has, g) = shown (constrained t (variant_constraint ty v n)) k in
      like_fields t u a b test (Some v) i p q e (subst (λ (z : ℕ). HasOwn own z test) (same_class t x a r p) has)
      (of_variant_test name test ty v n i g l)
  shown d (like_struct {s = t} {u = u} {ty = ty} {n = n} {i = i} h k l) =
      let (a, b, p, q, e) = shown (equal t u) h in let (x, test, r, has, g) = shown (constrained t (struct_constraint ty n)) k in
      like_fields t u a b test None i p q e (subst (λ (z : ℕ). HasOwn own z test) (same_class t x a r p) has) (of_struct_test name test ty n i g l)

  -- the field of a site that stands, under its class's test
  has_field : (t : Site) (a : ℕ) (c : Constraint) (kind : Option ℕ) (i : ℕ) → At (rows_of name table) t a → HasOwn own (get_or class a 0) c
      → Opens c kind i → Stands (rows_of name table) (field_site kind t i)
  has_field t a c kind i p has opens =
      let (f, e) = full a (at_below name table t a p) kind i (c, has, opens) in (f, field_at name table kind a i f t e p)

  pub has_all_fields : HasAllFields D (rows_of name table)
  has_all_fields t u (of_variant {ty = ty} {k = v} {n = n} {i = i} d l) =
      let (a, c, p, has, e) = shown (constrained t (variant_constraint ty v n)) d in
      has_field t a c (Some v) i p has (of_variant_test name c ty v n i e l)
  has_all_fields t u (of_struct {ty = ty} {n = n} {i = i} d l) =
      let (a, c, p, has, e) = shown (constrained t (struct_constraint ty n)) d in has_field t a c None i p has (of_struct_test name c ty n i e l)
