-- The closure of what the rule (f x @ (A.V _ _) x) demands: the table with the fields of both arguments.
use Rattle.std.proofs.Common.{◌≡◌, ◌<◌, ◌≤◌, inl, inr, ℕ, zero, suc, List, [], ◌∷◌, Option, None, Some, slice_get, slice_index, Contains}
use Rattle.std.proofs.Common.{slice_index_or, refl, sym, ap, subst, ◌∙◌, arith}
use Rattle.isle_containers.proofs.Lists.{slice_get-kept}
use Rattle.isle_types.specs.declared.ids.Sym.{Sym}
use Rattle.isle_meaning.specs.Sites.{Site, argument, match_variant}
use Rattle.isle_meaning.specs.Demands.{constrained, equal}
use Rattle.isle_meaning.specs.Demands as meaning
use Rattle.isle_meaning.specs.Derived.{Derived, AreEqual, FieldOf, of_variant}
use Rattle.isle_meaning.specs.Numbered.{Row, argument_row, match_variant_row, At}
use Rattle.isle_meaning.proofs.Matching.Numbering.{one_site}
use Rattle.isle_blocks.specs.declared.binding.Binding.{Binding}
use Rattle.isle_blocks.specs.declared.constraint.Constraint.{Constraint}
use Rattle.isle_blocks.specs.declared.ids.BindingId.{BindingId}
use Rattle.isle_blocks.specs.Tables.{sources_of}
use Rattle.isle_blocks.specs.Rows.{test_of, rows_of}
use Rattle.isle_blocks.specs.Inside.ClosureStates.{HasOwn}
use Rattle.isle_blocks.specs.Closure.{HasAllFields, IsClosure}
use Rattle.isle_blocks.proofs.Building.Tables.{at_within}
use Rattle.isle_blocks.proofs.Cases.MissingFields.{v_field, old, table, test, classes, placed}
use Rattle.isle_blocks.proofs.Cases.EqualFields.{D, rows, the_test, IsOf, one_class, said, tested, alike, fielded, reachable, stands}

-- each site's test
abbrev each : List (Option Constraint)
each = Some test ∷ None ∷ None ∷ Some test ∷ None ∷ None ∷ []

abbrev id : ℕ → BindingId
id k = record { 0 = k }

-- each field stands behind its argument
abbrev sources_at : Option Binding → List BindingId
sources_at None = []
sources_at (Some site) = sources_of site

no_part : (parts : List BindingId) (part : BindingId) → [] ≡ parts → Contains parts part → ⊥
no_part [] part e (k, within, is) = omega arith
no_part (x ∷ xs) part e h = absurd cc

only : (x part : BindingId) → Contains (x ∷ []) part → x ≡ part
only x part (zero, within, is) = is
only x part (suc k, within, is) = absurd (omega arith)

lone_part : (source k : ℕ) (parts : List BindingId) (part : BindingId) → id source ∷ [] ≡ parts → source < k → Contains parts part → part.0 < k
lone_part source k parts part e low h =
    let one : id source ≡ part = only (id source) part (subst (λ (l : List BindingId). Contains l part) (sym e) h) in
    let same : source ≡ part.0 = ap (λ (x : BindingId). x.0) one in omega arith

earlier : (k : ℕ) (site : Binding) (part : BindingId) → slice_get table k ≡ Some site → Contains (sources_of site) part → part.0 < k
earlier zero site part e h = absurd (no_part (sources_of site) part (ap sources_at e) h)
earlier (suc zero) site part e h = lone_part 0 1 (sources_of site) part (ap sources_at e) (omega arith) h
earlier (suc (suc zero)) site part e h = lone_part 0 2 (sources_of site) part (ap sources_at e) (omega arith) h
earlier (suc (suc (suc zero))) site part e h = absurd (no_part (sources_of site) part (ap sources_at e) h)
earlier (suc (suc (suc (suc zero)))) site part e h = lone_part 3 4 (sources_of site) part (ap sources_at e) (omega arith) h
earlier (suc (suc (suc (suc (suc zero))))) site part e h = lone_part 3 5 (sources_of site) part (ap sources_at e) (omega arith) h
earlier (suc (suc (suc (suc (suc (suc k)))))) site part e h = absurd cc

-- the class of the site at a place
class_at : (k : ℕ) (s : Site) → At rows s k → k < 6 → IsOf s (slice_index classes k)
class_at zero s p low = subst (λ (z : Site). IsOf z 0) (one_site rows (argument 0) s 0 refl p) (omega arith, refl)
class_at (suc zero) s p low =
    subst (λ (z : Site). IsOf z 1) (one_site rows (match_variant (argument 0) 1 0) s 1 (0, refl, refl) p) (omega arith, refl, omega arith, refl)
class_at (suc (suc zero)) s p low =
    subst (λ (z : Site). IsOf z 2) (one_site rows (match_variant (argument 0) 1 1) s 2 (0, refl, refl) p) (omega arith, refl, omega arith, refl)
class_at (suc (suc (suc zero))) s p low = subst (λ (z : Site). IsOf z 0) (one_site rows (argument 1) s 3 refl p) (omega arith, refl)
class_at (suc (suc (suc (suc zero)))) s p low =
    subst (λ (z : Site). IsOf z 1) (one_site rows (match_variant (argument 1) 1 0) s 4 (3, refl, refl) p) (omega arith, refl, omega arith, refl)
class_at (suc (suc (suc (suc (suc zero))))) s p low =
    subst (λ (z : Site). IsOf z 2) (one_site rows (match_variant (argument 1) 1 1) s 5 (3, refl, refl) p) (omega arith, refl, omega arith, refl)
class_at (suc (suc (suc (suc (suc (suc k)))))) s p low = absurd (omega arith)

class_of : (k : ℕ) (s : Site) → At rows s k → IsOf s (slice_index classes k)
class_of k s p = class_at k s p (at_within rows s k p)

-- classes and tests, place by place
class_below : (k : ℕ) → k < 6 → slice_index classes k < 6
class_below zero low = omega arith
class_below (suc zero) low = omega arith
class_below (suc (suc zero)) low = omega arith
class_below (suc (suc (suc zero))) low = omega arith
class_below (suc (suc (suc (suc zero)))) low = omega arith
class_below (suc (suc (suc (suc (suc zero))))) low = omega arith
class_below (suc (suc (suc (suc (suc (suc k)))))) low = absurd (omega arith)

class_flat : (k : ℕ) → k < 6 → slice_index classes (slice_index classes k) ≡ slice_index classes k
class_flat zero low = refl
class_flat (suc zero) low = refl
class_flat (suc (suc zero)) low = refl
class_flat (suc (suc (suc zero))) low = refl
class_flat (suc (suc (suc (suc zero)))) low = refl
class_flat (suc (suc (suc (suc (suc zero))))) low = refl
class_flat (suc (suc (suc (suc (suc (suc k)))))) low = absurd (omega arith)

class_test : (k : ℕ) → k < 6 → slice_index_or each k None ≡ slice_index_or each (slice_index classes k) None
class_test zero low = refl
class_test (suc zero) low = refl
class_test (suc (suc zero)) low = refl
class_test (suc (suc (suc zero))) low = refl
class_test (suc (suc (suc (suc zero)))) low = refl
class_test (suc (suc (suc (suc (suc zero))))) low = refl
class_test (suc (suc (suc (suc (suc (suc k)))))) low = absurd (omega arith)

-- the sites of class 0 have the test
has_test : (k : ℕ) → k < 6 → slice_index classes k ≡ 0 → HasOwn each k test
has_test zero low e = refl
has_test (suc zero) low e = absurd (omega arith)
has_test (suc (suc zero)) low e = absurd (omega arith)
has_test (suc (suc (suc zero))) low e = refl
has_test (suc (suc (suc (suc zero)))) low e = absurd (omega arith)
has_test (suc (suc (suc (suc (suc zero))))) low e = absurd (omega arith)
has_test (suc (suc (suc (suc (suc (suc k)))))) low e = absurd (omega arith)

its_test : (k : ℕ) (c : Constraint) → HasOwn each k c → (slice_index classes k ≡ 0) × (test ≡ c)
its_test zero c e = (refl, (cc))
its_test (suc zero) c e = absurd cc
its_test (suc (suc zero)) c e = absurd cc
its_test (suc (suc (suc zero))) c e = (refl, (cc))
its_test (suc (suc (suc (suc zero)))) c e = absurd cc
its_test (suc (suc (suc (suc (suc zero))))) c e = absurd cc
its_test (suc (suc (suc (suc (suc (suc k)))))) c e = absurd cc

tested_site : (s : Site) → IsOf s 0 → Derived D (constrained s the_test)
tested_site (argument i) (p, e) = tested i p
tested_site (match_variant (argument i) v j) (p, x, low, e) = absurd (omega arith)
tested_site s p = absurd p

-- the fields of the second argument are new
new_site : (k : ℕ) → 4 ≤ k → k < 6 → (s : Site) × (u : Site) × FieldOf D s u × At rows u k
new_site zero high low = absurd (omega arith)
new_site (suc zero) high low = absurd (omega arith)
new_site (suc (suc zero)) high low = absurd (omega arith)
new_site (suc (suc (suc zero))) high low = absurd (omega arith)
new_site (suc (suc (suc (suc zero)))) high low =
    (argument 1, match_variant (argument 1) 1 0, of_variant (tested 1 (omega arith)) (omega arith), (3, refl, refl))
new_site (suc (suc (suc (suc (suc zero))))) high low =
    (argument 1, match_variant (argument 1) 1 1, of_variant (tested 1 (omega arith)) (omega arith), (3, refl, refl))
new_site (suc (suc (suc (suc (suc (suc k)))))) high low = absurd (omega arith)

same_class : (a b : ℕ) (s u : Site) → At rows s a → At rows u b → AreEqual D s u → slice_index classes a ≡ slice_index classes b
same_class a b s u p q (inl e) = one_class u _ _ (subst (λ (z : Site). IsOf z (slice_index classes a)) e (class_of a s p)) (class_of b u q)
same_class a b s u p q (inr h) =
    let (k, r, t) = said (equal s u) h in one_class s _ k (class_of a s p) r ∙ one_class u k _ t (class_of b u q)

pub closure : (name : Sym → List ℕ) → IsClosure name D old table each classes
closure name = record {
  reachable = reachable;
  sites = record { earlier = earlier; once = λ site j k e f. sym (placed j site e) ∙ placed k site f };
  kept = λ k site e. slice_get-kept old (v_field 3 0 ∷ v_field 3 1 ∷ []) k site e;
  added = new_site;
  fields = λ s u f. let h = fielded s u f in stands u (suc (h.1.0)) (h.1.1);
  each_fits = refl;
  classes = record { fits = refl; below = class_below; flat = class_flat };
  class_tests = class_test;
  tested = λ k s d p. (
    λ (c, own, is). let (zero_class, same) = its_test k c own in
        subst (λ (z : meaning.Constraint). Derived D (constrained s z)) (ap (test_of name) same ∙ is)
        (tested_site s (subst (λ (l : ℕ). IsOf s l) zero_class (class_of k s p))),
    λ h. let (r, is) = said (constrained s d) h in
        (test, has_test k (at_within rows s k p) (one_class s _ 0 (class_of k s p) r), sym is),
  );
  same = λ a b s u p q. (
    λ e. alike s u _ (class_of a s p) (subst (λ (l : ℕ). IsOf u l) (sym e) (class_of b u q)),
    λ e. same_class a b s u p q e,
  );
  all_tested = λ s d h. stands s 0 (said (constrained s d) h).0;
  all_same = λ s u h. let (k, p, q) = said (equal s u) h in (stands s k p, stands u k q);
}

-- without those fields the table isn't closed
abbrev old_rows : List Row
old_rows = argument_row 0 ∷ match_variant_row 0 1 0 ∷ match_variant_row 0 1 1 ∷ argument_row 1 ∷ []

lacking : (k j : ℕ) → slice_get old_rows k ≡ Some (match_variant_row j 1 0) → slice_get old_rows j ≡ Some (argument_row 1) → ⊥
lacking zero j e f = cc
lacking (suc zero) j e f =
    let source : j ≡ 0 = cc in
    let first : Some (argument_row 0) ≡ Some (argument_row 1) = subst (λ (i : ℕ). slice_get old_rows i ≡ Some (argument_row 1)) source f in cc
lacking (suc (suc zero)) j e f = cc
lacking (suc (suc (suc zero))) j e f = cc
lacking (suc (suc (suc (suc k)))) j e f = cc

pub not_closed : (name : Sym → List ℕ) → HasAllFields D (rows_of name old) → ⊥
not_closed name all =
    let (k, at) = all (argument 1) (match_variant (argument 1) 1 0) (of_variant (tested 1 (omega arith)) (omega arith)) in
    lacking k (at.0) (at.1) (at.2)
