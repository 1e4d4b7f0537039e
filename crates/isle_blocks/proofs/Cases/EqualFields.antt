-- What follows from the rule (f x @ (A.V _ _) x): its arguments are equal, and so are their fields.
use Rattle.std.proofs.Common.{◌≡◌, ◌<◌, inl, inr, ℕ, zero, suc, List, [], ◌∷◌, refl, sym, ap, subst, ◌∙◌, arith}
use Rattle.isle_meaning.specs.Sites.{Site, argument, match_variant}
use Rattle.isle_meaning.specs.Demands.{Demand, constrained, equal, variant_constraint, struct_constraint, Among}
use Rattle.isle_meaning.specs.Demands as meaning
use Rattle.isle_meaning.specs.Derived.{Derived, demanded, flipped, chained, shared, like_variant, like_struct, AreEqual}
use Rattle.isle_meaning.specs.Derived.{FieldOf, of_variant, of_struct, Inside, directly, further_in}
use Rattle.isle_meaning.specs.Faults.{IsUnreachable}
use Rattle.isle_meaning.specs.Numbered.{Row, argument_row, match_variant_row}
use Rattle.isle_blocks.specs.Closure.{Stands}
use Rattle.isle_blocks.proofs.Cases.MissingFields.{wanted}

abbrev pub D : Demand → Type 0
D = Among wanted

-- the table's entries
abbrev pub rows : List Row
rows = argument_row 0 ∷ match_variant_row 0 1 0 ∷ match_variant_row 0 1 1 ∷ argument_row 1 ∷ match_variant_row 3 1 0 ∷ match_variant_row 3 1 1 ∷ []

abbrev pub the_test : meaning.Constraint
the_test = variant_constraint 13 1 2

-- the class of a site: both arguments are of class 0, their first fields of class 1, their second ones of class 2
abbrev pub IsOf : Site → ℕ → Type 0
IsOf (argument i) k = (i < 2) × (k ≡ 0)
IsOf (match_variant (argument i) v j) k = (i < 2) × (v ≡ 1) × (j < 2) × (k ≡ suc j)
IsOf _ k = ⊥

abbrev pub Says : Demand → Type 0
Says (constrained s c) = IsOf s 0 × (c ≡ the_test)
Says (equal s u) = (k : ℕ) × IsOf s k × IsOf u k

pub one_class : (s : Site) (k l : ℕ) → IsOf s k → IsOf s l → k ≡ l
one_class (argument i) k l (p, e) (q, f) = e ∙ sym f
one_class (match_variant (argument i) v j) k l (p, x, low, e) (q, y, low', f) = e ∙ sym f
one_class s k l p q = absurd p

field_of : (s : Site) (v i : ℕ) → IsOf s 0 → v ≡ 1 → i < 2 → IsOf (match_variant s v i) (suc i)
field_of (argument a) v i (p, e) is low = (p, is, low, refl)
field_of (match_variant (argument a) w j) v i (p, x, low', e) is low = absurd (omega arith)
field_of s v i p is low = absurd p

-- what follows speaks of these sites alone
pub said : (d : Demand) → Derived D d → Says d
said d (demanded (inl e)) = subst Says (sym e) ((omega arith, refl), refl)
said d (demanded (inr (inl e))) = subst Says (sym e) (0, (omega arith, refl), (omega arith, refl))
said d (demanded (inr (inr none))) = absurd none
said d (flipped {s} {u} h) = let (k, p, q) = said (equal s u) h in (k, q, p)
said d (chained {s} {u} {w} h g) =
    let (k, p, q) = said (equal s u) h in let (l, r, t) = said (equal u w) g in (l, subst (λ (m : ℕ). IsOf s m) (one_class u k l q r) p, t)
said d (shared {s} {u} {c} h g) =
    let (k, p, q) = said (equal s u) h in let (r, is) = said (constrained s c) g in (subst (λ (m : ℕ). IsOf u m) (one_class s k 0 p r) q, is)
said d (like_variant {s = s} {u = u} {ty = ty} {k = v} {n = n} {i = i} h g lt) =
    let (k, p, q) = said (equal s u) h in let (r, is) = said (constrained s (variant_constraint ty v n)) g in
    let which : v ≡ 1 = cc in let few : n ≡ 2 = cc in let low : i < 2 = omega arith in
    (suc i, field_of s v i r which low, field_of u v i (subst (λ (m : ℕ). IsOf u m) (one_class s k 0 p r) q) which low)
said d (like_struct {s} {u} {ty} {n} {i} h g lt) = let (r, is) = said (constrained s (struct_constraint ty n)) g in absurd cc

pub tested : (i : ℕ) → i < 2 → Derived D (constrained (argument i) the_test)
tested zero low = demanded (inl refl)
tested (suc zero) low = shared (flipped (demanded (inr (inl refl)))) (demanded (inl refl))
tested (suc (suc i)) low = absurd (omega arith)

arguments_equal : (i j : ℕ) → i < 2 → j < 2 → AreEqual D (argument i) (argument j)
arguments_equal zero zero p q = inl refl
arguments_equal zero (suc zero) p q = inr (flipped (demanded (inr (inl refl))))
arguments_equal (suc zero) zero p q = inr (demanded (inr (inl refl)))
arguments_equal (suc zero) (suc zero) p q = inl refl
arguments_equal (suc (suc i)) j p q = absurd (omega arith)
arguments_equal i (suc (suc j)) p q = absurd (omega arith)

fields_equal : (i j a : ℕ) → i < 2 → j < 2 → a < 2 → AreEqual D (match_variant (argument i) 1 a) (match_variant (argument j) 1 a)
fields_equal i j a p q low = elim (arguments_equal i j p q) [
  | inl e ↦ inl (ap (λ (s : Site). match_variant s 1 a) e)
  | inr h ↦ inr (like_variant h (tested i p) low)
]

-- sites of one class are equal
pub alike : (s u : Site) (k : ℕ) → IsOf s k → IsOf u k → AreEqual D s u
alike (argument i) (argument j) k (p, e) (q, f) = arguments_equal i j p q
alike (match_variant (argument i) v a) (match_variant (argument j) w b) k (p, x, low, e) (q, y, low', f) =
    let same : b ≡ a = omega arith in rw (x, y, same) (fields_equal i j a p q low)
alike (argument i) (match_variant (argument j) w b) k (p, e) (q, y, low, f) = absurd (omega arith)
alike (match_variant (argument i) v a) (argument j) k (p, x, low, e) (q, f) = absurd (omega arith)
alike (argument i) u k p q = absurd q
alike (match_variant (argument i) v a) u k p q = absurd q
alike s u k p q = absurd p

pub fielded : (s u : Site) → FieldOf D s u → IsOf s 0 × ((i : ℕ) × IsOf u (suc i))
fielded s u (of_variant {ty = ty} {k = v} {n = n} {i = i} h lt) =
    let (r, is) = said (constrained s (variant_constraint ty v n)) h in
    let which : v ≡ 1 = cc in let few : n ≡ 2 = cc in let low : i < 2 = omega arith in (r, (i, field_of s v i r which low))
fielded s u (of_struct {ty = ty} {n = n} h lt) = let (r, is) = said (constrained s (struct_constraint ty n)) h in absurd cc

inside : (s u : Site) → Inside D s u → IsOf s 0 × ((i : ℕ) × IsOf u (suc i))
inside s u (directly f) = fielded s u f
inside s u (further_in {u = t} deep f) = ((inside s t deep).0, (fielded t u f).1)

pub reachable : IsUnreachable D → ⊥
reachable (inl x) = x.differ ((said (constrained x.site x.one) x.has_one).1 ∙ sym (said (constrained x.site x.other) x.has_other).1)
reachable (inr x) =
    let h = inside x.site x.part x.inside in let (k, r, t) = said (equal x.site x.part) x.same in
    let e : k ≡ 0 = one_class x.site k 0 r (h.0) in
    let f : k ≡ suc (h.1.0) = one_class x.part k (suc (h.1.0)) t (h.1.1) in absurd (omega arith)

pub stands : (s : Site) (k : ℕ) → IsOf s k → Stands rows s
stands (argument zero) k p = (0, refl)
stands (argument (suc zero)) k p = (3, refl)
stands (argument (suc (suc i))) k (p, e) = absurd (omega arith)
stands (match_variant (argument zero) v zero) k (p, x, low, e) = (1, (0, (cc), refl))
stands (match_variant (argument zero) v (suc zero)) k (p, x, low, e) = (2, (0, (cc), refl))
stands (match_variant (argument (suc zero)) v zero) k (p, x, low, e) = (4, (3, (cc), refl))
stands (match_variant (argument (suc zero)) v (suc zero)) k (p, x, low, e) = (5, (3, (cc), refl))
stands (match_variant (argument (suc (suc i))) v j) k (p, x, low, e) = absurd (omega arith)
stands (match_variant (argument i) v (suc (suc j))) k (p, x, low, e) = absurd (omega arith)
stands s k p = absurd p
