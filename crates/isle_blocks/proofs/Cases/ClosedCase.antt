-- The rule (f x x): its arguments must be equal, and nothing is tested.
use Rattle.std.proofs.Common.{◌≡◌, ◌≢◌, ◌≤◌, ◌⊎◌, ℕ, length, zero, suc, List, [], ◌∷◌, Contains, refl, sym, subst, ◌∙◌, inl, inr, arith}
use Rattle.std.specs.Prelude.{IsTrue}
use Rattle.std.specs.List.{All, IsDistinct}
use Rattle.isle_containers.specs.JoinedSets.{AreDisjoint, are_joined, members}
use Rattle.isle_types.specs.declared.ids.Sym.{Sym}
use Rattle.isle_meaning.specs.Sites.{Site, argument}
use Rattle.isle_meaning.specs.Demands.{Demand, constrained, equal, Among}
use Rattle.isle_meaning.specs.Demands as meaning
use Rattle.isle_meaning.specs.Derived.{Derived, Closed, demanded, flipped, chained, shared, like_variant, like_struct}
use Rattle.isle_meaning.specs.Numbered.{Row, At, argument_row}
use Rattle.isle_blocks.specs.declared.ids.BindingId.{BindingId}
use Rattle.isle_blocks.specs.ClosedRules.{AreDerived, AreLeftEqual, same_site}
use Rattle.isle_blocks.proofs.ClosedEqualities.{in_one}

abbrev wanted : List Demand
wanted = equal (argument 0) (argument 1) ∷ []

abbrev table : List Row
table = argument_row 0 ∷ argument_row 1 ∷ []

abbrev first_id : BindingId
first_id = record { 0 = 0 }

abbrev second_id : BindingId
second_id = record { 0 = 1 }

abbrev one_set : List BindingId
one_set = first_id ∷ second_id ∷ []

abbrev IsArgument : Site → Type 0
IsArgument s = (s ≡ argument 0) ⊎ (s ≡ argument 1)

abbrev Says : Demand → Type 0
Says (constrained s c) = ⊥
Says (equal s u) = IsArgument s × IsArgument u

-- only equalities of the arguments are derived
said : (d : Demand) → Derived (Among wanted) d → Says d
said d (demanded (inl e)) = subst Says (sym e) (inl refl, inr refl)
said d (demanded (inr none)) = absurd none
said d (flipped {s} {u} h) = let (p, q) = said (equal s u) h in (q, p)
said d (chained {s} {u} {w} h g) = ((said (equal s u) h).0, (said (equal u w) g).1)
said d (shared {s} {u} {c} h g) = absurd (said (constrained s c) g)
said d (like_variant {s} {u} {ty} {k} {n} {i} h g lt) = absurd (said (constrained s (meaning.variant_constraint ty k n)) g)
said d (like_struct {s} {u} {ty} {n} {i} h g lt) = absurd (said (constrained s (meaning.struct_constraint ty n)) g)

-- one of the two
member : (x : BindingId) → Contains one_set x → (x ≡ first_id) ⊎ (x ≡ second_id)
member x (zero, within, is) = inl (sym is)
member x (suc zero, within, is) = inr (sym is)
member x (suc (suc k), within, is) = absurd (omega arith)

set_is : (set : List BindingId) → Contains (one_set ∷ []) set → one_set ≡ set
set_is set (zero, within, is) = is
set_is set (suc k, within, is) = absurd (omega arith)

apart : argument 0 ≢ argument 1
apart e = absurd cc

in_order : Closed (Among wanted) (equal (argument 0) (argument 1))
in_order = (demanded (inl refl), apart, λ c h. said (constrained (argument 0) c) h)

turned : Closed (Among wanted) (equal (argument 1) (argument 0))
turned = (flipped (demanded (inl refl)), λ e. apart (sym e), λ c h. said (constrained (argument 1) c) h)

abbrev Left : BindingId → BindingId → Type 0
Left x y = (s : Site) × (u : Site) × At table s x.0 × At table u y.0 × Closed (Among wanted) (equal s u)

left_of : (x y : BindingId) → (x ≡ first_id) ⊎ (x ≡ second_id) → (y ≡ first_id) ⊎ (y ≡ second_id) → x ≢ y → Left x y
left_of x y (inl e) (inl f) other = absurd (other (e ∙ sym f))
left_of x y (inl e) (inr f) other = subst (λ v. Left v y) (sym e) (subst (Left first_id) (sym f) (argument 0, argument 1, refl, refl, in_order))
left_of x y (inr e) (inl f) other = subst (λ v. Left v y) (sym e) (subst (Left second_id) (sym f) (argument 1, argument 0, refl, refl, turned))
left_of x y (inr e) (inr f) other = absurd (other (e ∙ sym f))

abbrev Numbered : Site → Site → Type 0
Numbered s u = (x : BindingId) × (y : BindingId) × At table s x.0 × At table u y.0 × IsTrue (are_joined same_site (one_set ∷ []) x y)

numbered : (s u : Site) → IsArgument s → IsArgument u → s ≢ u → Numbered s u
numbered s u (inl e) (inl f) other = absurd (other (e ∙ sym f))
numbered s u (inl e) (inr f) other = subst (λ v. Numbered v u) (sym e) (subst (Numbered (argument 0)) (sym f) (first_id, second_id, refl, refl, refl))
numbered s u (inr e) (inl f) other = subst (λ v. Numbered v u) (sym e) (subst (Numbered (argument 1)) (sym f) (second_id, first_id, refl, refl, refl))
numbered s u (inr e) (inr f) other = absurd (other (e ∙ sym f))

pub arguments_left_equal : AreLeftEqual table (Among wanted) (one_set ∷ [])
arguments_left_equal = record {
  left = λ x y other joined.
      let r = in_one (one_set ∷ []) x y joined in
      let same = set_is r.set r.stands in
      let p : Contains one_set x = subst (λ l. Contains l x) (sym same) r.first in
      let q : Contains one_set y = subst (λ l. Contains l y) (sym same) r.second in
      left_of x y (member x p) (member y q) other;
  all = λ s u closed. let (p, q) = said (equal s u) closed.0 in numbered s u p q closed.1;
}

pub nothing_tested : (name : Sym → List ℕ) → AreDerived name table (Among wanted) []
nothing_tested name = record {
  derived = λ id test h. let (k, within, is) = h in absurd (omega arith);
  all = λ s c h. absurd (said (constrained s c) h);
}

long : All (λ set. 2 ≤ length set) (one_set ∷ [])
long zero d lt = omega arith
long (suc k) d lt = absurd (omega arith)

distinct : IsDistinct same_site (members (one_set ∷ []))
unfolding IsDistinct
distinct = ((refl, tt), (tt, tt))

pub set_disjoint : AreDisjoint same_site (one_set ∷ [])
set_disjoint = record { at_least_two = long; distinct = distinct }
