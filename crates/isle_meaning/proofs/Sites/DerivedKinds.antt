-- What follows from a rule's demands, and the fields that it opens, are of their kinds.
use Rattle.std.proofs.Common.{ℕ, List, Bool, true, false}
use Rattle.isle_meaning.specs.Facts.{TermFacts}
use Rattle.isle_meaning.specs.Sites.{Site}
use Rattle.isle_meaning.specs.Demands.{Demand, constrained, equal, variant_constraint, struct_constraint}
use Rattle.isle_meaning.specs.Derived.{Derived, demanded, flipped, chained, shared, like_variant, like_struct, FieldOf, of_variant}
use Rattle.isle_meaning.specs.Derived.{of_struct}
use Rattle.isle_meaning.specs.Sorts.{AllSuit}
use Rattle.isle_meaning.proofs.Matching.Closing.{derived_suits}
use Rattle.isle_meaning.specs.AboutSites.Kinds.{HasItsKind, IsOfItsKind}
use Rattle.isle_meaning.specs.Demands.{DemandOf}
use Rattle.isle_meaning.specs.Laws.Sites.{RulesAreKinded}
use Rattle.isle_meaning.specs.Laws.Elaborated.{ElaboratedAreKinded}
use Rattle.isle_meaning.proofs.Sites.Kinded.{rule_seen, any_seen}

module _ (several : Bool) (facts : TermFacts) (tys : List ℕ) (D : Demand → Type 0) (suit : AllSuit facts tys D)
    (fit : (d : Demand) → D d → IsOfItsKind several facts tys d) where
  -- What is derived is of its kind.
  pub derived_kinded : (d : Demand) → Derived D d → IsOfItsKind several facts tys d
  derived_kinded d (demanded h) = fit d h
  derived_kinded d (flipped {s = s} {u = u} h) = let g = derived_kinded (equal s u) h in (g.1, g.0)
  derived_kinded d (chained {s = s} {u = u} {w = w} h k) =
      let g = derived_kinded (equal s u) h in let f = derived_kinded (equal u w) k in (g.0, f.1)
  derived_kinded d (shared {s = s} {u = u} {c = c} h k) =
      let g = derived_kinded (equal s u) h in let f = derived_kinded (constrained s c) k in (g.1, f.1)
  derived_kinded d (like_variant {s = s} {u = u} {ty = t} {k = k} {n = n} {i = i} h g l) =
      let f = derived_kinded (equal s u) h in let (ty, p, q) = derived_suits facts tys D suit (equal s u) h in
      ((f.0, (ty, p)), (f.1, (ty, q)))
  derived_kinded d (like_struct {s = s} {u = u} {ty = t} {n = n} {i = i} h g l) =
      let f = derived_kinded (equal s u) h in let (ty, p, q) = derived_suits facts tys D suit (equal s u) h in
      ((f.0, (ty, p)), (f.1, (ty, q)))

  -- So is a field.
  pub field_kinded : (t s : Site) → FieldOf D t s → HasItsKind several facts tys s
  field_kinded t s (of_variant {ty = ty} {k = k} {n = n} {i = i} h l) =
      let c = constrained t (variant_constraint ty k n) in ((derived_kinded c h).0, (ty, derived_suits facts tys D suit c h))
  field_kinded t s (of_struct {ty = ty} {n = n} {i = i} h l) =
      let c = constrained t (struct_constraint ty n) in ((derived_kinded c h).0, (ty, derived_suits facts tys D suit c h))

pub rules_are_kinded : RulesAreKinded
rules_are_kinded facts tys rule is =
    let seen = rule_seen facts tys rule is in
    let D = DemandOf facts rule in
    let suit : AllSuit facts tys D = λ d h. (seen.2 d h).1 in
    record {
      needed = seen.0;
      result = seen.1;
      fields = field_kinded false facts tys D suit (λ d h. (seen.2 d h).0);
      demands = derived_kinded false facts tys D suit (λ d h. (seen.2 d h).0);
    }

pub elaborated_are_kinded : ElaboratedAreKinded
elaborated_are_kinded facts tys rule is =
    let seen = any_seen facts tys rule is in
    let D = DemandOf facts rule in
    let suit : AllSuit facts tys D = λ d h. (seen.2 d h).1 in
    record {
      needed = seen.0;
      result = seen.1;
      fields = field_kinded true facts tys D suit (λ d h. (seen.2 d h).0);
      demands = derived_kinded true facts tys D suit (λ d h. (seen.2 d h).0);
      suit = derived_suits facts tys D suit;
    }
