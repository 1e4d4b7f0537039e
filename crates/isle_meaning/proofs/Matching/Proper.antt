-- Where demands hold, equalities of a site with itself aside, all that follows from them does.
use Rattle.std.proofs.Common.{◌≡◌, ◌≢◌, ◌⊎◌, inl, inr, ℕ, List, refl, sym, ◌∙◌, ap, subst}
use Rattle.isle_meaning.specs.Got.{Got, unknown, fails, gives}
use Rattle.isle_meaning.specs.Sites.{Site, match_variant, extract_struct}
use Rattle.isle_meaning.specs.Held.{Held}
use Rattle.isle_meaning.specs.Demands.{variant_constraint, struct_constraint, Demand, constrained, equal}
use Rattle.isle_meaning.specs.Derived.{Derived, demanded, flipped, chained, shared, like_variant, like_struct, Closed, FieldOf, of_variant}
use Rattle.isle_meaning.specs.Derived.{of_struct, Inside, directly, further_in}
use Rattle.isle_meaning.specs.Holds.{Holds, IsProper, Respects}
use Rattle.isle_meaning.specs.Facts.{TermFacts}
use Rattle.isle_meaning.specs.Faults.{IsUnreachable}
use Rattle.isle_meaning.specs.Sorts.{AllSuit}
use Rattle.isle_meaning.proofs.Matching.Closing.{derived_holds, is_reachable}
use Rattle.isle_meaning.proofs.Matching.Leaving.{inside_apart}
use Rattle.isle_meaning.proofs.Matching.Deciding.{stable}

module _ (val : Site → Got Held) (respects : Respects val) (D : Demand → Type 0) (holds : (d : Demand) → D d → IsProper d → Holds val d) where
  -- one of two demands
  abbrev OneOf : Demand → Demand → Demand → Type 0
  OneOf d e f = (f ≡ d) ⊎ (f ≡ e)

  -- each of two that hold does
  both_hold : (d e : Demand) → Holds val d → Holds val e → (f : Demand) → OneOf d e f → Holds val f
  both_hold d e h g f (inl p) = subst (Holds val) (sym p) h
  both_hold d e h g f (inr p) = subst (Holds val) (sym p) g

  -- the second of two sites holds what the first does, where that follows if they differ
  second_holds : (s u : Site) (x : Held) → val s ≡ gives x → (s ≢ u → Holds val (equal s u)) → val u ≡ gives x
  second_holds s u x e f = stable (val u) x (λ m.
      let (y, p, q) = f (λ z. m (subst (λ (w : Site). val w ≡ gives x) z e)) in
      let r : y ≡ x = cc in m (subst (λ (w : Held). val u ≡ gives w) r q))

  -- the first of a chain of two holds something
  chain_held : (s u w : Site) → s ≢ w → (s ≢ u → Holds val (equal s u)) → (u ≢ w → Holds val (equal u w)) → (g : Got Held) → val s ≡ g
      → ((x : Held) → g ≡ gives x → ⊥) → ⊥
  chain_held s u w n f k g e none =
      let apart : s ≢ u = λ z. (let (x, p, q) = k (λ y. n (z ∙ y)) in none x (sym e ∙ ap val z ∙ p)) in
      let (x, p, q) = f apart in none x (sym e ∙ p)

  -- a chain of two
  chain_holds : (s u w : Site) → s ≢ w → (s ≢ u → Holds val (equal s u)) → (u ≢ w → Holds val (equal u w)) → (g : Got Held) → val s ≡ g
      → Holds val (equal s w)
  chain_holds s u w n f k unknown e = absurd (chain_held s u w n f k unknown e (λ x p. cc))
  chain_holds s u w n f k fails e = absurd (chain_held s u w n f k fails e (λ x p. cc))
  chain_holds s u w n f k (gives x) e = let p = second_holds s u x e f in (x, e, second_holds u w x p k)

  -- What is derived holds, equalities of a site with itself aside.
  pub derived_holds_proper : (d : Demand) → Derived D d → IsProper d → Holds val d
  derived_holds_proper d (demanded h) n = holds d h n
  derived_holds_proper d (flipped {s = s} {u = u} h) n =
      let (x, e, g) = derived_holds_proper (equal s u) h (λ p. n (sym p)) in (x, g, e)
  derived_holds_proper d (chained {s = s} {u = u} {w = w} h k) n =
      chain_holds s u w n (derived_holds_proper (equal s u) h) (derived_holds_proper (equal u w) k) (val s) refl
  derived_holds_proper d (shared {s = s} {u = u} {c = c} h k) n =
      let (x, e, m) = derived_holds_proper (constrained s c) k tt in (x, second_holds s u x e (derived_holds_proper (equal s u) h), m)
  derived_holds_proper d (like_variant {s = s} {u = u} {ty = ty} {k = k} {n = j} {i = i} h g l) n =
      let one = equal s u in let two = constrained s (variant_constraint ty k j) in
      derived_holds val respects (OneOf one two)
      (both_hold one two (derived_holds_proper one h (λ p. n (ap (λ (z : Site). match_variant z k i) p))) (derived_holds_proper two g tt))
      (equal (match_variant s k i) (match_variant u k i)) (like_variant (demanded (inl refl)) (demanded (inr refl)) l)
  derived_holds_proper d (like_struct {s = s} {u = u} {ty = ty} {n = j} {i = i} h g l) n =
      let one = equal s u in let two = constrained s (struct_constraint ty j) in
      derived_holds val respects (OneOf one two)
      (both_hold one two (derived_holds_proper one h (λ p. n (ap (λ (z : Site). extract_struct z i) p))) (derived_holds_proper two g tt))
      (equal (extract_struct s i) (extract_struct u i)) (like_struct (demanded (inl refl)) (demanded (inr refl)) l)

  -- So does what is closed.
  pub closed_holds_proper : (d : Demand) → Closed D d → Holds val d
  closed_holds_proper (constrained s c) h = derived_holds_proper (constrained s c) h tt
  closed_holds_proper (equal s u) h = derived_holds_proper (equal s u) (h.0) (h.1)

  -- what is derived, equalities of a site with itself aside
  abbrev Proper : Demand → Type 0
  Proper d = Derived D d × IsProper d

  -- a field is one by that
  field_proper : (s u : Site) → FieldOf D s u → FieldOf Proper s u
  field_proper s u (of_variant {ty = ty} {k = k} {n = n} h l) = of_variant (demanded (h, tt)) l
  field_proper s u (of_struct {ty = ty} {n = n} h l) = of_struct (demanded (h, tt)) l

  -- so inside
  inside_proper : (s u : Site) → Inside D s u → Inside Proper s u
  inside_proper s u (directly f) = directly (field_proper s u f)
  inside_proper s u (further_in {u = w} h f) = further_in (inside_proper s w h) (field_proper w u f)

  -- Such demands aren't unreachable.
  pub reachable_proper : (facts : TermFacts) (tys : List ℕ) → AllSuit facts tys (Derived D) → IsUnreachable D → ⊥
  reachable_proper facts tys suit fault =
      is_reachable val respects Proper (λ d h. derived_holds_proper d (h.0) (h.1)) facts tys (λ d h. suit d (h.0)) (elim fault [
        | inl c ↦ inl (record {
          site = c.site;
          one = c.one;
          other = c.other;
          has_one = demanded (c.has_one, tt);
          has_other = demanded (c.has_other, tt);
          differ = c.differ;
        })
        | inr c ↦ inr (record {
          site = c.site;
          part = c.part;
          inside = inside_proper c.site c.part c.inside;
          same = demanded (c.same, inside_apart D c.site c.part c.inside);
        })
      ])
