-- A call that a rule's tests ask is a subtree of a site of which the rule demands something.
use Rattle.std.proofs.Common.{inl, inr, ℕ, refl, subst}
use Rattle.isle_trees.specs.Rules.{Elem, has, one_value, Asked, by_demand, by_class, by_part}
use Rattle.isle_rules.specs.TypedRules.{TypedRule}
use Rattle.isle_meaning.specs.Facts.{TermFacts}
use Rattle.isle_meaning.specs.Sites.{Site}
use Rattle.isle_meaning.specs.Subtrees.{IsSubtree}
use Rattle.isle_meaning.specs.Demands.{Demand, constrained, equal}
use Rattle.isle_meaning.specs.Derived.{Derived, demanded, flipped, chained, shared, like_variant, like_struct}
use Rattle.isle_meaning.specs.Demands.{DemandOf}
use Rattle.isle_meaning.specs.Worlds.{CheckedProgram}
use Rattle.isle_meaning.specs.AboutSites.RuleCalls.{IsCall}
use Rattle.isle_meaning.specs.Machine.Runs.{TermTree}
use Rattle.isle_meaning.specs.Machine.Trees.{IsTermTree}
use Rattle.isle_meaning.specs.Machine.Asking.{IsOfSite, IsDemanded}
use Rattle.isle_meaning.proofs.Chains.Subtrees.{whole, deeper}
use Rattle.isle_meaning.proofs.Sites.Parts.{part_within}
use Rattle.isle_meaning.proofs.Machine.RowSites.{Stands, part_site, part_stands}

-- what follows from demands speaks of no further calls
call_demanded : (facts : TermFacts) (rule : TypedRule) (d : Demand) (s call : Site) → Derived (DemandOf facts rule) d → IsOfSite d s
    → IsSubtree call s → IsCall call → (u : Site) × IsDemanded facts rule u × IsSubtree call u
call_demanded facts rule d s call (demanded h) speaks inside is = (s, (d, h, speaks), inside)
call_demanded facts rule _ s call (flipped {s = x} {u = y} h) (inl e) inside is = call_demanded facts rule (equal x y) s call h (inr e) inside is
call_demanded facts rule _ s call (flipped {s = x} {u = y} h) (inr e) inside is = call_demanded facts rule (equal x y) s call h (inl e) inside is
call_demanded facts rule _ s call (chained {s = x} {u = y} {w = z} h k) (inl e) inside is =
    call_demanded facts rule (equal x y) s call h (inl e) inside is
call_demanded facts rule _ s call (chained {s = x} {u = y} {w = z} h k) (inr e) inside is =
    call_demanded facts rule (equal y z) s call k (inr e) inside is
call_demanded facts rule _ s call (shared {s = x} {u = y} h k) e inside is = call_demanded facts rule (equal x y) s call h (inr e) inside is
call_demanded facts rule _ s call (like_variant {s = x} {u = y} {k = k} {i = i} h q lt) (inl e) inside is =
    elim (subst (IsSubtree call) e inside) [
      | inl f ↦ absurd (subst IsCall f is)
      | inr f ↦ call_demanded facts rule (equal x y) x call h (inl refl) f is
    ]
call_demanded facts rule _ s call (like_variant {s = x} {u = y} {k = k} {i = i} h q lt) (inr e) inside is =
    elim (subst (IsSubtree call) e inside) [
      | inl f ↦ absurd (subst IsCall f is)
      | inr f ↦ call_demanded facts rule (equal x y) y call h (inr refl) f is
    ]
call_demanded facts rule _ s call (like_struct {s = x} {u = y} {i = i} h q lt) (inl e) inside is = elim (subst (IsSubtree call) e inside) [
  | inl f ↦ absurd (subst IsCall f is)
  | inr f ↦ call_demanded facts rule (equal x y) x call h (inl refl) f is
]
call_demanded facts rule _ s call (like_struct {s = x} {u = y} {i = i} h q lt) (inr e) inside is = elim (subst (IsSubtree call) e inside) [
  | inl f ↦ absurd (subst IsCall f is)
  | inr f ↦ call_demanded facts rule (equal x y) y call h (inr refl) f is
]

module _ {C : Type 0} (p : CheckedProgram) (R : ℕ → Type 0) (t : ℕ) (b : TermTree C) (B : IsTermTree p R t b) where
  -- the site is a subtree of one of which something follows from a rule's demands
  abbrev pub IsDerivedAt : TypedRule → Site → Type 0
  IsDerivedAt rule u = (d : Demand) × (s : Site) × Derived (DemandOf p.terms rule) d × IsOfSite d s × IsSubtree u s

  -- What a rule's tests ask is such a site.
  pub asked_site : (i k : ℕ) → Elem i B.left → Asked B.set i k → Stands p R t b B k × IsDerivedAt (B.rule i) (B.site k)
  asked_site i _ m (by_demand s (has c) e) =
      (B.tested i s (has c) m e, (constrained (B.site s) (b.test c), B.site s, B.wants i s c m e, refl, whole (B.site s)))
  asked_site i _ m (by_demand s one_value e) = absurd (B.tree.no_multi i s m e)
  asked_site i _ m (by_class x y e) =
      let (u, h) = B.joined i x y m e in (B.grouped i x y m e, (equal (B.site x) u, B.site x, h, inl refl, whole (B.site x)))
  asked_site i _ m (by_part s q h n) =
      let ((row, at), (d, u, derived, speaks, inside)) = asked_site i s m h in (
        part_stands p R t b B s q row at n,
        (
          d,
          u,
          derived,
          speaks,
          deeper (B.site q) (B.site s) u (part_within (B.site s) (B.site q) (part_site p R t b B s q row at n)) inside,
        ),
      )

  -- A call that is asked is a subtree of a demanded site.
  pub asked_call : (i k : ℕ) → Elem i B.left → Asked B.set i k → IsCall (B.site k)
      → (s : Site) × IsDemanded p.terms (B.rule i) s × IsSubtree (B.site k) s
  asked_call i k m h is =
      let (d, s, derived, speaks, inside) = (asked_site i k m h).1 in
      call_demanded p.terms (B.rule i) d s (B.site k) derived speaks inside is
