-- Marking sites after their children: the marked have ranks, and where none can be marked a site reaches itself.
use Rattle.std.proofs.Common.{◌≡◌, ◌≢◌, ◌<◌, ◌+◌, ◌⊎◌, inl, inr, ℕ, zero, suc, List, length, Bool, true, false, eqb, cond, get_or, Option, refl, sym, ◌∙◌, ap, subst, arith}
use Rattle.std.proofs.Math.ListN.{set, replicate}
use Rattle.std.proofs.lemmas.List.{get_or-set_same, get_or-set_other}
use Rattle.std.proofs.lemmas.Bool.{cases_eq, false≢true, eq-eqb}
use Rattle.std.proofs.lemmas.Bool.Decides.{eqb_tells}
use Rattle.std.proofs.lemmas.Option.{slice_get_within}
use Rattle.isle_types.specs.declared.ids.Sym.{Sym}
use Rattle.isle_meaning.specs.Sites.{Site, bool_site, int_site, prim_site, argument, extractor_call, constructor_call, iterator}
use Rattle.isle_meaning.specs.Sites.{make_variant, match_variant, make_struct, extract_struct, make_some, match_some, match_tuple}
use Rattle.isle_meaning.specs.Demands.{Demand, constrained}
use Rattle.isle_meaning.specs.Derived.{Derived, demanded, flipped, AreEqual, FieldOf, of_variant, of_struct, Inside, directly, further_in}
use Rattle.isle_meaning.specs.Faults.{Endless}
use Rattle.isle_meaning.specs.Numbered.{At}
use Rattle.isle_blocks.specs.declared.binding.Binding.{Binding}
use Rattle.isle_blocks.specs.declared.constraint.Constraint.{Constraint}
use Rattle.isle_blocks.specs.Rows.{rows_of, test_of}
use Rattle.isle_blocks.specs.Inside.ClosureFields.{field_binding, field_site}
use Rattle.isle_blocks.specs.Tables.{IsTable}
use Rattle.isle_blocks.specs.Inside.ClosureStates.{HasOwn, AreClasses, IsSound, IsChildAt, Reaches, Once, Further, HasLoop, IsUnmarkedChild}
use Rattle.isle_blocks.specs.Inside.ClosureStates.{ChildrenAreMarked, is_marked}
use Rattle.isle_blocks.proofs.Closure.Trees.{stands, field_at}
use Rattle.isle_blocks.proofs.Closure.Merge.{equal_back, equal_chain, equal_has, equal_parts, field_of}
use Rattle.isle_blocks.proofs.Closure.Count.{count_to, count_falls}

abbrev pub opposite : Bool → Bool
opposite true = false
opposite false = true

pub opposite-true : (b : Bool) → b ≡ false → opposite b ≡ true
opposite-true b e = ap opposite e

pub opposite-false : (b : Bool) → b ≡ true → opposite b ≡ false
opposite-false b e = ap opposite e

pub either : (b : Bool) → (b ≡ true) ⊎ (b ≡ false)
either true = inl refl
either false = inr refl

pub mark_same : (marks : List Bool) (r : ℕ) → r < length marks → is_marked (set marks r true) r ≡ true
mark_same marks r h = get_or-set_same marks r true false h

pub mark_keeps : (marks : List Bool) (r k : ℕ) → r < length marks → is_marked marks k ≡ true → is_marked (set marks r true) k ≡ true
mark_keeps marks r k h e = elim (cases_eq k r) [
  | inl s ↦ ap (is_marked (set marks r true)) s ∙ mark_same marks r h
  | inr n ↦ get_or-set_other marks r k true false n ∙ e
]

pub mark_before : (marks : List Bool) (r k : ℕ) → is_marked (set marks r true) k ≡ true → (k ≡ r) ⊎ (is_marked marks k ≡ true)
mark_before marks r k e = elim (cases_eq k r) [ inl s ↦ inl s | inr n ↦ inr (sym (get_or-set_other marks r k true false n) ∙ e) ]

module _ (table : List Binding) (own : List (Option Constraint)) (class : List ℕ) where
  -- the marked sites rank above their children
  pub record Peeled (marks : List Bool) : Type 0 where
    pub rank : ℕ → ℕ
    pub top : ℕ
    pub low : (k : ℕ) → rank k < top
    pub marked : (r g k : ℕ) → is_marked marks r ≡ true → IsChildAt table own class r g k → is_marked marks k ≡ true
    pub falls : (r g k : ℕ) → is_marked marks r ≡ true → IsChildAt table own class r g k → rank k < rank r

  pub peeled_none : (marks : List Bool) → ((k : ℕ) → is_marked marks k ≡ false) → Peeled marks
  peeled_none marks none = record {
    rank = λ k. 0;
    top = 1;
    low = λ k. omega arith;
    marked = λ r g k e c. absurd (false≢true (sym (none r) ∙ e));
    falls = λ r g k e c. absurd (false≢true (sym (none r) ∙ e));
  }

  abbrev pub raised : (ℕ → ℕ) → ℕ → ℕ → ℕ → ℕ
  raised rank top r k = cond (eqb k r) top (rank k)

  pub raised_same : (rank : ℕ → ℕ) (top r k : ℕ) → k ≡ r → raised rank top r k ≡ top
  raised_same rank top r k e = ap (λ (b : Bool). cond b top (rank k)) (eq-eqb k r e)

  pub raised_other : (rank : ℕ → ℕ) (top r k : ℕ) → k ≢ r → raised rank top r k ≡ rank k
  raised_other rank top r k n = elim (eqb_tells k r) [ inl t ↦ absurd (n (t.1)) | inr t ↦ ap (λ (b : Bool). cond b top (rank k)) (t.0) ]

  pub raised_low : (rank : ℕ → ℕ) (top r k : ℕ) → rank k < top → raised rank top r k < top + 1
  raised_low rank top r k h = elim (cases_eq k r) [
    | inl e ↦ let a : raised rank top r k ≡ top = raised_same rank top r k e in omega arith
    | inr n ↦ let a : raised rank top r k ≡ rank k = raised_other rank top r k n in omega arith
  ]

  pub peeled_more : (marks : List Bool) (r : ℕ) → r < length marks → is_marked marks r ≡ false → ChildrenAreMarked table own class marks r
      → Peeled marks → Peeled (set marks r true)
  peeled_more marks r l unmarked children p = record {
    rank = raised (p.rank) (p.top) r;
    top = p.top + 1;
    low = λ k. raised_low (p.rank) (p.top) r k (p.low k);
    marked = λ s g k e c. elim (mark_before marks r s e) [
      | inl q ↦ mark_keeps marks r k l (children g k (subst (λ (z : ℕ). IsChildAt table own class z g k) q c))
      | inr m ↦ mark_keeps marks r k l (p.marked s g k m c)
    ];
    falls = λ s g k e c. elim (mark_before marks r s e) [
      | inl q ↦
          let km : is_marked marks k ≡ true = children g k (subst (λ (z : ℕ). IsChildAt table own class z g k) q c) in
          let a : raised (p.rank) (p.top) r k ≡ p.rank k = raised_other (p.rank) (p.top) r k
          (λ z. false≢true (sym unmarked ∙ ap (is_marked marks) (sym z) ∙ km)) in
          let b : raised (p.rank) (p.top) r s ≡ p.top = raised_same (p.rank) (p.top) r s q in
          let low : p.rank k < p.top = p.low k in omega arith
      | inr m ↦
          let km : is_marked marks k ≡ true = p.marked s g k m c in
          let a : raised (p.rank) (p.top) r k ≡ p.rank k = raised_other (p.rank) (p.top) r k
          (λ z. false≢true (sym unmarked ∙ ap (is_marked marks) (sym z) ∙ km)) in
          let b : raised (p.rank) (p.top) r s ≡ p.rank s = raised_other (p.rank) (p.top) r s
          (λ z. false≢true (sym unmarked ∙ ap (is_marked marks) (sym z) ∙ m)) in
          let low : p.rank k < p.rank s = p.falls s g k m c in omega arith
    ];
  }

  -- Where each unmarked site has an unmarked child, a walk comes back.
  module _ (marks : List Bool) (stuck : (r : ℕ) → r < length table → is_marked marks r ≡ false → (k : ℕ) × IsUnmarkedChild table own class marks r k)
      (below : (g : ℕ) → g < length table → get_or class g 0 < length table) where
    abbrev pub with_one : (ℕ → Bool) → ℕ → ℕ → Bool
    with_one seen r k = cond (eqb k r) true (seen k)

    pub walk : (fuel : ℕ) (seen : ℕ → Bool) (r : ℕ) → count_to (λ k. opposite (seen k)) (length table) < fuel
        → r < length table → is_marked marks r ≡ false
        → ((k : ℕ) → seen k ≡ true → Reaches table own class k r) → HasLoop table own class
    walk zero seen r h l u reach = absurd (omega arith)
    walk (suc fuel) seen r h l u reach = elim (either (seen r)) [
      | inl t ↦ record { at = r; inside = l; round = reach r t }
      | inr f ↦
          let (k, next) = stuck r l u in
          let c = next.is_child in
          let k_in : k < length table = subst (λ (z : ℕ). z < length table) (c.leads)
          (below (next.field) (slice_get_within table (next.field) (field_binding c.kind r c.index) c.field)) in
          let same : (j : ℕ) → j ≡ r → with_one seen r j ≡ true = λ j e. ap (λ (b : Bool). cond b true (seen j)) (eq-eqb j r e) in
          let fewer : count_to (λ j. opposite (with_one seen r j)) (length table) < count_to (λ j. opposite (seen j)) (length table) =
          count_falls (λ j. opposite (with_one seen r j)) (λ j. opposite (seen j)) (length table) r
          (λ j m q. elim (eqb_tells j r) [
            | inl t ↦ absurd (false≢true (sym (opposite-false (with_one seen r j) (same j (t.1))) ∙ q))
            | inr t ↦ sym (ap (λ (b : Bool). opposite (cond b true (seen j))) (t.0)) ∙ q
          ])
          l (opposite-false (with_one seen r r) (same r refl)) (opposite-true (seen r) f) in
          walk fuel (with_one seen r) k (omega arith) k_in (next.unmarked)
          (λ j e. elim (eqb_tells j r) [
            | inl t ↦ subst (λ (z : ℕ). Reaches table own class z k) (sym (t.1)) (Once (next.field) c)
            | inr t ↦ Further (next.field) (reach j (sym (ap (λ (b : Bool). cond b true (seen j)) (t.0)) ∙ e)) c
          ])
    ]

    pub has_loop : (r : ℕ) → r < length table → is_marked marks r ≡ false → HasLoop table own class
    has_loop r l u = walk (suc (count_to (λ k. opposite false) (length table))) (λ k. false) r (omega arith) l u (λ k e. absurd (false≢true e))

-- how deep fields are
pub depth : Site → ℕ
depth (bool_site b ty) = 0
depth (int_site n ty) = 0
depth (prim_site n) = 0
depth (argument i) = 0
depth (extractor_call t s) = 0
depth (constructor_call t ss i) = 0
depth (iterator s) = 0
depth (make_variant ty v ss) = 0
depth (match_variant s v i) = suc (depth s)
depth (make_struct ty ss) = 0
depth (extract_struct s i) = suc (depth s)
depth (make_some s) = 0
depth (match_some s) = 0
depth (match_tuple s i) = 0

-- A site that reaches itself is equal to a field of itself.
module _ (name : Sym → List ℕ) (table : List Binding) (ok : IsTable table) (D : Demand → Type 0) (own : List (Option Constraint)) (class : List ℕ)
    (classes : AreClasses (length table) class)
    (owns : (a : ℕ) (c : Constraint) (t : Site) → HasOwn own a c → At (rows_of name table) t a → D (constrained t (test_of name c)))
    (sound : IsSound name table D class) where
  -- the child's site, seen from the site's
  child_equal : (r g k : ℕ) (c : IsChildAt table own class r g k) (t u : Site) → At (rows_of name table) t r → At (rows_of name table) u k
      → AreEqual D (field_site c.kind t c.index) u
  child_equal r g k c t u p q =
      let g_in = slice_get_within table g (field_binding c.kind r c.index) c.field in
      sound g g_in (field_site c.kind t c.index) u (field_at name table c.kind r c.index g t c.field p)
      (subst (λ (z : ℕ). At (rows_of name table) u z) (sym c.leads) q)

  child_in : (r g k : ℕ) → IsChildAt table own class r g k → k < length table
  child_in r g k c = subst (λ (z : ℕ). z < length table) c.leads (classes.below g (slice_get_within table g (field_binding c.kind r c.index) c.field))

  reach_in : (r k : ℕ) → Reaches table own class r k → k < length table
  reach_in r k (Once g c) = child_in r g k c
  reach_in r k (Further {k = m} g x c) = child_in m g k c

  reach_inside : (r k : ℕ) → Reaches table own class r k → (t w : Site) → At (rows_of name table) t r → At (rows_of name table) w k
      → (u : Site) × Inside D t u × AreEqual D u w
  reach_inside r k (Once g c) t w p q = (
    field_site c.kind t c.index,
    directly (field_of D name t c.test c.kind c.index (demanded (owns r c.test t c.has p)) c.opened),
    child_equal r g k c t w p q,
  )
  reach_inside r k (Further {k = m} g x c) t w p q =
      let (s, sm) = stands name table ok m (reach_in r m x) in
      let (u, i, e) = reach_inside r m x t s p sm in
      let has_s : Derived D (constrained s (test_of name c.test)) = demanded (owns m c.test s c.has sm) in
      let has_u = equal_has D s u (test_of name c.test) (equal_back D u s e) has_s in (
        field_site c.kind u c.index,
        further_in i (field_of D name u c.test c.kind c.index has_u c.opened),
        equal_chain D (field_site c.kind u c.index) (field_site c.kind s c.index) w (equal_parts D name u s c.test c.kind c.index e has_u c.opened)
            (child_equal m g k c s w sm q),
      )

  field_deeper : (t u : Site) → FieldOf D t u → depth t < depth u
  unfolding depth
  field_deeper t u (of_variant d h) = omega arith
  field_deeper t u (of_struct d h) = omega arith

  inside_deeper : (t u : Site) → Inside D t u → depth t < depth u
  inside_deeper t u (directly f) = field_deeper t u f
  inside_deeper t u (further_in {u = w} i f) = let e = inside_deeper t w i in let d = field_deeper w u f in omega arith

  pub endless_of : HasLoop table own class → Endless D
  endless_of l =
      let (t, p) = stands name table ok l.at l.inside in
      let (u, i, e) = reach_inside l.at l.at l.round t t p p in
      record {
        site = t;
        part = u;
        inside = i;
        same = elim e [ inl s ↦ let a = inside_deeper t u i in let b : depth u ≡ depth t = ap depth s in absurd (omega arith) | inr d ↦ flipped d ];
      }

pub get_or-replicate : (n k : ℕ) → get_or (replicate n false) k false ≡ false
get_or-replicate zero k = refl
get_or-replicate (suc n) zero = refl
get_or-replicate (suc n) (suc k) = get_or-replicate n k
