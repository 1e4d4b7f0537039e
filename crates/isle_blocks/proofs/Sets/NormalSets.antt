-- The sets of equal sites of a closed rule, site after site.
use Rattle.std.proofs.Common.{◌≡◌, ◌<◌, ◌≤◌, ◌+◌, ◌⊎◌, inl, inr, ℕ, Bool, true, List, [], ◌∷◌, length, get_or, slice_get, Option, None, Some, refl, sym, ◌∙◌, ap, subst}
use Rattle.std.proofs.Common.{arith, ◌||◌, ◌&&◌, ◌↔◌}
use Rattle.std.specs.Prelude.{Contains}
use Rattle.std.specs.Bool.{Decides}
use Rattle.std.specs.Set.{is_member}
use Rattle.std.proofs.lemmas.Bool.{cases_lt, cases_eq, or_left, or_right, or_cases, and_parts, false≢true}
use Rattle.std.proofs.lemmas.Bool.Decides.{Decides-eqb}
use Rattle.std.proofs.lemmas.Map.Made.{is_member-Decides}
use Rattle.std.proofs.lemmas.List.Elements.{Contains-append_left, Contains-append_right, Contains-append_cases}
use Rattle.std.proofs.lemmas.Option.{same_Some}
use Rattle.isle_types.specs.Names.{AreDistinct}
use Rattle.isle_containers.specs.JoinedSets.{are_joined, comes_together, members}
use Rattle.isle_blocks.specs.declared.ids.BindingId.{BindingId}
use Rattle.isle_blocks.specs.declared.constraint.Constraint.{Constraint}
use Rattle.isle_blocks.specs.Inside.ClosureStates.{AreClasses}
use Rattle.isle_blocks.specs.Inside.NormalRules.{site_eq, HaveClassTests, IsUntested, HasAnother, MustBeEqual, AreEqualitiesOf}

site_decides : (a b : BindingId) → Decides (site_eq a b) (a ≡ b)
site_decides a b = let d = Decides-eqb a.0 b.0 in (λ e i. record { 0 = d.0 e i }, λ e. d.1 (ap (λ (v : BindingId). v.0) e))

both_true : (x y : Bool) → x ≡ true → y ≡ true → (x && y) ≡ true
both_true x y p q = rw (p, q)

-- a member of some set is joined with itself
pub member_joined : (sets : List (List BindingId)) (a : BindingId) → (are_joined site_eq sets a a ≡ true) ↔ Contains (members sets) a
member_joined [] a = (λ h. absurd (false≢true h), λ h. absurd (let l = h.1 in omega arith))
member_joined (s ∷ ss) a =
    let d = is_member-Decides site_decides s a in
    let more = member_joined ss a in (
      λ h. elim (or_cases (is_member site_eq s a && is_member site_eq s a) (are_joined site_eq ss a a) h) [
        | inl p ↦ Contains-append_left s (members ss) a (d.0 (and_parts _ _ p).0)
        | inr q ↦ Contains-append_right s (members ss) a (more.0 q)
      ],
      λ h. elim (Contains-append_cases s (members ss) a h) [
        | inl p ↦ or_left _ _ (both_true _ _ (d.1 p) (d.1 p))
        | inr q ↦ or_right _ _ (more.1 q)
      ],
    )

-- the site is in a set once the sites below n are merged: as one of them, or as the representative of one of them
pub record IsEntered (each : List (Option Constraint)) (class : List ℕ) (n a : ℕ) : Type 0 where
  pub free : IsUntested each class a
  pub site : ℕ
  pub below : site < n
  pub moves : get_or class site 0 ≡ site → ⊥
  pub same : get_or class site 0 ≡ get_or class a 0
  pub how : (site ≡ a) ⊎ (get_or class a 0 ≡ a)

-- two sites are in one set by then
abbrev AreTogether : List (Option Constraint) → List ℕ → ℕ → ℕ → ℕ → Type 0
AreTogether each class n k l = IsEntered each class n k × IsEntered each class n l × (get_or class k 0 ≡ get_or class l 0)

-- two numbers are those of two such sites
abbrev pub AreNumbersTogether : List BindingId → List (Option Constraint) → List ℕ → ℕ → BindingId → BindingId → Type 0
AreNumbersTogether numbers each class n a b =
    (k : ℕ) × (l : ℕ) × (slice_get numbers k ≡ Some a) × (slice_get numbers l ≡ Some b) × AreTogether each class n k l

-- the sets once the sites below n are merged
pub record AreSetsBelow (numbers : List BindingId) (each : List (Option Constraint)) (class : List ℕ) (n : ℕ)
    (sets : List (List BindingId)) : Type 0 where
  pub joined : (a b : BindingId) → (are_joined site_eq sets a b ≡ true) ↔ AreNumbersTogether numbers each class n a b
  pub none : ((a : ℕ) → a < n → IsUntested each class a → get_or class a 0 ≡ a) → sets ≡ []

entered_later : {each : List (Option Constraint)} {class : List ℕ} {n : ℕ} (m : ℕ) {a : ℕ} → n ≤ m → IsEntered each class n a
    → IsEntered each class m a
entered_later m l e = record { free = e.free; site = e.site; below = (let b = e.below in omega arith); moves = e.moves; same = e.same; how = e.how }

together_later : {each : List (Option Constraint)} {class : List ℕ} {n : ℕ} (m : ℕ) {a b : ℕ} → n ≤ m → AreTogether each class n a b
    → AreTogether each class m a b
together_later m l t = (entered_later m l t.0, entered_later m l t.1, t.2)

module _ (numbers : List BindingId) (once : AreDistinct numbers) (each : List (Option Constraint)) (class : List ℕ)
    (classes : AreClasses (length class) class) (shared : HaveClassTests each class) where
  -- The sets are those of the classes once all sites are merged.
  moved_entered : (a : ℕ) → IsUntested each class a → HasAnother class a → IsEntered each class (length class) a
  moved_entered a free (b, inside, differ, same) = elim (cases_eq (get_or class a 0) a) [
    | inl flat ↦ record {
      free = free;
      site = b;
      below = inside;
      same = same;
      how = inr flat;
      moves = λ e. differ (sym e ∙ same ∙ flat);
    }
    | inr moves ↦ record { free = free; site = a; below = free.inside; same = refl; how = inl refl; moves = moves }
  ]

  entered_moved : (n a : ℕ) → n ≤ length class → IsEntered each class n a → HasAnother class a
  entered_moved n a l e = elim e.how [
    | inl s ↦
        let moves : get_or class a 0 ≡ a → ⊥ = subst (λ (j : ℕ). get_or class j 0 ≡ j → ⊥) s e.moves in
        (get_or class a 0, classes.below a e.free.inside, moves, classes.flat a e.free.inside)
    | inr flat ↦ (e.site, (let b = e.below in omega arith), λ (s : e.site ≡ a). e.moves (ap (λ (j : ℕ). get_or class j 0) s ∙ flat ∙ sym s), e.same)
  ]

  -- two numbers of one site are one
  one_number : (k l : ℕ) (a b : BindingId) → slice_get numbers k ≡ Some a → slice_get numbers l ≡ Some b → k ≡ l → a ≡ b
  one_number k l a b at there same = same_Some a b (sym at ∙ ap (λ (j : ℕ). slice_get numbers j) same ∙ there)

  made_equal : (k l : ℕ) (a b : BindingId) → slice_get numbers k ≡ Some a → slice_get numbers l ≡ Some b → (a ≡ b → ⊥) → MustBeEqual each class k l
      → AreTogether each class (length class) k l
  made_equal k l a b at there differ m =
      let apart : l ≡ k → ⊥ = λ e. differ (one_number k l a b at there (sym e)) in
      (moved_entered k m.0 (l, m.1.inside, apart, sym m.2), moved_entered l m.1 (k, m.0.inside, (λ (e : k ≡ l). apart (sym e)), m.2), m.2)

  pub sets_all : (sets : List (List BindingId)) → AreSetsBelow numbers each class (length class) sets → AreEqualitiesOf numbers each class sets
  sets_all sets are = record {
    joined = λ a b differ. (
      λ h. let (k, l, at, there, t) = (are.joined a b).0 h in (k, l, at, there, (t.0.free, t.1.free, t.2)),
      λ (k, l, at, there, m). (are.joined a b).1 (k, l, at, there, made_equal k l a b at there differ m),
    );
    member = λ a. (
      λ h.
          let (k, l, at, there, t) = (are.joined a a).0 ((member_joined sets a).1 h) in
          (k, at, t.0.free, entered_moved (length class) k (omega arith) t.0),
      λ (k, at, free, another).
          let e = moved_entered k free another in (member_joined sets a).0 ((are.joined a a).1 (k, k, at, at, (e, e, refl))),
    );
    none = λ free. are.none (λ a l u. elim (cases_eq (get_or class a 0) a) [
      | inl flat ↦ flat
      | inr moves ↦ absurd (free a u (get_or class a 0, classes.below a l, moves, classes.flat a l))
    ]);
  }

  -- The sets so far, and the next site.
  module _ (k : ℕ) (inside : k < length class) (sets : List (List BindingId)) (are : AreSetsBelow numbers each class k sets) where
    root : ℕ
    root = get_or class k 0

    -- it has a test, or represents its class
    module _ (stays : get_or each k None ≡ None → get_or class k 0 ≡ k) where
      still_entered : (a : ℕ) → IsEntered each class (k + 1) a → IsEntered each class k a
      still_entered a e = elim (cases_lt e.site k) [
        | inl less ↦ record { free = e.free; site = e.site; below = less; moves = e.moves; same = e.same; how = e.how }
        | inr more ↦
            let at : e.site ≡ k = (let b = e.below in omega arith) in
            let same : get_or class k 0 ≡ get_or class a 0 = ap (λ (j : ℕ). get_or class j 0) (sym at) ∙ e.same in
            let free : get_or each k None ≡ None =
            shared k inside ∙ ap (λ (j : ℕ). get_or each j None) same ∙ sym (shared a e.free.inside) ∙ e.free.untested in
            absurd (e.moves (ap (λ (j : ℕ). get_or class j 0) at ∙ stays free ∙ sym at))
      ]

      pub sets_skip : AreSetsBelow numbers each class (k + 1) sets
      sets_skip = record {
        joined = λ a b. (
          λ h. let (i, j, at, there, t) = (are.joined a b).0 h in (i, j, at, there, together_later (k + 1) (omega arith) t),
          λ (i, j, at, there, t). (are.joined a b).1 (i, j, at, there, (still_entered i t.0, still_entered j t.1, t.2)),
        );
        none = λ free. are.none (λ a l u. free a (omega arith) u);
      }

    -- it is merged with its representative
    module _ (untested : get_or each k None ≡ None) (moves : get_or class k 0 ≡ k → ⊥) (x y : BindingId) (x_at : slice_get numbers k ≡ Some x)
        (y_at : slice_get numbers (get_or class k 0) ≡ Some y) (new : List (List BindingId)) (clause : (a b : BindingId) → are_joined site_eq new a b
        ≡ (are_joined site_eq sets a b || (comes_together site_eq sets x y a && comes_together site_eq sets x y b))) where
      -- a number of a site of the class that is entered
      abbrev Comes : BindingId → Type 0
      Comes a = (i : ℕ) × (slice_get numbers i ≡ Some a) × IsEntered each class (k + 1) i × (get_or class i 0 ≡ get_or class k 0)

      flat : get_or class (get_or class k 0) 0 ≡ get_or class k 0
      flat = classes.flat k inside

      itself : IsEntered each class (k + 1) k
      itself = record {
        free = record { inside = inside; untested = untested };
        site = k;
        below = omega arith;
        moves = moves;
        same = refl;
        how = inl refl;
      }

      root_free : IsUntested each class (get_or class k 0)
      root_free = record { inside = classes.below k inside; untested = sym (shared k inside) ∙ untested }

      represents : IsEntered each class (k + 1) (get_or class k 0)
      represents = record { free = root_free; site = k; below = omega arith; moves = moves; same = sym flat; how = inr flat }

      -- what comes together is entered, and of the site's class
      comes_from : (a : BindingId) → comes_together site_eq sets x y a ≡ true → Comes a
      comes_from a h = elim (or_cases (site_eq a x || site_eq a y) (are_joined site_eq sets x a || are_joined site_eq sets y a) h) [
        | inl p ↦ elim (or_cases (site_eq a x) (site_eq a y) p) [
          | inl q ↦ (k, x_at ∙ ap Some (sym ((site_decides a x).0 q)), itself, refl)
          | inr q ↦ (get_or class k 0, y_at ∙ ap Some (sym ((site_decides a y).0 q)), represents, flat)
        ]
        | inr p ↦ elim (or_cases (are_joined site_eq sets x a) (are_joined site_eq sets y a) p) [
          | inl q ↦
              let (i, j, i_at, j_at, t) = (are.joined x a).0 q in
              let same : i ≡ k = once x i k i_at x_at in
              (j, j_at, entered_later (k + 1) (omega arith) t.1, sym t.2 ∙ ap (λ (z : ℕ). get_or class z 0) same)
          | inr q ↦
              let (i, j, i_at, j_at, t) = (are.joined y a).0 q in
              let same : i ≡ get_or class k 0 = once y i (get_or class k 0) i_at y_at in
              (j, j_at, entered_later (k + 1) (omega arith) t.1, sym t.2 ∙ ap (λ (z : ℕ). get_or class z 0) same ∙ flat)
        ]
      ]

      earlier : (a : ℕ) (e : IsEntered each class (k + 1) a) → e.site < k → IsEntered each class k a
      earlier a e less = record { free = e.free; site = e.site; below = less; moves = e.moves; same = e.same; how = e.how }

      -- and the other way about
      comes_to : (a : BindingId) → Comes a → comes_together site_eq sets x y a ≡ true
      comes_to a (i, i_at, e, same) = elim (cases_lt e.site k) [
        | inl less ↦
            let r : IsEntered each class k (get_or class k 0) = record {
              free = root_free;
              site = e.site;
              below = less;
              moves = e.moves;
              same = e.same ∙ same ∙ sym flat;
              how = inr flat;
            } in
            or_right (site_eq a x || site_eq a y) _ (or_right (are_joined site_eq sets x a) _
            ((are.joined y a).1 (get_or class k 0, i, y_at, i_at, (r, earlier i e less, flat ∙ sym same))))
        | inr more ↦
            let at : e.site ≡ k = (let b = e.below in omega arith) in
            or_left _ (are_joined site_eq sets x a || are_joined site_eq sets y a) (elim e.how [
              | inl s ↦ or_left _ (site_eq a y) ((site_decides a x).1 (one_number i k a x i_at x_at (sym s ∙ at)))
              | inr s ↦ or_right (site_eq a x) _ ((site_decides a y).1 (one_number i (get_or class k 0) a y i_at y_at (sym s ∙ same)))
            ])
      ]

      -- a site of another class was entered before
      kept : (a : ℕ) → (get_or class a 0 ≡ get_or class k 0 → ⊥) → IsEntered each class (k + 1) a → IsEntered each class k a
      kept a other e = elim (cases_lt e.site k) [
        | inl less ↦ earlier a e less
        | inr more ↦
            let at : e.site ≡ k = (let b = e.below in omega arith) in
            absurd (other (sym e.same ∙ ap (λ (j : ℕ). get_or class j 0) at))
      ]

      now_joined : (a b : BindingId) → (are_joined site_eq sets a b ||
          (comes_together site_eq sets x y a && comes_together site_eq sets x y b)) ≡ true
          → AreNumbersTogether numbers each class (k + 1) a b
      now_joined a b h = elim (or_cases (are_joined site_eq sets a b) (comes_together site_eq sets x y a && comes_together site_eq sets x y b) h) [
        | inl p ↦ let (i, j, at, there, t) = (are.joined a b).0 p in (i, j, at, there, together_later (k + 1) (omega arith) t)
        | inr p ↦
            let q = and_parts (comes_together site_eq sets x y a) (comes_together site_eq sets x y b) p in
            let (i, i_at, one, first) = comes_from a q.0 in
            let (j, j_at, other, second) = comes_from b q.1 in
            (i, j, i_at, j_at, (one, other, first ∙ sym second))
      ]

      to_join : (a b : BindingId) → AreNumbersTogether numbers each class (k + 1) a b
          → (are_joined site_eq sets a b || (comes_together site_eq sets x y a && comes_together site_eq sets x y b)) ≡ true
      to_join a b (i, j, at, there, t) = elim (cases_eq (get_or class i 0) (get_or class k 0)) [
        | inl same ↦ or_right (are_joined site_eq sets a b) _
            (both_true _ _ (comes_to a (i, at, t.0, same)) (comes_to b (j, there, t.1, sym t.2 ∙ same)))
        | inr other ↦ or_left _ (comes_together site_eq sets x y a && comes_together site_eq sets x y b)
            ((are.joined a b).1 (i, j, at, there, (kept i other t.0, kept j (λ e. other (t.2 ∙ e)) t.1, t.2)))
      ]

      pub sets_more : AreSetsBelow numbers each class (k + 1) new
      sets_more = record {
        joined = λ a b. (λ h. now_joined a b (sym (clause a b) ∙ h), λ t. clause a b ∙ to_join a b t);
        none = λ free. absurd (moves (free k (omega arith) (record { inside = inside; untested = untested })));
      }
