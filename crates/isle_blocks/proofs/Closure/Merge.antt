-- One merge of two classes keeps what is known of the classes and of what is pending.
use Rattle.std.proofs.Common.{◌≡◌, ◌≢◌, ◌<◌, ◌⊎◌, inl, inr, ℕ, List, length, get_or, Option, Some, slice_get, sym, ◌∙◌, ap, subst, arith}
use Rattle.std.specs.Prelude.{Contains}
use Rattle.std.proofs.lemmas.Option.{slice_get_within}
use Rattle.isle_types.specs.declared.ids.Sym.{Sym}
use Rattle.isle_meaning.specs.Sites.{Site}
use Rattle.isle_meaning.specs.Demands.{Demand, constrained, equal}
use Rattle.isle_meaning.specs.Derived.{Derived, demanded, flipped, chained, shared, like_variant, like_struct, AreEqual, FieldOf, of_variant, of_struct}
use Rattle.isle_meaning.specs.Numbered.{At}
use Rattle.isle_meaning.proofs.Matching.Numbering.{one_site}
use Rattle.isle_blocks.specs.declared.binding.Binding.{Binding}
use Rattle.isle_blocks.specs.declared.constraint.Constraint.{Constraint}
use Rattle.isle_blocks.specs.declared.constraint.Constraint.TheVariants as tests
use Rattle.isle_blocks.specs.Rows.{rows_of, test_of}
use Rattle.isle_blocks.specs.Inside.ClosureFields.{Opens, field_binding, field_site}
use Rattle.isle_blocks.specs.Tables.{IsTable}
use Rattle.isle_blocks.specs.Inside.ClosureStates.{HasOwn, AreClasses, IsJoined, AreLikeFields, IsLike, IsSound, IsCovered, Linked, LikesAreIn}
use Rattle.isle_blocks.proofs.Closure.Trees.{stands, field_at, field_source}

module _ (D : Demand → Type 0) where
  pub equal_back : (t u : Site) → AreEqual D t u → AreEqual D u t
  equal_back t u (inl e) = inl (sym e)
  equal_back t u (inr d) = inr (flipped d)

  pub equal_chain : (t u w : Site) → AreEqual D t u → AreEqual D u w → AreEqual D t w
  equal_chain t u w (inl e) k = subst (λ (x : Site). AreEqual D x w) (sym e) k
  equal_chain t u w (inr d) (inl e) = subst (λ (x : Site). AreEqual D t x) e (inr d)
  equal_chain t u w (inr d) (inr k) = inr (chained d k)

  -- the constraint on equal sites
  pub equal_has : (t u : Site) (c : _) → AreEqual D t u → Derived D (constrained t c) → Derived D (constrained u c)
  equal_has t u c (inl e) h = subst (λ (x : Site). Derived D (constrained x c)) e h
  equal_has t u c (inr d) h = shared d h

  -- a field under a derived test
  pub field_of : (name : Sym → List ℕ) (t : Site) (c : Constraint) (kind : Option ℕ) (i : ℕ) → Derived D (constrained t (test_of name c))
      → Opens c kind i
      → FieldOf D t (field_site kind t i)
  field_of name t (tests.Variant ty v n) kind i d h = subst (λ (k : Option ℕ). FieldOf D t (field_site k t i)) (sym h.0) (of_variant d h.1)
  field_of name t (tests.Struct ty n) kind i d h = subst (λ (k : Option ℕ). FieldOf D t (field_site k t i)) (sym h.0) (of_struct d h.1)
  field_of name t (tests.ConstBool v ty) kind i d h = absurd h
  field_of name t (tests.ConstInt v ty) kind i d h = absurd h
  field_of name t (tests.ConstPrim v) kind i d h = absurd h
  field_of name t tests.Some kind i d h = absurd h

  like_fields : (name : Sym → List ℕ) (t u : Site) (c : Constraint) (kind : Option ℕ) (i : ℕ) → Derived D (equal t u)
      → Derived D (constrained t (test_of name c)) → Opens c kind i → Derived D (equal (field_site kind t i) (field_site kind u i))
  like_fields name t u (tests.Variant ty v n) kind i e d h =
      subst (λ (k : Option ℕ). Derived D (equal (field_site k t i) (field_site k u i))) (sym h.0) (like_variant e d h.1)
  like_fields name t u (tests.Struct ty n) kind i e d h =
      subst (λ (k : Option ℕ). Derived D (equal (field_site k t i) (field_site k u i))) (sym h.0) (like_struct e d h.1)
  like_fields name t u (tests.ConstBool v ty) kind i e d h = absurd h
  like_fields name t u (tests.ConstInt v ty) kind i e d h = absurd h
  like_fields name t u (tests.ConstPrim v) kind i e d h = absurd h
  like_fields name t u tests.Some kind i e d h = absurd h

  -- equal sites under a test have equal like fields
  pub equal_parts : (name : Sym → List ℕ) (t u : Site) (c : Constraint) (kind : Option ℕ) (i : ℕ) → AreEqual D t u
      → Derived D (constrained t (test_of name c)) → Opens c kind i → AreEqual D (field_site kind t i) (field_site kind u i)
  equal_parts name t u c kind i (inl e) h l = inl (ap (λ (x : Site). field_site kind x i) e)
  equal_parts name t u c kind i (inr d) h l = inr (like_fields name t u c kind i d h l)

module _ (table : List Binding) (ok : IsTable table) (equals : List (ℕ × ℕ)) (own : List (Option Constraint))
    (class joined : List ℕ) (classes : AreClasses (length table) class)
    (x y drop keep : ℕ) (x_in : x < length table) (y_in : y < length table) (apart : get_or class x 0 ≢ get_or class y 0)
    (which : ((drop ≡ get_or class x 0) × (keep ≡ get_or class y 0)) ⊎ ((drop ≡ get_or class y 0) × (keep ≡ get_or class x 0)))
    (same_length : length joined ≡ length class) (join : IsJoined class joined drop keep) where
  pub drop_is : (drop < length table) × (get_or class drop 0 ≡ drop) × (drop ≢ keep) × (keep < length table) × (get_or class keep 0 ≡ keep)
  drop_is = elim which [
    | inl (d, k) ↦ (
      subst (λ (z : ℕ). z < length table) (sym d) (classes.below x x_in),
      ap (λ (z : ℕ). get_or class z 0) d ∙ classes.flat x x_in ∙ sym d,
      λ e. apart (sym d ∙ e ∙ k),
      subst (λ (z : ℕ). z < length table) (sym k) (classes.below y y_in),
      ap (λ (z : ℕ). get_or class z 0) k ∙ classes.flat y y_in ∙ sym k,
    )
    | inr (d, k) ↦ (
      subst (λ (z : ℕ). z < length table) (sym d) (classes.below y y_in),
      ap (λ (z : ℕ). get_or class z 0) d ∙ classes.flat y y_in ∙ sym d,
      λ e. apart (sym k ∙ sym e ∙ d),
      subst (λ (z : ℕ). z < length table) (sym k) (classes.below x x_in),
      ap (λ (z : ℕ). get_or class z 0) k ∙ classes.flat x x_in ∙ sym k,
    )
  ]

  abbrev pub Moved : ℕ → Type 0
  Moved a = ((get_or class a 0 ≡ drop) × (get_or joined a 0 ≡ keep)) ⊎ ((get_or class a 0 ≢ drop) × (get_or joined a 0 ≡ get_or class a 0))

  pub moved : (a : ℕ) → a < length table → Moved a
  moved a h = join a (let f = classes.fits in omega arith)

  pub moved_keep : get_or joined keep 0 ≡ keep
  moved_keep = elim (moved keep (drop_is.3)) [ inl (e, k) ↦ absurd (drop_is.2 (sym e ∙ drop_is.4)) | inr (n, e) ↦ e ∙ drop_is.4 ]

  pub moved_drop : get_or joined drop 0 ≡ keep
  moved_drop = elim (moved drop (drop_is.0)) [ inl (e, k) ↦ k | inr (n, e) ↦ absurd (n (drop_is.1)) ]

  pub joined_classes : AreClasses (length table) joined
  joined_classes = record {
    fits = same_length ∙ classes.fits;
    below = λ a h. elim (moved a h) [
      | inl (e, k) ↦ subst (λ (z : ℕ). z < length table) (sym k) (drop_is.3)
      | inr (n, e) ↦ subst (λ (z : ℕ). z < length table) (sym e) (classes.below a h)
    ];
    flat = λ a h. elim (moved a h) [
      | inl (e, k) ↦ ap (λ (z : ℕ). get_or joined z 0) k ∙ moved_keep ∙ sym k
      | inr (n, e) ↦ elim (moved (get_or class a 0) (classes.below a h)) [
        | inl (d, k) ↦ absurd (n (sym (classes.flat a h) ∙ d))
        | inr (m, d) ↦ ap (λ (z : ℕ). get_or joined z 0) e ∙ d ∙ classes.flat a h ∙ sym e
      ]
    ];
  }

  module _ (name : Sym → List ℕ) (D : Demand → Type 0) (sound : IsSound name table D class)
      (paired : (t u : Site) → At (rows_of name table) t x → At (rows_of name table) u y → AreEqual D t u) where
    -- the two representatives are equal
    pub merged : (t u : Site) → At (rows_of name table) t drop → At (rows_of name table) u keep → AreEqual D t u
    merged t u p q =
        let (a, ax) = stands name table ok x x_in in let (b, by) = stands name table ok y y_in in
        elim which [
          | inl (d, k) ↦
              equal_chain D t a u (equal_back D a t (sound x x_in a t ax (subst (λ (z : ℕ). At (rows_of name table) t z) d p)))
              (equal_chain D a b u (paired a b ax by) (sound y y_in b u by (subst (λ (z : ℕ). At (rows_of name table) u z) k q)))
          | inr (d, k) ↦
              equal_chain D t b u (equal_back D b t (sound y y_in b t by (subst (λ (z : ℕ). At (rows_of name table) t z) d p)))
              (equal_chain D b a u (equal_back D a b (paired a b ax by)) (sound x x_in a u ax (subst (λ (z : ℕ). At (rows_of name table) u z) k q)))
        ]

    pub joined_sound : IsSound name table D joined
    joined_sound a h t u p q = elim (moved a h) [
      | inl (e, k) ↦
          let (w, r) = stands name table ok drop (drop_is.0) in
          equal_chain D t w u (sound a h t w p (subst (λ (z : ℕ). At (rows_of name table) w z) (sym e) r))
          (merged w u r (subst (λ (z : ℕ). At (rows_of name table) u z) k q))
      | inr (n, e) ↦ sound a h t u p (subst (λ (z : ℕ). At (rows_of name table) u z) e q)
    ]

    -- like fields of the two classes are equal
    pub likes_implied : ((a : ℕ) (c : Constraint) (t : Site) → HasOwn own a c → At (rows_of name table) t a → D (constrained t (test_of name c)))
        → (c : Constraint) (a b : ℕ) → HasOwn own keep c → IsLike table class drop keep c a b → (t u : Site) → At (rows_of name table) t a
        → At (rows_of name table) u b → AreEqual D t u
    likes_implied owns c a b h (m, in_class, k) t u p q =
        let (wd, rd) = stands name table ok drop (drop_is.0) in let (wk, rk) = stands name table ok keep (drop_is.3) in
        let earlier : m < a = ok.earlier a (field_binding k.kind m k.index) _ k.field (field_source k.kind m k.index) in
        let within : a < length table = slice_get_within table a (field_binding k.kind m k.index) k.field in
        let m_in : m < length table = omega arith in
        let (wm, rm) = stands name table ok m m_in in
        let with_drop : AreEqual D wm wd = sound m m_in wm wd rm (subst (λ (z : ℕ). At (rows_of name table) wd z) (sym in_class) rd) in
        let with_keep : AreEqual D wm wk = equal_chain D wm wd wk with_drop (merged wd wk rd rk) in
        let has : Derived D (constrained wk (test_of name c)) = demanded (owns keep c wk h rk) in
        let parts = equal_parts D name wk wm c k.kind k.index (equal_back D wm wk with_keep) has k.opened in
        let same_t : t ≡ field_site k.kind wm k.index = one_site (rows_of name table) t (field_site k.kind wm k.index) a p
        (field_at name table k.kind m k.index a wm k.field rm) in
        let same_u : u ≡ field_site k.kind wk k.index = one_site (rows_of name table) u (field_site k.kind wk k.index) b q
        (field_at name table k.kind keep k.index b wk k.kept rk) in
        equal_chain D t (field_site k.kind wm k.index) u (inl same_t)
        (equal_chain D (field_site k.kind wm k.index) (field_site k.kind wk k.index) u
        (equal_back D (field_site k.kind wk k.index) (field_site k.kind wm k.index) parts) (inl (sym same_u)))

  -- What is linked stays linked.
  module _ (pending rest final : List (ℕ × ℕ))
      (taken : (a b : ℕ) → Contains pending (a, b) → Contains rest (a, b) ⊎ (get_or class a 0 ≡ get_or class b 0) ⊎
      (◌≡◌ {A = Option (ℕ × ℕ)} (Some (x, y)) (Some (a, b))))
      (pending_in : (a b : ℕ) → Contains pending (a, b) → (a < length table) × (b < length table))
      (kept : (a b : ℕ) → Contains rest (a, b) → Contains final (a, b)) where
    pub still_linked : (f g : ℕ) → Linked class pending f g → Linked joined final f g
    still_linked f g linked label by_class by_pair =
        let len : length joined ≡ length table = same_length ∙ classes.fits in
        let of_joined : (a : ℕ) → a < length table → label a ≡ label (get_or joined a 0) = λ a h. by_class a (omega arith) in
        let of_drop : label drop ≡ label keep = of_joined drop (drop_is.0) ∙ ap label moved_drop in
        let of_class : (a : ℕ) → a < length table → label a ≡ label (get_or class a 0) = λ a h. elim (moved a h) [
          | inl (e, k) ↦ of_joined a h ∙ ap label k ∙ sym of_drop ∙ ap label (sym e)
          | inr (n, e) ↦ of_joined a h ∙ ap label e
        ] in
        let of_xy : label x ≡ label y = of_class x x_in ∙ (elim which as (λ w. label (get_or class x 0) ≡ label (get_or class y 0)) [
          | inl (d, k) ↦ ap label (sym d) ∙ of_drop ∙ ap label k
          | inr (d, k) ↦ ap label (sym k) ∙ sym of_drop ∙ ap label d
        ]) ∙ sym (of_class y y_in) in
        linked label (λ a h. of_class a (let c = classes.fits in omega arith)) (λ a b h. elim (taken a b h) [
          | inl k ↦ by_pair a b (kept a b k)
          | inr s ↦ elim s [
            | inl e ↦ of_class a ((pending_in a b h).0) ∙ ap label e ∙ sym (of_class b ((pending_in a b h).1))
            | inr e ↦ let both : ◌≡◌ {A = ℕ × ℕ} (x, y) (a, b) = cc in let ea : x ≡ a = ap (λ (p : ℕ × ℕ). p.0) both in
                let eb : y ≡ b = ap (λ (p : ℕ × ℕ). p.1) both in ap label (sym ea) ∙ of_xy ∙ ap label eb
          ]
        ])

    pub joined_covered : ((c : Constraint) → HasOwn own drop c → HasOwn own keep c) → LikesAreIn table own class drop keep final
        → IsCovered table equals own class pending → IsCovered table equals own joined final
    joined_covered gives likes covered = record {
      given = λ a b h. still_linked a b (covered.given a b h);
      shared = λ a c h k. elim (moved a h) [
        | inl (e, m) ↦ subst (λ (z : ℕ). HasOwn own z c) (sym m) (gives c (subst (λ (z : ℕ). HasOwn own z c) e (covered.shared a c h k)))
        | inr (n, e) ↦ subst (λ (z : ℕ). HasOwn own z c) (sym e) (covered.shared a c h k)
      ];
      like = λ a c kind i f g h k l p q. elim (moved a h) [
        | inl (e, m) ↦
            let fields : AreLikeFields table a keep c f g = record {
              kind = kind;
              index = i;
              opened = l;
              field =
                  p;
              kept = subst (λ (z : ℕ). slice_get table g ≡ Some (field_binding kind z i)) m q;
            } in
            let in_final = likes c f g (subst (λ (z : ℕ). HasOwn own z c) m k) (a, e, fields) in
            λ label by_class by_pair. by_pair f g in_final
        | inr (d, e) ↦ still_linked f g (covered.like a c kind i f g h (subst (λ (z : ℕ). HasOwn own z c) e k) l p
            (subst (λ (z : ℕ). slice_get table g ≡ Some (field_binding kind z i)) e q))
      ];
    }

-- Where each pending pair is in one class, what is linked is.
pub closed_of : (table : List Binding) (class : List ℕ) (pending : List (ℕ × ℕ)) → AreClasses (length table) class
    → ((a b : ℕ) → Contains pending (a, b) → get_or class a 0 ≡ get_or class b 0) → (f g : ℕ) → Linked class pending f g
    → get_or class f 0 ≡ get_or class g 0
closed_of table class pending classes done f g linked =
    linked (λ a. get_or class a 0) (λ a h. sym (classes.flat a (let c = classes.fits in omega arith))) done
