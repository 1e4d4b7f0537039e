-- Adding a missing field keeps what is known of the sites and their classes.
use Rattle.std.proofs.Common.{◌≡◌, ◌<◌, ◌≤◌, ◌++◌, ◌⊎◌, inl, inr, ℕ, zero, suc, List, [], ◌∷◌, length, get_or, Option, Some, None, slice_get, refl, sym, ◌∙◌, ap, subst, arith, length-append}
use Rattle.std.specs.Prelude.{Contains}
use Rattle.std.proofs.lemmas.Option.{slice_get_within}
use Rattle.std.proofs.lemmas.Bool.{cases_lt}
use Rattle.std.proofs.Math.ListN.{get_or-append}
use Rattle.std.proofs.Math.Seq.{get_or-append_seam}
use Rattle.isle_containers.proofs.Lists.{slice_get-kept, slice_get-pushed}
use Rattle.isle_blocks.specs.declared.ids.BindingId.{BindingId}
use Rattle.isle_blocks.specs.declared.binding.Binding.{Binding}
use Rattle.isle_blocks.specs.declared.constraint.Constraint.{Constraint}
use Rattle.isle_blocks.specs.Tables.{sources_of}
use Rattle.isle_blocks.specs.Inside.ClosureFields.{Opens, field_binding}
use Rattle.isle_blocks.specs.Tables.{IsTable}
use Rattle.isle_blocks.specs.Inside.ClosureStates.{HasOwn, IsState, IsMissingField, Grows, Still, Added, HasFields}
use Rattle.isle_blocks.proofs.Closure.Pairs.{own_in}
use Rattle.isle_blocks.proofs.Closure.Trees.{field_parts, field_source}

-- a field has one part
one_source : (kind : Option ℕ) (s i : ℕ) (part : BindingId) → Contains (sources_of (field_binding kind s i)) part → part.0 ≡ s
one_source (Some v) s i part (zero, l, e) = ap (λ (x : BindingId). x.0) (sym e)
one_source (Some v) s i part (suc k, l, e) = absurd (omega arith)
one_source None s i part (zero, l, e) = ap (λ (x : BindingId). x.0) (sym e)
one_source None s i part (suc k, l, e) = absurd (omega arith)

module _ (own : List (Option Constraint)) (equals : List (ℕ × ℕ)) (table : List Binding) (class : List ℕ) (state : IsState own equals table class)
    (s : ℕ) (kind : Option ℕ) (i f : ℕ) (needed : IsMissingField own table class s kind i f) where
  abbrev pub new : Binding
  new = field_binding kind s i

  abbrev pub table' : List Binding
  table' = table ++ field_binding kind s i ∷ []

  abbrev pub class' : List ℕ
  class' = class ++ get_or class f 0 ∷ []

  len : length table' ≡ suc (length table)
  len = simp length-append (omega arith)

  pub f_in : f < length table
  f_in = slice_get_within table f (field_binding kind (get_or class s 0) i) needed.like

  pub class_old : (a : ℕ) → a < length table → get_or class' a 0 ≡ get_or class a 0
  class_old a h = get_or-append class (get_or class f 0 ∷ []) 0 a (let e = state.classes.fits in omega arith)

  pub class_new : get_or class' (length table) 0 ≡ get_or class f 0
  class_new = let e = state.classes.fits in ap (λ (n : ℕ). get_or class' n 0) (sym e) ∙ get_or-append_seam class (get_or class f 0) [] 0

  pub below_cases : (a : ℕ) → a < length table' → (a < length table) ⊎ (a ≡ length table)
  below_cases a h = elim (cases_lt a (length table)) [ inl l ↦ inl l | inr g ↦ inr (let e = len in omega arith) ]

  table_ok' : IsTable table'
  table_ok' = record {
    earlier = λ k site part e inside. elim (slice_get-pushed table new k site e) [
      | inl h ↦ state.table_ok.earlier k site part h inside
      | inr (p, q) ↦
          let at : part.0 ≡ s = one_source kind s i part (subst (λ (b : Binding). Contains (sources_of b) part) (sym q) inside) in
          let l = needed.site_in in omega arith
    ];
    once = λ b j k p q. elim (slice_get-pushed table new j b p) [
      | inl pj ↦ elim (slice_get-pushed table new k b q) [
        | inl qk ↦ state.table_ok.once b j k pj qk
        | inr (e, d) ↦ absurd (needed.missing j (pj ∙ ap Some (sym d)))
      ]
      | inr (e, d) ↦ elim (slice_get-pushed table new k b q) [
        | inl qk ↦ absurd (needed.missing k (qk ∙ ap Some (sym d)))
        | inr (g, h) ↦ e ∙ sym g
      ]
    ];
  }

  -- the representatives stay
  pub root_below : (a : ℕ) → a < length table' → get_or class' a 0 < length table
  root_below a h = elim (below_cases a h) [
    | inl l ↦ subst (λ (z : ℕ). z < length table) (sym (class_old a l)) (state.classes.below a l)
    | inr e ↦ subst (λ (z : ℕ). z < length table) (sym (ap (λ (z : ℕ). get_or class' z 0) e ∙ class_new)) (state.classes.below f f_in)
  ]

  -- the class of a site in the longer table is that of a site that was there: the site itself, or the like field
  class_of : (a : ℕ) → a < length table' → (b : ℕ) × (b < length table) × (get_or class' a 0 ≡ get_or class b 0)
  class_of a h = elim (below_cases a h) [ inl l ↦ (a, l, class_old a l) | inr e ↦ (f, f_in, ap (λ (z : ℕ). get_or class' z 0) e ∙ class_new) ]

  like' : (a : ℕ) (c : Constraint) (k : Option ℕ) (j g h : ℕ) → a < length table' → HasOwn own (get_or class' a 0) c → Opens c k j
      → slice_get table' g ≡ Some (field_binding k a j) → slice_get table' h ≡ Some (field_binding k (get_or class' a 0) j)
      → get_or class' g 0 ≡ get_or class' h 0
  like' a c k j g h l has m p q = elim (slice_get-pushed table new h (field_binding k (get_or class' a 0) j) q) [
    | inr (e, d) ↦
        let (n, there) = state.fields (get_or class' a 0) k j (c, has, m) in
        absurd (needed.missing n (there ∙ ap Some (sym d)))
    | inl old_q ↦
        let h_in : h < length table = slice_get_within table h (field_binding k (get_or class' a 0) j) old_q in
        elim (slice_get-pushed table new g (field_binding k a j) p) [
          | inl old_p ↦
              let g_in : g < length table = slice_get_within table g (field_binding k a j) old_p in
              let a_in : a < g = state.table_ok.earlier g (field_binding k a j) _ old_p (field_source k a j) in
              let a_old : get_or class' a 0 ≡ get_or class a 0 = class_old a (omega arith) in
              class_old g g_in
              ∙ state.closed.like a c k j g h (omega arith) (subst (λ (z : ℕ). HasOwn own z c) a_old has) m old_p
              (subst (λ (z : ℕ). slice_get table h ≡ Some (field_binding k z j)) a_old old_q)
              ∙ sym (class_old h h_in)
          | inr (e, d) ↦
              let (same_s, same_k, same_i) = field_parts kind s i k a j d in
              let s_old : get_or class' a 0 ≡ get_or class s 0 = ap (λ (z : ℕ). get_or class' z 0) (sym same_s) ∙ class_old s needed.site_in in
              let b : field_binding k (get_or class' a 0) j ≡ field_binding kind (get_or class s 0) i =
              λ z. field_binding (sym same_k z) (s_old z) (sym same_i z) in
              let same : f ≡ h = state.table_ok.once (field_binding kind (get_or class s 0) i) f h needed.like (old_q ∙ ap Some b) in
              ap (λ (z : ℕ). get_or class' z 0) e ∙ class_new ∙ ap (λ (z : ℕ). get_or class z 0) same ∙ sym (class_old h h_in)
        ]
  ]

  pub state_more : IsState own equals table' class'
  state_more = record {
    table_ok = table_ok';
    classes = record {
      fits = let e = state.classes.fits in simp length-append (omega arith);
      below = λ a h. let l = root_below a h in let e = len in omega arith;
      flat = λ a h. let (b, l, e) = class_of a h in ap (λ (z : ℕ). get_or class' z 0) e ∙ class_old (get_or class b 0)
          (state.classes.below b l) ∙ state.classes.flat b l ∙ sym e;
    };
    roots = λ a h. let (b, l, e) = class_of a h in subst (λ (z : ℕ). z < length own) (sym e) (state.roots b l);
    own_fits = let e = len in let o = state.own_fits in omega arith;
    within = λ a b h. let (p, q) = state.within a b h in let e = len in (omega arith, omega arith);
    closed = record {
      given = λ a b h. let (p, q) = state.within a b h in class_old a p ∙ state.closed.given a b h ∙ sym (class_old b q);
      shared = λ a c h k. elim (below_cases a h) [
        | inl l ↦ subst (λ (z : ℕ). HasOwn own z c) (sym (class_old a l)) (state.closed.shared a c l k)
        | inr e ↦ let x = own_in own a c k in let o = state.own_fits in absurd (omega arith)
      ];
      like = like';
    };
    fields = λ a k j opened. let (g, e) = state.fields a k j opened in
        (g, slice_get-kept table (field_binding kind s i ∷ []) g (field_binding k a j) e);
  }

-- Growth by any number of fields.
module _ (own : List (Option Constraint)) (equals : List (ℕ × ℕ)) where
  pub grown_state : (t u : List Binding) (c d : List ℕ) → Grows own t c u d → IsState own equals t c → IsState own equals u d
  grown_state t u c d Still state = state
  grown_state t u c d (Added {u = w} {d = e} s kind i f g needed) state = state_more own equals w e (grown_state t w c e g state) s kind i f needed

  pub grown_longer : (t u : List Binding) (c d : List ℕ) → Grows own t c u d → (k : ℕ) (b : Binding) → slice_get t k ≡ Some b → slice_get u k ≡ Some b
  grown_longer t u c d Still k b h = h
  grown_longer t u c d (Added {u = w} {d = e} s kind i f g needed) k b h = slice_get-kept w (field_binding kind s i ∷ []) k b
      (grown_longer t w c e g k b h)

  pub grown_sites : (t u : List Binding) (c d : List ℕ) → Grows own t c u d → length t ≤ length u
  grown_sites t u c d Still = omega arith
  grown_sites t u c d (Added {u = w} {d = e} s kind i f g needed) =
      let a = grown_sites t w c e g in let b : length (w ++ field_binding kind s i ∷ []) ≡ suc (length w) =
      simp length-append (omega arith) in omega arith

  pub grown_class : (t u : List Binding) (c d : List ℕ) → Grows own t c u d → IsState own equals t c → (a : ℕ)
      → a < length t → get_or d a 0 ≡ get_or c a 0
  grown_class t u c d Still state a h = refl
  grown_class t u c d (Added {u = w} {d = e} s kind i f g needed) state a h =
      let l = grown_sites t w c e g in
      class_old own equals w e (grown_state t w c e g state) s kind i f needed a (omega arith) ∙ grown_class t w c e g state a h

  pub grown_join : (t u w : List Binding) (c d e : List ℕ) → Grows own t c u d → Grows own u d w e → Grows own t c w e
  grown_join t u w c d e g Still = g
  grown_join t u w c d e g (Added {u = x} {d = y} s kind i f h needed) = Added s kind i f (grown_join t u x c d y g h) needed

  -- a site that had its fields has them
  pub grown_fields : (t u : List Binding) (c d : List ℕ) → Grows own t c u d → IsState own equals t c → (a : ℕ) → a < length t → HasFields own t c a
      → HasFields own u d a
  grown_fields t u c d g state a l full kind i (test, has, opens) =
      let e = grown_class t u c d g state a l in
      let (f, h) = full kind i (test, subst (λ (z : ℕ). HasOwn own z test) e has, opens) in
      (f, grown_longer t u c d g f (field_binding kind a i) h)
