-- What is derived holds wherever the demands do, and the demands wherever the closed ones do.
use Rattle.std.proofs.Common.{◌≡◌, ◌≢◌, ◌<◌, ◌≤◌, ◌+◌, inl, inr, ℕ, zero, suc, List, refl, sym, ◌∙◌, ap, subst, arith}
use Rattle.isle_meaning.specs.Values.{Value, bool_value, int_value, constant_value, opaque_value, made_variant, made_struct, Values}
use Rattle.isle_meaning.specs.Got.{Got, unknown, fails, gives}
use Rattle.isle_meaning.specs.Values.{no_values, more_values, nth, count}
use Rattle.isle_meaning.specs.Facts.{TermFacts, nth_type}
use Rattle.isle_meaning.specs.Sites.{Site, match_variant, extract_struct}
use Rattle.isle_meaning.specs.Held.{Held, held_value, held_outputs, held_none, held_some, held_answers}
use Rattle.isle_meaning.specs.Demands.{Constraint, variant_constraint, struct_constraint, bool_constraint, int_constraint}
use Rattle.isle_meaning.specs.Demands.{prim_constraint, some_constraint, Demand, constrained, equal}
use Rattle.isle_meaning.specs.Derived.{Derived, demanded, flipped, chained, shared, like_variant, like_struct, Closed, FieldOf}
use Rattle.isle_meaning.specs.Derived.{of_variant, of_struct, Inside, directly, further_in}
use Rattle.isle_meaning.specs.Faults.{IsUnreachable, Differ}
use Rattle.isle_meaning.specs.Holds.{Holds, IsProper, IsVariantField, IsStructField, Respects}
use Rattle.isle_meaning.specs.Held.{Meets}
use Rattle.isle_meaning.specs.Sorts.{Suits, AllSuit}
use Rattle.isle_meaning.proofs.Matching.Deciding.{stable}

nth_below : (vs : Values) (i : ℕ) → i < count vs → (v : Value) × (nth vs i ≡ gives v)
nth_below no_values i l = absurd (omega arith)
nth_below (more_values x xs) zero l = (x, refl)
nth_below (more_values x xs) (suc i) l = nth_below xs i (omega arith)

same_values : (vs us : Values) → count vs ≡ count us → ((i : ℕ) (v : Value) → i < count vs → nth vs i ≡ gives v → nth us i ≡ gives v)
    → vs ≡ us
same_values no_values no_values e h = refl
same_values no_values (more_values y ys) e h = absurd (omega arith)
same_values (more_values x xs) no_values e h = absurd (omega arith)
same_values (more_values x xs) (more_values y ys) e h =
    let a : y ≡ x = let p = h 0 x (omega arith) refl in cc in
    let b : xs ≡ ys = same_values xs ys (omega arith) (λ i v l q. h (suc i) v (omega arith) q) in cc

abbrev mutual
  pub height : Value → ℕ
  height (bool_value b) = 0
  height (int_value n) = 0
  height (constant_value n) = 0
  height (opaque_value n) = 0
  height (made_variant ty k vs) = suc (height_all vs)
  height (made_struct ty vs) = suc (height_all vs)

  pub height_all : Values → ℕ
  height_all no_values = 0
  height_all (more_values x xs) = suc (height x + height_all xs)

abbrev pub height_of : Held → ℕ
height_of (held_value v) = height v
height_of (held_outputs vs) = 0
height_of held_none = 0
height_of (held_some h) = 0
height_of (held_answers l) = 0

nth_lower : (vs : Values) (i : ℕ) (v : Value) → nth vs i ≡ gives v → height v ≤ height_all vs
nth_lower no_values i v e = absurd cc
nth_lower (more_values x xs) zero v e = let s : x ≡ v = cc in let d : height x ≡ height v = ap height s in omega arith
nth_lower (more_values x xs) (suc i) v e = let d : height v ≤ height_all xs = nth_lower xs i v e in omega arith

variant_lower : (x : Held) (k i : ℕ) (y : Held) → IsVariantField x k i y → height_of y < height_of x
variant_lower x k i y f =
    let a : height_of x ≡ suc (height_all (f.fields)) = ap height_of (f.made) in
    let c : height_of y ≡ height (f.field) = ap height_of (f.same) in
    let b : height (f.field) ≤ height_all (f.fields) = nth_lower (f.fields) i (f.field) (f.there) in omega arith

struct_lower : (x : Held) (i : ℕ) (y : Held) → IsStructField x i y → height_of y < height_of x
struct_lower x i y f =
    let a : height_of x ≡ suc (height_all (f.fields)) = ap height_of (f.built) in
    let c : height_of y ≡ height (f.field) = ap height_of (f.same) in
    let b : height (f.field) ≤ height_all (f.fields) = nth_lower (f.fields) i (f.field) (f.there) in omega arith

-- which kind of constraint
abbrev tag : Constraint → ℕ
tag (bool_constraint b ty) = 0
tag (int_constraint n ty) = 1
tag (prim_constraint n) = 2
tag (variant_constraint ty k n) = 3
tag (struct_constraint ty n) = 4
tag some_constraint = 5

abbrev tag_value : Value → ℕ
tag_value (bool_value b) = 0
tag_value (int_value n) = 1
tag_value (constant_value n) = 2
tag_value (made_variant ty k vs) = 3
tag_value (made_struct ty vs) = 4
tag_value (opaque_value n) = 6

abbrev tag_held : Held → ℕ
tag_held (held_value v) = tag_value v
tag_held (held_some h) = 5
tag_held (held_outputs vs) = 6
tag_held held_none = 6
tag_held (held_answers l) = 6

tagged : (c : Constraint) (x : Held) → Meets c x → tag_held x ≡ tag c
tagged (bool_constraint b ty) x m = ap tag_held m
tagged (int_constraint n ty) x m = ap tag_held m
tagged (prim_constraint n) x m = ap tag_held m
tagged (variant_constraint ty k n) x (vs, p, q) = ap tag_held p
tagged (struct_constraint ty n) x (vs, p, q) = ap tag_held p
tagged some_constraint x (y, p) = ap tag_held p

-- what is held meets one constraint of its type
pub meets_one : (facts : TermFacts) (tys : List ℕ) (s : Site) (c d : Constraint) (x : Held) → Suits facts tys (constrained s c)
    → Suits facts tys (constrained s d) → Meets c x → Meets d x → c ≡ d
meets_one facts tys s (bool_constraint a t) (bool_constraint b u) x f g m l = cc
meets_one facts tys s (int_constraint a t) (int_constraint b u) x f g m l = cc
meets_one facts tys s (prim_constraint a) (prim_constraint b) x f g m l = cc
meets_one facts tys s (variant_constraint t k n) (variant_constraint u j m) x f g (vs, p, q) (us, r, o) =
    let a : held_value (made_variant t k vs) ≡ held_value (made_variant u j us) = sym p ∙ r in let e : vs ≡ us = cc in let d : n ≡ m =
    sym q ∙ ap count e ∙ o in cc
meets_one facts tys s (struct_constraint t n) (struct_constraint u m) x f g (vs, p, q) (us, r, o) =
    let a : held_value (made_struct t vs) ≡ held_value (made_struct u us) = sym p ∙ r in let e : vs ≡ us = cc in let d : n ≡ m =
    sym q ∙ ap count e ∙ o in cc
meets_one facts tys s some_constraint some_constraint x f g m l = refl
meets_one facts tys s c d x f g m l = let p : tag c ≡ tag d = sym (tagged c x m) ∙ tagged d x l in absurd (omega arith)

-- what is derived is of its sites' types too
module _ (facts : TermFacts) (tys : List ℕ) where
  has_suits : (s u : Site) (c : Constraint) → Suits facts tys (equal s u) → Suits facts tys (constrained s c)
      → Suits facts tys (constrained u c)
  has_suits s u (variant_constraint t k n) (ty, p, q) f = cc
  has_suits s u (struct_constraint t n) (ty, p, q) f = cc
  has_suits s u (bool_constraint b t) (ty, p, q) f = cc
  has_suits s u (int_constraint n t) (ty, p, q) f = cc
  has_suits s u (prim_constraint n) (ty, p, q) (t, f) = (ty, q)
  has_suits s u some_constraint (ty, p, q) (k, f) = absurd cc

  module _ (D : Demand → Type 0) (suit : AllSuit facts tys D) where
    pub derived_suits : (d : Demand) → Derived D d → Suits facts tys d
    derived_suits d (demanded h) = suit d h
    derived_suits d (flipped {s = s} {u = u} h) = let (ty, p, q) = derived_suits (equal s u) h in (ty, q, p)
    derived_suits d (chained {s = s} {u = u} {w = w} h g) =
        let (ty, p, q) = derived_suits (equal s u) h in let (t, r, o) = derived_suits (equal u w) g in (ty, p, cc)
    derived_suits d (shared {s = s} {u = u} {c = c} h g) = has_suits s u c (derived_suits (equal s u) h) (derived_suits (constrained s c) g)
    derived_suits d (like_variant {s = s} {u = u} {ty = t} {k = k} {n = n} {i = i} h g l) =
        let (ty, p, q) = derived_suits (equal s u) h in (nth_type (facts.variant_fields ty k) i, rw p refl, rw q refl)
    derived_suits d (like_struct {s = s} {u = u} {ty = t} {n = n} {i = i} h g l) =
        let (ty, p, q) = derived_suits (equal s u) h in (nth_type (facts.struct_fields ty) i, rw p refl, rw q refl)

module _ (val : Site → Got Held) (respects : Respects val) where
  -- a site under a variant, or a struct, has its fields' values
  variant_value : (s : Site) (ty k n i : ℕ) → Holds val (constrained s (variant_constraint ty k n)) → i < n → (x : Held) × (y : Held)
      × (val s ≡ gives x) × (val (match_variant s k i) ≡ gives y) × IsVariantField x k i y
  variant_value s ty k n i (x, e, (fs, m, l)) h =
      let (v, g) = nth_below fs i (omega arith) in
      let f : IsVariantField x k i (held_value v) = record { ty = ty; fields = fs; field = v; made = m; there = g; same = refl } in
      (x, held_value v, e, (respects.variant s k i x (held_value v) e).0 f, f)

  struct_value : (s : Site) (ty n i : ℕ) → Holds val (constrained s (struct_constraint ty n)) → i < n → (x : Held) × (y : Held)
      × (val s ≡ gives x) × (val (extract_struct s i) ≡ gives y) × IsStructField x i y
  struct_value s ty n i (x, e, (fs, m, l)) h =
      let (v, g) = nth_below fs i (omega arith) in
      let f : IsStructField x i (held_value v) = record { ty = ty; fields = fs; field = v; built = m; there = g; same = refl } in
      (x, held_value v, e, (respects.struct s i x (held_value v) e).0 f, f)

  module _ (D : Demand → Type 0) (holds : (d : Demand) → D d → Holds val d) where
    pub derived_holds : (d : Demand) → Derived D d → Holds val d
    derived_holds d (demanded h) = holds d h
    derived_holds d (flipped {s = s} {u = u} h) = let (x, e, g) = derived_holds (equal s u) h in (x, g, e)
    derived_holds d (chained {s = s} {u = u} {w = w} h k) = let (x, e, g) = derived_holds (equal s u) h in let (y, m, l) =
        derived_holds (equal u w) k in (x, e, cc)
    derived_holds d (shared {s = s} {u = u} {c = c} h k) =
        let (x, e, g) = derived_holds (equal s u) h in let (y, m, l) = derived_holds (constrained s c) k in
        let q : y ≡ x = cc in (x, g, subst (Meets c) q l)
    derived_holds d (like_variant {s = s} {u = u} {ty = ty} {k = k} {n = n} {i = i} h g l) =
        let (x, e, o) = derived_holds (equal s u) h in
        let (z, y, m, r, p) = variant_value s ty k n i (derived_holds (constrained s (variant_constraint ty k n)) g) l in
        let q : z ≡ x = cc in
        (y, r, (respects.variant u k i x y o).0 (subst (λ (w : Held). IsVariantField w k i y) q p))
    derived_holds d (like_struct {s = s} {u = u} {ty = ty} {n = n} {i = i} h g l) =
        let (x, e, o) = derived_holds (equal s u) h in
        let (z, y, m, r, p) = struct_value s ty n i (derived_holds (constrained s (struct_constraint ty n)) g) l in
        let q : z ≡ x = cc in
        (y, r, (respects.struct u i x y o).0 (subst (λ (w : Held). IsStructField w i y) q p))

    -- a field inside has a value, and a lower one
    field_lower : (s u : Site) → FieldOf D s u → (x : Held) × (y : Held) × (val s ≡ gives x) × (val u ≡ gives y)
        × (height_of y < height_of x)
    field_lower s u (of_variant {ty = ty} {k = k} {n = n} {i = i} h l) =
        let (x, y, e, g, f) =
        variant_value s ty k n i (derived_holds (constrained s (variant_constraint ty k n)) h) l in
        (x, y, e, g, variant_lower x k i y f)
    field_lower s u (of_struct {ty = ty} {n = n} {i = i} h l) =
        let (x, y, e, g, f) =
        struct_value s ty n i (derived_holds (constrained s (struct_constraint ty n)) h) l in (x, y, e, g, struct_lower x i y f)

    inside_lower : (s u : Site) → Inside D s u → (x : Held) × (y : Held) × (val s ≡ gives x) × (val u ≡ gives y)
        × (height_of y < height_of x)
    inside_lower s u (directly f) = field_lower s u f
    inside_lower s u (further_in {u = w} h f) =
        let (x, z, e, g, l) = inside_lower s w h in
        let (a, y, m, r, b) = field_lower w u f in
        let q : height_of z ≡ height_of a = let o : z ≡ a = cc in ap height_of o in
        (x, y, e, r, omega arith)

    pub is_reachable : (facts : TermFacts) (tys : List ℕ) → AllSuit facts tys D → IsUnreachable D → ⊥
    is_reachable facts tys suit (inl c) =
        let (x, e, m) = derived_holds (constrained (c.site) (c.one)) (c.has_one) in
        let (y, g, l) = derived_holds (constrained (c.site) (c.other)) (c.has_other) in
        let q : y ≡ x = cc in
        c.differ (meets_one facts tys (c.site) (c.one) (c.other) x (derived_suits facts tys D suit _ (c.has_one))
        (derived_suits facts tys D suit _ (c.has_other)) m (subst (Meets (c.other)) q l))
    is_reachable facts tys suit (inr c) =
        let (x, y, e, g, l) = inside_lower (c.site) (c.part) (c.inside) in
        let (z, m, k) = derived_holds (equal (c.site) (c.part)) (c.same) in
        let q : height_of x ≡ height_of y = let r : x ≡ y = cc in ap height_of r in omega arith

  -- two sets of demands of which some site has different constraints never both hold
  pub never_both : (facts : TermFacts) (tys : List ℕ) (D E : Demand → Type 0) → AllSuit facts tys D → AllSuit facts tys E
      → ((d : Demand) → D d → Holds val d) → ((d : Demand) → E d → Holds val d) → Differ D E → ⊥
  never_both facts tys D E fd fe hd he c =
      let (x, e, m) = derived_holds D hd (constrained (c.site) (c.one)) (c.has_one) in
      let (y, g, l) = derived_holds E he (constrained (c.site) (c.other)) (c.has_other) in
      let q : y ≡ x = cc in
      c.apart (meets_one facts tys (c.site) (c.one) (c.other) x (derived_suits facts tys D fd _ (c.has_one))
      (derived_suits facts tys E fe _ (c.has_other)) m (subst (Meets (c.other)) q l))

  module _ (facts : TermFacts) (tys : List ℕ) (D : Demand → Type 0) (suit : AllSuit facts tys D) (closed : (d : Demand) → Closed D d
      → Holds val d) where
    abbrev Agrees : ℕ → Type 0
    Agrees fuel = (s u : Site) → s ≢ u → Derived D (equal s u) → (x : Held) → val s ≡ gives x → height_of x < fuel → val u ≡ gives x

    -- of one constraint, with like fields alike
    alike : (fuel : ℕ) → Agrees fuel → (s u : Site) → s ≢ u → Derived D (equal s u) → (x : Held) → val s ≡ gives x → height_of x < suc fuel
        → (c : Constraint) → Derived D (constrained s c) → val u ≡ gives x
    alike fuel rec s u n h x e l (bool_constraint b ty) d = let (y, p, m) =
        closed (constrained s (bool_constraint b ty)) d in let (z, q, o) =
        closed (constrained u (bool_constraint b ty)) (shared h d) in let r : z ≡ x = cc in cc
    alike fuel rec s u n h x e l (int_constraint b ty) d = let (y, p, m) = closed (constrained s (int_constraint b ty)) d in let (z, q, o) =
        closed (constrained u (int_constraint b ty)) (shared h d) in let r : z ≡ x = cc in cc
    alike fuel rec s u n h x e l (prim_constraint b) d = let (y, p, m) = closed (constrained s (prim_constraint b)) d in let (z, q, o) =
        closed (constrained u (prim_constraint b)) (shared h d) in let r : z ≡ x = cc in cc
    alike fuel rec s u n h x e l some_constraint d =
        let (ty, p, q) = derived_suits facts tys D suit (equal s u) h in let (k, r) =
        derived_suits facts tys D suit (constrained s some_constraint) d in absurd cc
    alike fuel rec s u n h x e l (variant_constraint ty k m) d =
        let (y, p, (vs, a, f)) = closed (constrained s (variant_constraint ty k m)) d in let (z, q, (us, b, g)) =
        closed (constrained u (variant_constraint ty k m)) (shared h d) in
        let r : x ≡ held_value (made_variant ty k vs) = cc in
        let hx : height_of x ≡ suc (height_all vs) = ap height_of r in
        let same : vs ≡ us = same_values vs us (f ∙ sym g) (λ i w j o.
        let its : val (match_variant s k i) ≡ gives (held_value w) =
        (respects.variant s k i x (held_value w) e).0 (record { ty = ty; fields = vs; field = w; made = r; there = o; same = refl }) in
        let low : height w ≤ height_all vs = nth_lower vs i w o in
        let there : val (match_variant u k i) ≡ gives (held_value w) =
        rec (match_variant s k i) (match_variant u k i) (λ t. n cc) (like_variant h d (omega arith)) (held_value w) its (omega arith) in
        let v : IsVariantField z k i (held_value w) = (respects.variant u k i z (held_value w) q).1 there in
        let c : held_value (made_variant ty k us) ≡ held_value (made_variant (v.ty) k (v.fields)) = sym b ∙ v.made in
        let c' : us ≡ v.fields = cc in
        let o' : held_value w ≡ held_value (v.field) = v.same in
        let o'' : v.field ≡ w = cc in
        subst (λ (zs : Values). nth zs i ≡ gives w) (sym c') (v.there ∙ ap (λ (t : Value). gives t) o'')) in
        let t : z ≡ x = b ∙ ap (λ (zs : Values). held_value (made_variant ty k zs)) (sym same) ∙ sym r in q ∙ ap (λ (t : Held). gives t) t
    alike fuel rec s u n h x e l (struct_constraint ty m) d =
        let (y, p, (vs, a, f)) = closed (constrained s (struct_constraint ty m)) d in let (z, q, (us, b, g)) =
        closed (constrained u (struct_constraint ty m)) (shared h d) in
        let r : x ≡ held_value (made_struct ty vs) = cc in
        let hx : height_of x ≡ suc (height_all vs) = ap height_of r in
        let same : vs ≡ us = same_values vs us (f ∙ sym g) (λ i w j o.
        let its : val (extract_struct s i) ≡ gives (held_value w) =
        (respects.struct s i x (held_value w) e).0 (record { ty = ty; fields = vs; field = w; built = r; there = o; same = refl }) in
        let low : height w ≤ height_all vs = nth_lower vs i w o in
        let there : val (extract_struct u i) ≡ gives (held_value w) =
        rec (extract_struct s i) (extract_struct u i) (λ t. n cc) (like_struct h d (omega arith)) (held_value w) its (omega arith) in
        let v : IsStructField z i (held_value w) = (respects.struct u i z (held_value w) q).1 there in
        let c : held_value (made_struct ty us) ≡ held_value (made_struct (v.ty) (v.fields)) = sym b ∙ v.built in
        let c' : us ≡ v.fields = cc in
        let o' : held_value w ≡ held_value (v.field) = v.same in
        let o'' : v.field ≡ w = cc in
        subst (λ (zs : Values). nth zs i ≡ gives w) (sym c') (v.there ∙ ap (λ (t : Value). gives t) o'')) in
        let t : z ≡ x = b ∙ ap (λ (zs : Values). held_value (made_struct ty zs)) (sym same) ∙ sym r in q ∙ ap (λ (t : Held). gives t) t

    -- derived equal sites hold one value, where the first holds one
    agrees : (fuel : ℕ) → Agrees fuel
    agrees zero s u n h x e l = absurd (omega arith)
    agrees (suc fuel) s u n h x e l = stable (val u) x (λ m.
        m (let (y, p, q) = closed (equal s u) (h, n, λ c d. m (alike fuel (agrees fuel) s u n h x e l c d)) in let r : y ≡ x = cc in cc))

    -- and the first does
    first_held : (s u : Site) → s ≢ u → Derived D (equal s u) → (g : Got Held) → val s ≡ g → ((x : Held) → g ≡ gives x → ⊥) → ⊥
    first_held s u n h g e m =
        let (y, p, q) = closed (equal s u) (h, n, λ c d. let (x, o, r) = closed (constrained s c) d in m x (sym e ∙ o)) in m y (sym e ∙ p)

    both_held : (s u : Site) → s ≢ u → Derived D (equal s u) → (g : Got Held) → val s ≡ g → Holds val (equal s u)
    both_held s u n h unknown e = absurd (first_held s u n h unknown e (λ x p. cc))
    both_held s u n h fails e = absurd (first_held s u n h fails e (λ x p. cc))
    both_held s u n h (gives x) e = (x, e, agrees (suc (height_of x)) s u n h x e (omega arith))

    pub from_closed : (d : Demand) → D d → IsProper d → Holds val d
    from_closed (constrained s c) h p = closed (constrained s c) (demanded h)
    from_closed (equal s u) h p = both_held s u p (demanded h) (val s) refl
