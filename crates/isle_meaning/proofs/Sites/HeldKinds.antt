-- What sites of kinds hold.
use Rattle.std.proofs.Common.{◌≡◌, inl, inr, ℕ, zero, suc, ◌<◌, ◌==◌, List, [], ◌∷◌, length, Bool, true, false, Option, Some, None}
use Rattle.std.proofs.Common.{slice_get}
use Rattle.std.proofs.Common.{refl, sym, ap, subst, ◌∙◌, arith}
use Rattle.std.specs.Prelude.{if◌then◌else◌}
use Rattle.isle_trees.specs.Answers.{HasValue}
use Rattle.isle_meaning.specs.Got.{Got, unknown, fails, gives}
use Rattle.isle_meaning.specs.Values.{Value, bool_value, int_value, constant_value, made_variant, made_struct, Values, no_values}
use Rattle.isle_meaning.specs.Values.{more_values, count, nth, nth_of, more, made, built, ask}
use Rattle.isle_meaning.specs.Facts.{TermFacts}
use Rattle.isle_meaning.specs.Answers.{Completion, IsAllowed, answered, answer_of}
use Rattle.isle_meaning.specs.Sites.{Site, bool_site, int_site, prim_site, argument, extractor_call, constructor_call, iterator}
use Rattle.isle_meaning.specs.Sites.{make_variant, match_variant, make_struct, extract_struct, make_some, match_some, match_tuple}
use Rattle.isle_meaning.specs.Sites.{Sites, no_sites, more_sites}
use Rattle.isle_meaning.specs.AboutSites.Functions.{GivesLists}
use Rattle.isle_meaning.specs.Held.{item_of}
use Rattle.isle_meaning.specs.Held.{Held, held_value, held_outputs, held_some, held, plain, outputs_of, extracted, constructed}
use Rattle.isle_meaning.specs.Held.{held_answers, extract_held, construct_held, several_of, variant_field, field_if, struct_field, output_of, value, values}
use Rattle.isle_meaning.specs.Sorts.{Sort, plain_sort, option_sort, list_sort, sort, of_outputs, extract_sort, construct_sort, inner_sort}
use Rattle.isle_meaning.specs.Sorts.{output_sort, field_sort}
use Rattle.isle_meaning.proofs.Matching.Basics.{ask_gives, content_gives}
use Rattle.isle_meaning.specs.AboutSites.Kinds.{IsPlain, MayBeCalled, HasItsKind, HaveTheirKinds, IsKinded, IsOfKind}
use Rattle.isle_meaning.proofs.Sites.Kinded.{several_so}
use Rattle.isle_meaning.specs.AboutSites.Parts.{parts_of, IsOneOf}
use Rattle.isle_meaning.specs.Laws.Sites.{SitesKeepKinds}

-- A value below the count is there.
pub nth_there : (vs : Values) (i : ℕ) → i < count vs → (y : Value) × (nth vs i ≡ gives y)
nth_there no_values i l = absurd (omega arith)
nth_there (more_values x xs) zero l = (x, refl)
nth_there (more_values x xs) (suc i) l = nth_there xs i (omega arith)

-- what is held of a value is a value
held_gives : (g : Got Value) (h : Held) → held g ≡ gives h → (v : Value) × (h ≡ held_value v)
held_gives unknown h e = absurd cc
held_gives fails h e = absurd cc
held_gives (gives v) h e = (v, cc)

-- outputs are of their kind
outputs_kind : (ts : List ℕ) (vs : Values) → count vs ≡ length ts → IsOfKind (of_outputs ts) (outputs_of vs)
outputs_kind [] no_values e = (no_values, refl, refl)
outputs_kind [] (more_values x xs) e = absurd (omega arith)
outputs_kind (t ∷ []) no_values e = absurd (omega arith)
outputs_kind (t ∷ []) (more_values x no_values) e = (x, refl)
outputs_kind (t ∷ []) (more_values x (more_values y ys)) e = absurd (omega arith)
outputs_kind (t ∷ (u ∷ us)) no_values e = absurd (omega arith)
outputs_kind (t ∷ (u ∷ us)) (more_values x no_values) e = absurd (omega arith)
outputs_kind (t ∷ (u ∷ us)) (more_values x (more_values y ys)) e = (more_values x (more_values y ys), refl, e)

-- What is of a plain kind is a value.
pub plain_held_kind : (k : Sort) (h : Held) → IsPlain k → IsOfKind k h → (v : Value) × (h ≡ held_value v)
plain_held_kind k h p o = subst (λ (s : Sort). IsOfKind s h) (p.1) o

module _ (facts : TermFacts) (tys : List ℕ) (c : Completion) (args : Values) (done : List (Option Value)) (allowed : IsAllowed facts c) where
  -- what a site holds
  abbrev val : Site → Got Held
  val s = value facts c args done s

  -- an extractor's answer is of its kind
  extracted_kind : (b : Bool) (t : ℕ) (v : Value) (g : Got Values) (h : Held) → c.extract t v ≡ g → extracted b g ≡ gives h
      → IsOfKind (extract_sort false b (of_outputs (facts.inputs t))) h
  extracted_kind b t v unknown h q e = absurd cc
  extracted_kind true t v fails h q e = absurd cc
  extracted_kind false t v fails h q e = inl cc
  extracted_kind true t v (gives vs) h q e =
      let same : outputs_of vs ≡ h = cc in
      subst (IsOfKind (of_outputs (facts.inputs t))) same (outputs_kind (facts.inputs t) vs (allowed.outputs t v vs q))
  extracted_kind false t v (gives vs) h q e =
      let same : held_some (outputs_of vs) ≡ h = cc in
      inr (outputs_of vs, sym same, outputs_kind (facts.inputs t) vs (allowed.outputs t v vs q))

  -- so is a constructor's
  constructed_kind : (b : Bool) (u : ℕ) (g : Got Value) (h : Held) → constructed b g ≡ gives h → IsOfKind (construct_sort false b (plain_sort u)) h
  constructed_kind b u unknown h e = absurd cc
  constructed_kind true u fails h e = inl cc
  constructed_kind false u fails h e = absurd cc
  constructed_kind true u (gives v) h e = inr (held_value v, cc, (v, refl))
  constructed_kind false u (gives v) h e = (v, cc)

  -- a variant's field is a value
  field_gives : (k i : ℕ) (v : Value) (h : Held) → variant_field k i v ≡ gives h → (w : Value) × (h ≡ held_value w)
  field_gives k i (made_variant ty j vs) h e = go (j == k) e
    where
      go : (b : Bool) → field_if b vs i ≡ gives h → (w : Value) × (h ≡ held_value w)
      go true q = held_gives (nth vs i) h q
      go false q = absurd cc
  field_gives k i v h e = absurd cc

  -- so is a struct's
  struct_gives : (i : ℕ) (v : Value) (h : Held) → struct_field i v ≡ gives h → (w : Value) × (h ≡ held_value w)
  struct_gives i (made_struct ty vs) h e = held_gives (nth vs i) h e
  struct_gives i v h e = absurd cc

  -- and an output
  output_gives : (i : ℕ) (g h : Held) → output_of i g ≡ gives h → (w : Value) × (h ≡ held_value w)
  output_gives i (held_outputs vs) h e = held_gives (nth vs i) h e
  output_gives i g h e = absurd cc

  -- a field is of its kind
  plain_field : (fields : ℕ → List ℕ) (k : Sort) (i : ℕ) (w : Value) (h : Held) → IsPlain k → h ≡ held_value w → IsOfKind (field_sort fields k i) h
  plain_field fields k i w h p e = subst (λ (s : Sort). IsOfKind (field_sort fields s i) h) (sym (p.1)) (w, e)

  -- so is a content
  inner_kind : (k : Sort) (j : Sort) (h : Held) → k ≡ option_sort j → IsOfKind k (held_some h) → IsOfKind (inner_sort k) h
  inner_kind k j h e o =
      subst (λ (s : Sort). IsOfKind (inner_sort s) h) (sym e) (elim (subst (λ (s : Sort). IsOfKind s (held_some h)) e o) [
        | inl q ↦ absurd cc
        | inr q ↦ let same : q.0 ≡ h = let r = q.1 in cc in subst (IsOfKind j) same (q.2)
      ])

  -- multi calls give lists, where several answers are asked
  abbrev pub MayGiveLists : (several : Bool) → Type 0
  MayGiveLists false = Unit {0}
  MayGiveLists true = GivesLists facts c

  -- so they do where one is called
  lists_given : (several : Bool) (t : ℕ) → MayGiveLists several → MayBeCalled several facts t → facts.multi t ≡ true → GivesLists facts c
  lists_given false t g may m = absurd (let e : false ≡ true = sym may ∙ m in cc)
  lists_given true t g may m = g

  -- what is held of a list
  several_held : (g : Got (List Values)) (l : List Values) (h : Held) → g ≡ gives l → several_of g ≡ gives h → h ≡ held_answers l
  several_held g l h e q = let r : several_of (gives l) ≡ gives h = subst (λ (x : Got (List Values)). several_of x ≡ gives h) e q in cc

  -- an item is of its kind
  item_kind : (k : Sort) (n : ℕ) (g h : Held) → IsOfKind (list_sort k) g → item_of n g ≡ gives h → IsOfKind k h
  item_kind k n g h (l, e, f) q =
      let r : item_of n (held_answers l) ≡ gives h = subst (λ (x : Held). item_of n x ≡ gives h) e q in
      let (vs, there, same) = ask_gives (λ (vs : Values). gives (outputs_of vs)) (nth_of l n) h r in
      let z : outputs_of vs ≡ h = cc in subst (IsOfKind k) z (f n vs there)

  module _ (several : Bool) (may_give : MayGiveLists several) where
    -- an extractor's call holds what is of its kind
    extract_kind : (b : Bool) (t : ℕ) (v : Value) (h : Held) → facts.multi t ≡ b → MayBeCalled several facts t
        → extract_held facts c t v ≡ gives h → IsOfKind (extract_sort b (facts.infallible t) (of_outputs (facts.inputs t))) h
    extract_kind true t v h m may e =
        let lists = lists_given several t may_give may m in
        let (l, given, all) = lists.extracts t v in
        let r = subst (λ (b : Bool). (if b then several_of (c.extracts t v) else extracted (facts.infallible t) (c.extract t v)) ≡ gives h) m e in
        (l, several_held (c.extracts t v) l h given r, λ n vs there. outputs_kind (facts.inputs t) vs (all n vs there))
    extract_kind false t v h m may e =
        extracted_kind (facts.infallible t) t v (c.extract t v) h refl
        (subst (λ (b : Bool). (if b then several_of (c.extracts t v) else extracted (facts.infallible t) (c.extract t v)) ≡ gives h) m e)

    -- so does a constructor's
    construct_kind : (b : Bool) (t i : ℕ) (vs : Values) (h : Held) → facts.multi t ≡ b → MayBeCalled several facts t
        → construct_held facts c done t i vs ≡ gives h → IsOfKind (construct_sort b (facts.partial t) (plain_sort (facts.type_of t))) h
    construct_kind true t i vs h m may e =
        let lists = lists_given several t may_give may m in
        let (l, given, all) = lists.constructs t vs in
        let r = subst (λ (b : Bool). (if b then several_of (c.constructs t vs) else constructed (facts.partial t) (answer_of c done t i vs)) ≡ gives
        h) m e in
        (l, several_held (c.constructs t vs) l h given r, λ n xs there. outputs_kind (facts.type_of t ∷ []) xs (all n xs there))
    construct_kind false t i vs h m may e =
        constructed_kind (facts.partial t) (facts.type_of t) (answer_of c done t i vs) h
        (subst (λ (b : Bool). (if b then several_of (c.constructs t vs) else constructed (facts.partial t) (answer_of c done t i vs)) ≡ gives h) m e)

    -- A site holds what is of its kind.
    pub any_kind : (s : Site) (h : Held) → HasItsKind several facts tys s → val s ≡ gives h → IsOfKind (sort facts tys s) h
    any_kind (bool_site b ty) h k e = (bool_value b, cc)
    any_kind (int_site n ty) h k e = (int_value n, cc)
    any_kind (prim_site n) h k e = (constant_value n, cc)
    any_kind (argument i) h k e = held_gives (nth args i) h e
    any_kind (extractor_call t s) h (w, p, may) e =
        let (v, q, r) = ask_gives (extract_held facts c t) (plain (val s)) h e in extract_kind (facts.multi t) t v h refl may r
    any_kind (constructor_call t ss i) h (w, may) e =
        let (vs, q, r) = ask_gives (construct_held facts c done t i) (values facts c args done ss) h e in
        construct_kind (facts.multi t) t i vs h refl may r
    any_kind (iterator s) h k e =
        let (w, (j, p)) = several_so several _ k in
        let (g, q, r) = ask_gives (item_of (c.place s)) (val s) h e in
        subst (λ (z : Sort). IsOfKind (inner_sort z) h) (sym p)
        (item_kind j (c.place s) g h (subst (λ (z : Sort). IsOfKind z g) p (any_kind s g w q)) r)
    any_kind (make_variant ty k ss) h w e = held_gives (made ty k (values facts c args done ss)) h e
    any_kind (match_variant s k i) h (w, p) e =
        let (v, q, r) = ask_gives (variant_field k i) (plain (val s)) h e in
        let (x, y) = field_gives k i v h r in plain_field (λ t. facts.variant_fields t k) (sort facts tys s) i x h p y
    any_kind (make_struct ty ss) h w e = held_gives (built ty (values facts c args done ss)) h e
    any_kind (extract_struct s i) h (w, p) e =
        let (v, q, r) = ask_gives (struct_field i) (plain (val s)) h e in
        let (x, y) = struct_gives i v h r in plain_field facts.struct_fields (sort facts tys s) i x h p y
    any_kind (make_some s) h w e =
        let (g, q, r) = ask_gives (λ x. gives (held_some x)) (val s) h e in
        inr (g, (let z : held_some g ≡ h = cc in sym z), any_kind s g (w.0) q)
    any_kind (match_some s) h (w, (j, p)) e =
        let q = content_gives (val s) h e in inner_kind (sort facts tys s) j h p (any_kind s (held_some h) w q)
    any_kind (match_tuple s i) h (w, (ts, p, l)) e =
        let (g, q, r) = ask_gives (output_of i) (val s) h e in
        let (x, y) = output_gives i g h r in
        subst (λ (z : Sort). IsOfKind (output_sort z i) h) (sym p) (x, y)

  -- ---- what is whole

  -- an extractor's allowed answer doesn't fail
  extracted_holds : (b : Bool) (t : ℕ) (v : Value) (g : Got Values) → facts.infallible t ≡ b → c.extract t v ≡ g → extracted b g ≡ fails → ⊥
  extracted_holds b t v unknown i q e = cc
  extracted_holds true t v fails i q e = let f = allowed.fallible t v q in cc
  extracted_holds false t v fails i q e = cc
  extracted_holds true t v (gives vs) i q e = cc
  extracted_holds false t v (gives vs) i q e = cc

  -- the call may fail where it was answered none
  abbrev pub MayFail : ℕ → ℕ → Type 0
  MayFail t i = (n : ℕ) → i ≡ suc n → slice_get done n ≡ Some None → facts.partial t ≡ true

  -- nor does a constructor's
  constructed_holds : (b : Bool) (t i : ℕ) (vs : Values) (g : Got Value) → MayFail t i → facts.partial t ≡ b → answer_of c done t i vs ≡ g
      → constructed b g ≡ fails → ⊥
  constructed_holds b t i vs unknown a p q e = cc
  constructed_holds true t i vs fails a p q e = cc
  constructed_holds false t zero vs fails a p q e = let f = allowed.partial t vs q in cc
  constructed_holds false t (suc n) vs fails a p q e = let f = a n refl (none_answered (slice_get done n) q) in cc
    where
      none_answered : (o : Option (Option Value)) → answered o ≡ fails → o ≡ Some None
      none_answered None z = absurd cc
      none_answered (Some None) z = refl
      none_answered (Some (Some v)) z = absurd cc
  constructed_holds true t i vs (gives v) a p q e = cc
  constructed_holds false t i vs (gives v) a p q e = cc

  -- the site is no field, content, or value of a multi call, and its call may fail where it was answered none
  abbrev pub IsWhole : Site → Type 0
  IsWhole (bool_site b ty) = Unit {0}
  IsWhole (int_site n ty) = Unit {0}
  IsWhole (prim_site n) = Unit {0}
  IsWhole (argument i) = Unit {0}
  IsWhole (extractor_call t s) = Unit {0}
  IsWhole (constructor_call t ss i) = MayFail t i
  IsWhole (iterator s) = ⊥
  IsWhole (make_variant ty k ss) = Unit {0}
  IsWhole (match_variant s k i) = ⊥
  IsWhole (make_struct ty ss) = Unit {0}
  IsWhole (extract_struct s i) = ⊥
  IsWhole (make_some s) = Unit {0}
  IsWhole (match_some s) = ⊥
  IsWhole (match_tuple s i) = Unit {0}

  module _ (several : Bool) (may_give : MayGiveLists several) where
    -- a plain site with a value holds one
    plain_there : (s : Site) → HasItsKind several facts tys s → IsPlain (sort facts tys s) → HasValue (val s)
        → (v : Value) × (val s ≡ gives (held_value v))
    plain_there s w p h =
        let (v, e) = plain_held_kind (sort facts tys s) (h.0) p (any_kind several may_give s (h.0) w (h.1)) in (v, h.1 ∙ ap (λ (x : Held). gives x) e)

    -- so do sites
    values_there : (ss : Sites) → HaveTheirKinds several facts tys ss → ((u : Site) → IsOneOf ss u → HasValue (val u))
        → (vs : Values) × (values facts c args done ss ≡ gives vs)
    values_there no_sites w h = (no_values, refl)
    values_there (more_sites s ss) w h =
        let (v, e) = plain_there s (w.0.0) (w.0.1) (h s (inl refl)) in
        let (vs, f) = values_there ss (w.1) (λ u m. h u (inr m)) in
        (more_values v vs, ap (λ (g : Got Held). more (plain g) (values facts c args done ss)) e ∙ ap (more (gives v)) f)

    -- a list that is given isn't failed
    list_holds : (g : Got (List Values)) (l : List Values) → g ≡ gives l → several_of g ≡ fails → ⊥
    list_holds g l e q = let r : several_of (gives l) ≡ fails = subst (λ (x : Got (List Values)). several_of x ≡ fails) e q in cc

    -- an extractor's call doesn't fail
    extract_whole : (b : Bool) (t : ℕ) (v : Value) → facts.multi t ≡ b → MayBeCalled several facts t → extract_held facts c t v ≡ fails → ⊥
    extract_whole true t v m may e =
        let lists = lists_given several t may_give may m in
        let (l, given, all) = lists.extracts t v in
        list_holds (c.extracts t v) l given
        (subst (λ (b : Bool). (if b then several_of (c.extracts t v) else extracted (facts.infallible t) (c.extract t v)) ≡ fails) m e)
    extract_whole false t v m may e =
        extracted_holds (facts.infallible t) t v (c.extract t v) refl refl
        (subst (λ (b : Bool). (if b then several_of (c.extracts t v) else extracted (facts.infallible t) (c.extract t v)) ≡ fails) m e)

    -- nor does a constructor's
    construct_whole : (b : Bool) (t i : ℕ) (vs : Values) → facts.multi t ≡ b → MayBeCalled several facts t → MayFail t i
        → construct_held facts c done t i vs ≡ fails → ⊥
    construct_whole true t i vs m may w e =
        let lists = lists_given several t may_give may m in
        let (l, given, all) = lists.constructs t vs in
        list_holds (c.constructs t vs) l given
        (subst (λ (b : Bool). (if b then several_of (c.constructs t vs) else constructed (facts.partial t) (answer_of c done t i vs)) ≡ fails) m e)
    construct_whole false t i vs m may w e =
        constructed_holds (facts.partial t) t i vs (answer_of c done t i vs) w refl refl
        (subst (λ (b : Bool). (if b then several_of (c.constructs t vs) else constructed (facts.partial t) (answer_of c done t i vs)) ≡ fails) m e)

    -- Such a site doesn't fail where its parts have values.
    pub any_whole : count args ≡ length tys → (s : Site) → HasItsKind several facts tys s → IsWhole s
        → ((u : Site) → IsOneOf (parts_of s) u → HasValue (val u)) → val s ≡ fails → ⊥
    any_whole n (bool_site b ty) k w h e = cc
    any_whole n (int_site j ty) k w h e = cc
    any_whole n (prim_site j) k w h e = cc
    any_whole n (argument i) k w h e =
        let (y, q) = nth_there args i (omega arith) in let f : held (gives y) ≡ fails = subst (λ (g : Got Value). held g ≡ fails) q e in cc
    any_whole n (extractor_call t s) (k, p, may) w h e =
        let (v, q) = plain_there s k p (h s (inl refl)) in
        let r : extract_held facts c t v ≡ fails = subst (λ (g : Got Held). ask (extract_held facts c t) (plain g) ≡ fails) q e in
        extract_whole (facts.multi t) t v refl may r
    any_whole n (constructor_call t ss i) (k, may) w h e =
        let (vs, q) = values_there ss k h in
        let r : construct_held facts c done t i vs ≡ fails = subst (λ (g : Got Values). ask (construct_held facts c done t i) g ≡ fails) q e in
        construct_whole (facts.multi t) t i vs refl may w r
    any_whole n (iterator s) k w h e = w
    any_whole n (make_variant ty v ss) k w h e =
        let (vs, q) = values_there ss k h in
        let r : held (made ty v (gives vs)) ≡ fails = subst (λ (g : Got Values). held (made ty v g) ≡ fails) q e in cc
    any_whole n (match_variant s v i) k w h e = w
    any_whole n (make_struct ty ss) k w h e =
        let (vs, q) = values_there ss k h in
        let r : held (built ty (gives vs)) ≡ fails = subst (λ (g : Got Values). held (built ty g) ≡ fails) q e in cc
    any_whole n (extract_struct s i) k w h e = w
    any_whole n (make_some s) k w h e =
        let (x, q) = h s (inl refl) in
        let r : ask (λ (y : Held). gives (held_some y)) (gives x) ≡ fails =
        subst (λ (g : Got Held). ask (λ (y : Held). gives (held_some y)) g ≡ fails) q e in cc
    any_whole n (match_some s) k w h e = w
    any_whole n (match_tuple s i) (k, (ts, p, l)) w h e =
        let (x, q) = h s (inl refl) in
        let (vs, o, a) = subst (λ (z : Sort). IsOfKind z x) p (any_kind several may_give s x k q) in
        let r : ask (output_of i) (gives (held_outputs vs)) ≡ fails =
        subst (λ (g : Got Held). ask (output_of i) g ≡ fails) (q ∙ ap (λ (y : Held). gives y) o) e in
        let (y, f) = nth_there vs i (omega arith) in
        let z : held (gives y) ≡ fails = subst (λ (g : Got Value). held g ≡ fails) f r in cc

  -- Where no call is `multi`, a site holds what is of its kind.
  pub kind : (s : Site) (h : Held) → IsKinded facts tys s → val s ≡ gives h → IsOfKind (sort facts tys s) h
  kind s h k e = any_kind false tt s h k e

  -- And doesn't fail where its parts have values.
  pub whole : count args ≡ length tys → (s : Site) → IsKinded facts tys s → IsWhole s
      → ((u : Site) → IsOneOf (parts_of s) u → HasValue (val u)) → val s ≡ fails → ⊥
  whole n s k w h e = any_whole false tt n s k w h e

pub sites_keep_kinds : SitesKeepKinds
sites_keep_kinds facts tys c args done allowed s h k e = kind facts tys c args done allowed s h k e
