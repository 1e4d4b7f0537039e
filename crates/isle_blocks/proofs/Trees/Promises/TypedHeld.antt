-- What typed sites hold is typed.
use Rattle.std.proofs.Common.{◌≡◌, ◌⊎◌, inl, inr, ℕ, zero, suc, ◌==◌, List, [], ◌∷◌, length, Bool, true, false, Option, Some, None, slice_get}
use Rattle.std.proofs.Common.{refl, sym, ap, subst, ◌∙◌, arith, eqb-true}
use Rattle.std.specs.Prelude.{if◌then◌else◌}
use Rattle.isle_rules.specs.Values.{ValueTrees, no_trees, more_trees}
use Rattle.isle_meaning.specs.Got.{Got, unknown, fails, gives}
use Rattle.isle_meaning.specs.Values.{Value, bool_value, int_value, constant_value, made_variant, made_struct, Values, no_values}
use Rattle.isle_meaning.specs.Values.{more_values, count, nth, more, made, built}
use Rattle.isle_meaning.specs.ValueTypes.{ValueFacts, AreOfTypes}
use Rattle.isle_meaning.specs.GroundValues.{IsValueOf, AreValuesOf, values_of}
use Rattle.isle_meaning.specs.Facts.{TermFacts, variant_shape, struct_shape, nth_type}
use Rattle.isle_meaning.specs.Answers.{Completion, answered, answer_of}
use Rattle.isle_meaning.specs.Calls.{HasTypedAnswers}
use Rattle.isle_meaning.specs.Worlds.{CheckedProgram}
use Rattle.isle_meaning.specs.SoundPrograms.{HasSoundData}
use Rattle.isle_meaning.specs.Subtrees.{IsSubtreeOfOne}
use Rattle.isle_meaning.specs.Sites.{Site, bool_site, int_site, prim_site, argument, extractor_call, constructor_call, iterator}
use Rattle.isle_meaning.specs.Sites.{make_variant, match_variant, make_struct, extract_struct, make_some, match_some, match_tuple}
use Rattle.isle_meaning.specs.Sites.{Sites, no_sites, more_sites}
use Rattle.isle_meaning.specs.Held.{Held, held_value, held_outputs, held_none, held_some, held, plain, outputs_of, extracted, constructed}
use Rattle.isle_meaning.specs.Held.{extract_held, construct_held, several_of, variant_field, field_if, struct_field, output_of, value, values}
use Rattle.isle_meaning.specs.Sorts.{Sort, plain_sort, tuple_sort, option_sort, list_sort, sort, of_outputs, extract_sort, construct_sort}
use Rattle.isle_meaning.specs.Sorts.{inner_sort, output_sort, field_sort}
use Rattle.isle_meaning.proofs.Calls.TypedValues.{none_typed, more_values_typed, values_parted}
use Rattle.isle_meaning.proofs.Calls.TypedValues.{variant_made, struct_made, variant_opened, struct_opened}
use Rattle.isle_meaning.proofs.Matching.Basics.{ask_gives, plain_gives, more_gives, content_gives}
use Rattle.isle_blocks.specs.Trees.TypedCalls.{HasTypedCalls}
use Rattle.isle_blocks.proofs.Trees.Promises.TypedSites.{IsTypedSite, AreTypedSites}

-- what is held is of a sort: a value of a type, outputs of types, or an option
abbrev pub IsHeldOf : CheckedProgram → Sort → Held → Type 0
IsHeldOf p (plain_sort ty) h = (v : Value) × (h ≡ held_value v) × IsValueOf p.values v ty
IsHeldOf p (tuple_sort ts) h = (vs : Values) × (h ≡ held_outputs vs) × AreValuesOf p.values vs ts
IsHeldOf p (option_sort k) h = (h ≡ held_none) ⊎ ((x : Held) × (h ≡ held_some x) × IsHeldOf p k x)
IsHeldOf p (list_sort k) h = ⊥

-- ---- values of types

-- values are as many as their types
trees_count : (facts : ValueFacts) (vs : Values) (us : List ℕ) (trees : ValueTrees) → AreOfTypes facts trees us → values_of facts trees ≡ vs
    → count vs ≡ length us
trees_count facts vs [] no_trees t e = ap count (sym e)
trees_count facts vs (u ∷ us) no_trees t e = absurd t
trees_count facts vs [] (more_trees x xs) t e = absurd t
trees_count facts vs (u ∷ us) (more_trees x xs) t e = ap count (sym e) ∙ ap suc (trees_count facts (values_of facts xs) us xs (t.1) refl)

-- Values are as many as their types.
pub values_count : (facts : ValueFacts) (vs : Values) (us : List ℕ) → AreValuesOf facts vs us → count vs ≡ length us
values_count facts vs us h = trees_count facts vs us h.trees h.typed h.stand

-- One of them is of its type.
pub nth_typed : (facts : ValueFacts) (vs : Values) (us : List ℕ) (i : ℕ) (v : Value) → AreValuesOf facts vs us → nth vs i ≡ gives v
    → IsValueOf facts v (nth_type us i)
nth_typed facts no_values us i v h e = absurd cc
nth_typed facts (more_values x xs) [] i v h e = absurd (let n = values_count facts (more_values x xs) [] h in omega arith)
nth_typed facts (more_values x xs) (u ∷ us) zero v h e =
    let same : x ≡ v = cc in subst (λ (z : Value). IsValueOf facts z u) same (values_parted facts x xs u us h).0
nth_typed facts (more_values x xs) (u ∷ us) (suc i) v h e = nth_typed facts xs us i v (values_parted facts x xs u us h).1 e

-- outputs are of their types
outputs_typed : (p : CheckedProgram) (us : List ℕ) (vs : Values) → AreValuesOf p.values vs us → IsHeldOf p (of_outputs us) (outputs_of vs)
outputs_typed p us vs h = by_count us vs h (values_count p.values vs us h)
  where
    by_count : (us : List ℕ) (vs : Values) → AreValuesOf p.values vs us → count vs ≡ length us → IsHeldOf p (of_outputs us) (outputs_of vs)
    by_count [] no_values h e = (no_values, refl, h)
    by_count [] (more_values x xs) h e = absurd (omega arith)
    by_count (t ∷ []) no_values h e = absurd (omega arith)
    by_count (t ∷ []) (more_values x no_values) h e = (x, refl, (values_parted p.values x no_values t [] h).0)
    by_count (t ∷ []) (more_values x (more_values y ys)) h e = absurd (omega arith)
    by_count (t ∷ (u ∷ us)) no_values h e = absurd (omega arith)
    by_count (t ∷ (u ∷ us)) (more_values x no_values) h e = absurd (omega arith)
    by_count (t ∷ (u ∷ us)) (more_values x (more_values y ys)) h e = (more_values x (more_values y ys), refl, h)

-- What is held of a value is a value.
pub held_gives : (g : Got Value) (h : Held) → held g ≡ gives h → (v : Value) × (g ≡ gives v) × (h ≡ held_value v)
held_gives g h e = let (v, q, r) = ask_gives (λ (x : Value). gives (held_value x)) g h e in (v, q, (let z : held_value v ≡ h = cc in sym z))

-- what is of a plain sort is a value of the type
pub plain_typed : (p : CheckedProgram) (k : Sort) (u : ℕ) (v : Value) → k ≡ plain_sort u → IsHeldOf p k (held_value v) → IsValueOf p.values v u
plain_typed p k u v e o =
    let (w, q, t) = subst (λ (s : Sort). IsHeldOf p s (held_value v)) e o in
    let same : w ≡ v = cc in subst (λ (z : Value). IsValueOf p.values z u) same t

-- An output is of its type.
pub output_typed : (p : CheckedProgram) (i : ℕ) (g h : Held) (ts : List ℕ) → IsHeldOf p (tuple_sort ts) g → output_of i g ≡ gives h
    → IsHeldOf p (plain_sort (nth_type ts i)) h
output_typed p i g h ts (vs, q, t) e =
    let r : held (nth vs i) ≡ gives h = subst (λ (x : Held). output_of i x ≡ gives h) q e in
    let (w, there, is) = held_gives (nth vs i) h r in (w, is, nth_typed p.values vs ts i w t there)

-- A content is of its sort.
pub content_typed : (p : CheckedProgram) (k : Sort) (h : Held) → IsHeldOf p (option_sort k) (held_some h) → IsHeldOf p k h
content_typed p k h (inl q) = absurd cc
content_typed p k h (inr (x, q, t)) = let same : x ≡ h = cc in subst (IsHeldOf p k) same t

module _ (p : CheckedProgram) (sound_data : HasSoundData p) where
  -- A variant's field is of its type.
  pub field_typed : (k i : ℕ) (v : Value) (h : Held) (u : ℕ) → IsValueOf p.values v u → variant_field k i v ≡ gives h
      → IsHeldOf p (plain_sort (nth_type (p.terms.variant_fields u k) i)) h
  field_typed k i (made_variant ty j vs) h u t e = go (j == k) refl e
    where
      go : (b : Bool) → (j == k) ≡ b → field_if b vs i ≡ gives h → IsHeldOf p (plain_sort (nth_type (p.terms.variant_fields u k) i)) h
      go true s q =
          let (w, there, is) = held_gives (nth vs i) h q in
          let fields = subst (λ (n : ℕ). AreValuesOf p.values vs (p.terms.variant_fields u n)) (eqb-true j k s)
          (variant_opened p sound_data ty j vs u t) in
          (w, is, nth_typed p.values vs (p.terms.variant_fields u k) i w fields there)
      go false s q = absurd cc
  field_typed k i v h u t e = absurd cc

  -- So is a struct's.
  pub struct_typed : (i : ℕ) (v : Value) (h : Held) (u : ℕ) → IsValueOf p.values v u → struct_field i v ≡ gives h
      → IsHeldOf p (plain_sort (nth_type (p.terms.struct_fields u) i)) h
  struct_typed i (made_struct ty vs) h u t e =
      let (w, there, is) = held_gives (nth vs i) h e in
      (w, is, nth_typed p.values vs (p.terms.struct_fields u) i w (struct_opened p sound_data ty vs u t) there)
  struct_typed i v h u t e = absurd cc

  -- A variant of fields of their types is of its type.
  pub variant_typed : (ty n : ℕ) (vs : Values) → (t : ℕ) × (p.terms.shape t ≡ variant_shape n) × (p.terms.type_of t ≡ ty)
      → AreValuesOf p.values vs (p.terms.variant_fields ty n) → IsValueOf p.values (made_variant ty n vs) ty
  variant_typed ty n vs (t, shape, of) fields =
      let fine : AreValuesOf p.values vs (p.terms.variant_fields (p.terms.type_of t) n)
      → IsValueOf p.values (made_variant (p.terms.type_of t) n vs) (p.terms.type_of t) =
      variant_made p sound_data t n vs shape in
      subst (λ (z : ℕ). AreValuesOf p.values vs (p.terms.variant_fields z n) → IsValueOf p.values (made_variant z n vs) z) of fine fields

  -- So is a struct.
  pub made_struct_typed : (ty : ℕ) (vs : Values) → (t : ℕ) × (p.terms.shape t ≡ struct_shape) × (p.terms.type_of t ≡ ty)
      → AreValuesOf p.values vs (p.terms.struct_fields ty) → IsValueOf p.values (made_struct ty vs) ty
  made_struct_typed ty vs (t, shape, of) fields =
      let fine : AreValuesOf p.values vs (p.terms.struct_fields (p.terms.type_of t))
      → IsValueOf p.values (made_struct (p.terms.type_of t) vs) (p.terms.type_of t) =
      struct_made p sound_data t vs shape in
      subst (λ (z : ℕ). AreValuesOf p.values vs (p.terms.struct_fields z) → IsValueOf p.values (made_struct z vs) z) of fine fields

module _ (p : CheckedProgram) (sound_data : HasSoundData p) (tys : List ℕ) (c : Completion) (typed : HasTypedAnswers p c) (args : Values)
    (own : AreValuesOf p.values args tys) (done : List (Option Value)) where
  -- what is said of its terms
  abbrev facts : TermFacts
  facts = p.terms

  -- what a site holds
  abbrev val : Site → Got Held
  val s = value facts c args done s

  -- an extractor's answer is of its sort
  extracted_typed : (b : Bool) (t : ℕ) (v : Value) (g : Got Values) (h : Held) → c.extract t v ≡ g → extracted b g ≡ gives h
      → IsHeldOf p (extract_sort false b (of_outputs (facts.inputs t))) h
  extracted_typed b t v unknown h q e = absurd cc
  extracted_typed true t v fails h q e = absurd cc
  extracted_typed false t v fails h q e = inl (let z : held_none ≡ h = cc in sym z)
  extracted_typed true t v (gives vs) h q e =
      let same : outputs_of vs ≡ h = cc in
      subst (IsHeldOf p (of_outputs (facts.inputs t))) same (outputs_typed p (facts.inputs t) vs (typed.extract t v vs q))
  extracted_typed false t v (gives vs) h q e =
      let same : held_some (outputs_of vs) ≡ h = cc in
      inr (outputs_of vs, sym same, outputs_typed p (facts.inputs t) vs (typed.extract t v vs q))

  -- so is a constructor's
  constructed_typed : (b : Bool) (u : ℕ) (g : Got Value) (h : Held) → ((v : Value) → g ≡ gives v → IsValueOf p.values v u)
      → constructed b g ≡ gives h → IsHeldOf p (construct_sort false b (plain_sort u)) h
  constructed_typed b u unknown h f e = absurd cc
  constructed_typed true u fails h f e = inl (let z : held_none ≡ h = cc in sym z)
  constructed_typed false u fails h f e = absurd cc
  constructed_typed true u (gives v) h f e = inr (held_value v, (let z : held_some (held_value v) ≡ h = cc in sym z), (v, refl, f v refl))
  constructed_typed false u (gives v) h f e = (v, (let z : held_value v ≡ h = cc in sym z), f v refl)

  -- what is answered to a call is of its type
  answer_typed : (t i : ℕ) (ss : Sites) (vs : Values) (v : Value) → HasTypedCalls p done (constructor_call t ss i)
      → answer_of c done t i vs ≡ gives v → IsValueOf p.values v (facts.type_of t)
  answer_typed t zero ss vs v calls e = typed.construct t vs v e
  answer_typed t (suc n) ss vs v calls e = calls t n ss v (inl refl) (given (slice_get done n) e)
    where
      given : (o : Option (Option Value)) → answered o ≡ gives v → o ≡ Some (Some v)
      given None z = absurd cc
      given (Some None) z = absurd cc
      given (Some (Some w)) z = let same : w ≡ v = cc in ap (λ (x : Value). Some (Some x)) same

  -- so is what an extractor's call holds
  extract_typed : (b : Bool) (t : ℕ) (v : Value) (h : Held) → facts.multi t ≡ false → facts.multi t ≡ b → extract_held facts c t v ≡ gives h
      → IsHeldOf p (extract_sort b (facts.infallible t) (of_outputs (facts.inputs t))) h
  extract_typed true t v h single m e = absurd (let z : true ≡ false = sym m ∙ single in cc)
  extract_typed false t v h single m e =
      extracted_typed (facts.infallible t) t v (c.extract t v) h refl
      (subst (λ (b : Bool). (if b then several_of (c.extracts t v) else extracted (facts.infallible t) (c.extract t v)) ≡ gives h) m e)

  -- and a constructor's
  construct_typed : (b : Bool) (t i : ℕ) (ss : Sites) (vs : Values) (h : Held) → facts.multi t ≡ false → facts.multi t ≡ b
      → HasTypedCalls p done (constructor_call t ss i) → construct_held facts c done t i vs ≡ gives h
      → IsHeldOf p (construct_sort b (facts.partial t) (plain_sort (facts.type_of t))) h
  construct_typed true t i ss vs h single m calls e = absurd (let z : true ≡ false = sym m ∙ single in cc)
  construct_typed false t i ss vs h single m calls e =
      constructed_typed (facts.partial t) (facts.type_of t) (answer_of c done t i vs) h (λ v q. answer_typed t i ss vs v calls q)
      (subst (λ (b : Bool). (if b then several_of (c.constructs t vs) else constructed (facts.partial t) (answer_of c done t i vs)) ≡ gives h) m e)

  -- the impure calls of some sites were answered of their types
  abbrev pub HaveTypedCalls : Sites → Type 0
  HaveTypedCalls ss = (t n : ℕ) (us : Sites) (v : Value) → IsSubtreeOfOne (constructor_call t us (suc n)) ss → slice_get done n ≡ Some (Some v)
      → IsValueOf p.values v (facts.type_of t)

  mutual
    -- A typed site holds what is of its sort.
    pub site_typed : (s : Site) (h : Held) → IsTypedSite p tys s → HasTypedCalls p done s → val s ≡ gives h → IsHeldOf p (sort facts tys s) h
    site_typed (bool_site b ty) h k calls e = (bool_value b, (let z : held_value (bool_value b) ≡ h = cc in sym z), k)
    site_typed (int_site n ty) h k calls e = (int_value n, (let z : held_value (int_value n) ≡ h = cc in sym z), k)
    site_typed (prim_site n) h k calls e = (constant_value n, (let z : held_value (constant_value n) ≡ h = cc in sym z), k)
    site_typed (argument i) h k calls e =
        let (v, there, is) = held_gives (nth args i) h e in (v, is, nth_typed p.values args tys i v own there)
    site_typed (extractor_call t s) h k calls e =
        let (v, q, r) = ask_gives (extract_held facts c t) (plain (val s)) h e in extract_typed (facts.multi t) t v h (k.2) refl r
    site_typed (constructor_call t ss i) h k calls e =
        let (vs, q, r) = ask_gives (construct_held facts c done t i) (values facts c args done ss) h e in
        construct_typed (facts.multi t) t i ss vs h (k.1) refl calls r
    site_typed (iterator s) h k calls e = absurd k
    site_typed (make_variant ty n ss) h k calls e =
        let (v, q, is) = held_gives (made ty n (values facts c args done ss)) h e in
        let (vs, there, same) = ask_gives (λ (xs : Values). gives (made_variant ty n xs)) (values facts c args done ss) v q in
        let fields = sites_typed ss (facts.variant_fields ty n) vs (k.1) (λ t m us w i. calls t m us w (inr i)) there in
        let one : made_variant ty n vs ≡ v = cc in
        (v, is, subst (λ (z : Value). IsValueOf p.values z ty) one (variant_typed p sound_data ty n vs (k.0) fields))
    site_typed (match_variant s n i) h (k, (u, plain_is)) calls e =
        let (v, q, r) = ask_gives (variant_field n i) (plain (val s)) h e in
        let here = site_typed s (held_value v) k (λ t m us w x. calls t m us w (inr x)) (plain_gives (val s) v q) in
        subst (λ (z : Sort). IsHeldOf p (field_sort (λ (t : ℕ). facts.variant_fields t n) z i) h) (sym plain_is)
        (field_typed p sound_data n i v h u (plain_typed p (sort facts tys s) u v plain_is here) r)
    site_typed (make_struct ty ss) h k calls e =
        let (v, q, is) = held_gives (built ty (values facts c args done ss)) h e in
        let (vs, there, same) = ask_gives (λ (xs : Values). gives (made_struct ty xs)) (values facts c args done ss) v q in
        let fields = sites_typed ss (facts.struct_fields ty) vs (k.1) (λ t m us w i. calls t m us w (inr i)) there in
        let one : made_struct ty vs ≡ v = cc in
        (v, is, subst (λ (z : Value). IsValueOf p.values z ty) one (made_struct_typed p sound_data ty vs (k.0) fields))
    site_typed (extract_struct s i) h (k, (u, plain_is)) calls e =
        let (v, q, r) = ask_gives (struct_field i) (plain (val s)) h e in
        let here = site_typed s (held_value v) k (λ t m us w x. calls t m us w (inr x)) (plain_gives (val s) v q) in
        subst (λ (z : Sort). IsHeldOf p (field_sort facts.struct_fields z i) h) (sym plain_is)
        (struct_typed p sound_data i v h u (plain_typed p (sort facts tys s) u v plain_is here) r)
    site_typed (make_some s) h k calls e =
        let (g, q, r) = ask_gives (λ (x : Held). gives (held_some x)) (val s) h e in
        inr (g, (let z : held_some g ≡ h = cc in sym z), site_typed s g (k.0) (λ t m us w x. calls t m us w (inr x)) q)
    site_typed (match_some s) h (k, (j, option_is)) calls e =
        let q = content_gives (val s) h e in
        let here = site_typed s (held_some h) k (λ t m us w x. calls t m us w (inr x)) q in
        subst (λ (z : Sort). IsHeldOf p (inner_sort z) h) (sym option_is)
        (content_typed p j h (subst (λ (z : Sort). IsHeldOf p z (held_some h)) option_is here))
    site_typed (match_tuple s i) h (k, (ts, tuple_is, l)) calls e =
        let (g, q, r) = ask_gives (output_of i) (val s) h e in
        let here = site_typed s g k (λ t m us w x. calls t m us w (inr x)) q in
        subst (λ (z : Sort). IsHeldOf p (output_sort z i) h) (sym tuple_is)
        (output_typed p i g h ts (subst (λ (z : Sort). IsHeldOf p z g) tuple_is here) r)

    -- Typed sites hold values of their types.
    pub sites_typed : (ss : Sites) (us : List ℕ) (vs : Values) → AreTypedSites p tys ss us → HaveTypedCalls ss
        → values facts c args done ss ≡ gives vs → AreValuesOf p.values vs us
    sites_typed no_sites [] vs k calls e =
        let same : no_values ≡ vs = cc in subst (λ (z : Values). AreValuesOf p.values z []) same (none_typed p.values)
    sites_typed no_sites (u ∷ us) vs k calls e = absurd k
    sites_typed (more_sites s ss) [] vs k calls e = absurd k
    sites_typed (more_sites s ss) (u ∷ us) vs k calls e =
        let (x, xs, a, b) = more_gives (plain (val s)) (values facts c args done ss) vs e in
        let parts : more (plain (val s)) (values facts c args done ss) ≡ more (gives x) (gives xs) = λ i. more (a i) (b i) in
        let both : gives (more_values x xs) ≡ gives vs = sym parts ∙ e in
        let same : more_values x xs ≡ vs = cc in
        let here = site_typed s (held_value x) (k.0.1) (λ t m ts w i. calls t m ts w (inl i)) (plain_gives (val s) x a) in
        subst (λ (z : Values). AreValuesOf p.values z (u ∷ us)) same
        (more_values_typed p.values x xs u us (plain_typed p (sort facts tys s) u x (k.0.0) here)
        (sites_typed ss us xs (k.1) (λ t m ts w i. calls t m ts w (inr i)) b))
