-- Completions with one more answer.
use Rattle.std.proofs.Common.{◌≡◌, ◌≢◌, ◌⊎◌, inl, inr, ℕ, suc, List, [], ◌∷◌, ◌++◌, Bool, true, false, Option, Some, None, length}
use Rattle.std.proofs.Common.{refl, sym, ◌∙◌, ap, subst}
use Rattle.std.proofs.Math.Decide.{ℕ_discrete}
use Rattle.isle_rules.specs.Values.{ValueTree, ValueTrees, no_trees, more_trees}
use Rattle.isle_meaning.specs.Got.{Got, unknown, fails, gives}
use Rattle.isle_meaning.specs.Values.{Value, Values, count}
use Rattle.isle_meaning.specs.ValueTypes.{IsOfType, AreOfTypes}
use Rattle.isle_meaning.specs.GroundValues.{value_of, values_of, IsValueOf, AreValuesOf}
use Rattle.isle_meaning.specs.Answers.{Completion}
use Rattle.isle_meaning.specs.Worlds.{CheckedProgram, Answers, AllowsValue, AllowsOutputs, answer_value, answer_values, got, Event}
use Rattle.isle_meaning.specs.Calls.{Agrees}
use Rattle.isle_meaning.proofs.Matching.Deciding.{decide, decide_all}
use Rattle.isle_meaning.specs.SoundPrograms.{HasSoundData}
use Rattle.isle_meaning.specs.Laws.Calls.{FirstDiffer, AreOne, HasValues, Surely, Extends, IsGoodAnswer}
use Rattle.isle_meaning.proofs.Chains.Trees.{trees_are_one, all_trees_are_one}
use Rattle.isle_meaning.proofs.Chains.Unique.{One}
use Rattle.isle_meaning.proofs.Chains.Surely.{surely, follows, either}

-- a completion has its own answers
pub extends_self : (c : Completion) → Extends c c
extends_self c = record {
  construct = λ t vs h. refl;
  extract = λ t v h. refl;
  constructs = λ t vs. refl;
  extracts = λ t v. refl;
  place = λ s. refl;
}

-- more answers than more are more
pub extends_on : (c d e : Completion) → Extends c d → Extends d e → Extends c e
extends_on c d e h k = record {
  construct = λ t vs n. k.construct t vs (λ q. n (sym (h.construct t vs n) ∙ q)) ∙ h.construct t vs n;
  extract = λ t v n. k.extract t v (λ q. n (sym (h.extract t v n) ∙ q)) ∙ h.extract t v n;
  constructs = λ t vs. k.constructs t vs ∙ h.constructs t vs;
  extracts = λ t v. k.extracts t v ∙ h.extracts t v;
  place = λ s. k.place s ∙ h.place s;
}

-- the one where both are so, else the other
abbrev pick : {A B X : Type 0} → Dec A → B ⊎ (B → ⊥) → X → X → X
pick (yes a) (inl b) x y = x
pick (yes a) (inr b) x y = y
pick (no a) b x y = y

-- it is the one, or the other
pick_cases : {A B X : Type 0} (d : Dec A) (e : B ⊎ (B → ⊥)) (x y : X) → (A × B × (pick d e x y ≡ x)) ⊎ (pick d e x y ≡ y)
pick_cases (yes a) (inl b) x y = inl (a, b, refl)
pick_cases (yes a) (inr b) x y = inr refl
pick_cases (no a) e x y = inr refl

-- where both are so, it is the one
pick_same : {A B X : Type 0} (d : Dec A) (e : B ⊎ (B → ⊥)) (x y : X) → A → B → pick d e x y ≡ x
pick_same (yes a) (inl b) x y h k = refl
pick_same (yes a) (inr b) x y h k = absurd (b k)
pick_same (no a) e x y h k = absurd (a h)

-- one more answer of a constructor
abbrev pub with_construct : Completion → ℕ → Values → Got Value → Completion
with_construct c t vs g = record {
  construct = λ u us. pick (ℕ_discrete t u) (decide_all vs us) g (c.construct u us);
  extract = c.extract;
  constructs = c.constructs;
  extracts = c.extracts;
  place = c.place;
}

-- one more answer of an extractor
abbrev pub with_extract : Completion → ℕ → Value → Got Values → Completion
with_extract c t v g = record {
  construct = c.construct;
  extract = λ u x. pick (ℕ_discrete t u) (decide v x) g (c.extract u x);
  constructs = c.constructs;
  extracts = c.extracts;
  place = c.place;
}

-- it has more answers
pub construct_extends : (c : Completion) (t : ℕ) (vs : Values) (g : Got Value) → c.construct t vs ≡ unknown
    → Extends c (with_construct c t vs g)
construct_extends c t vs g u = record {
  construct = λ s us n. elim (pick_cases (ℕ_discrete t s) (decide_all vs us) g (c.construct s us)) [
    | inl x ↦ absurd (n (sym (ap (λ (z : ℕ). c.construct z us) (x.0)) ∙ (sym (ap (c.construct t) (x.1)) ∙ u)))
    | inr x ↦ x
  ];
  extract = λ s v n. refl;
  constructs = λ s us. refl;
  extracts = λ s v. refl;
  place = λ s. refl;
}

-- it has more answers
pub extract_extends : (c : Completion) (t : ℕ) (v : Value) (g : Got Values) → c.extract t v ≡ unknown → Extends c (with_extract c t v g)
extract_extends c t v g u = record {
  construct = λ s us n. refl;
  extract = λ s x n. elim (pick_cases (ℕ_discrete t s) (decide v x) g (c.extract s x)) [
    | inl q ↦ absurd (n (sym (ap (λ (z : ℕ). c.extract z x) (q.0)) ∙ (sym (ap (c.extract t) (q.1)) ∙ u)))
    | inr q ↦ q
  ];
  constructs = λ s us. refl;
  extracts = λ s x. refl;
  place = λ s. refl;
}

-- the answer is there
pub construct_there : (c : Completion) (t : ℕ) (vs : Values) (g : Got Value) → (with_construct c t vs g).construct t vs ≡ g
construct_there c t vs g = pick_same (ℕ_discrete t t) (decide_all vs vs) g (c.construct t vs) refl refl

-- the answer is there
pub extract_there : (c : Completion) (t : ℕ) (v : Value) (g : Got Values) → (with_extract c t v g).extract t v ≡ g
extract_there c t v g = pick_same (ℕ_discrete t t) (decide v v) g (c.extract t v) refl refl

-- trees of types are as many as those
counts : (p : CheckedProgram) (trees : ValueTrees) (us : List ℕ) → AreOfTypes p.values trees us → count (values_of p.values trees)
    ≡ length us
counts p no_trees [] h = refl
counts p no_trees (u ∷ us) h = absurd h
counts p (more_trees x xs) [] h = absurd h
counts p (more_trees x xs) (u ∷ us) h = ap suc (counts p xs us (h.1))

-- as many values as types
pub typed_count : (p : CheckedProgram) (vs : Values) (us : List ℕ) → AreValuesOf p.values vs us → count vs ≡ length us
typed_count p vs us h = ap count (sym (h.stand)) ∙ counts p (h.trees) us (h.typed)

-- no effects differ from none
no_first : (other : List Event) → FirstDiffer [] other → ⊥
no_first other d = go (d.shared) (d.one_is)
  where
    go : (shared : List Event) → [] ≡ shared ++ d.here ∷ d.more → ⊥
    go [] e = cc
    go (x ∷ xs) e = cc

-- without effects, answers are one
pub answer_is_one : (a b : Option Value) → AreOne [] a [] b → a ≡ b
answer_is_one a b (inl h) = h.1
answer_is_one a b (inr d) = absurd (no_first [] d)

module _ (p : CheckedProgram) (w : Answers) (below : ℕ → Values → List Event → Option Value → Type 0) where
  -- an answer that a constructor's call may have
  pub record FitsCall (t : ℕ) (vs : Values) (g : Got Value) : Type 0 where
    pub outside : (trees : ValueTrees) → p.has_rules t ≡ false → AreOfTypes p.values trees (p.terms.inputs t)
        → values_of p.values trees ≡ vs → AllowsValue p t (w.construct t trees) → g ≡ got (answer_value p (w.construct t trees))
    pub inside : (b : Option Value) → p.has_rules t ≡ true → AreValuesOf p.values vs (p.terms.inputs t) → below t vs [] b → g ≡ got b
    pub partial : g ≡ fails → p.terms.partial t ≡ true
    pub typed : (v : Value) → g ≡ gives v → IsValueOf p.values v (p.terms.type_of t)

  -- an answer that an extractor's call may have
  pub record FitsOpening (t : ℕ) (v : Value) (g : Got Values) : Type 0 where
    pub outputs : (tree : ValueTree) → IsOfType p.values tree (p.terms.type_of t) → value_of p.values tree ≡ v
        → AllowsOutputs p t (w.extract t tree) → g ≡ got (answer_values p (w.extract t tree))
    pub fallible : g ≡ fails → p.terms.infallible t ≡ false
    pub typed : (vs : Values) → g ≡ gives vs → AreValuesOf p.values vs (p.terms.inputs t)

  -- with an answer that fits, it agrees
  pub construct_agrees : (c : Completion) (t : ℕ) (vs : Values) (g : Got Value) → Agrees p w below c → FitsCall t vs g
      → Agrees p w below (with_construct c t vs g)
  construct_agrees c t vs g h f =
      let moved : (u : ℕ) (us : Values) → t ≡ u → vs ≡ us → FitsCall u us g =
      λ u us e d. subst (λ (z : ℕ). FitsCall z us g) e (subst (λ (z : Values). FitsCall t z g) d f) in
      record {
        outside = λ u trees o typed al n. elim (pick_cases (ℕ_discrete t u) (decide_all vs (values_of p.values trees)) g
            (c.construct u (values_of p.values trees))) [
              | inl x ↦ x.2 ∙ (moved u _ (x.0) (x.1)).outside trees o typed refl al
              | inr x ↦ x ∙ h.outside u trees o typed al (λ q. n (x ∙ q))
            ];
        outputs = h.outputs;
        inside = λ u us b i typed m n. elim (pick_cases (ℕ_discrete t u) (decide_all vs us) g (c.construct u us)) [
          | inl x ↦ x.2 ∙ (moved u us (x.0) (x.1)).inside b i typed m
          | inr x ↦ x ∙ h.inside u us b i typed m (λ q. n (x ∙ q))
        ];
        allowed = record {
          partial = λ u us e. elim (pick_cases (ℕ_discrete t u) (decide_all vs us) g (c.construct u us)) [
            | inl x ↦ (moved u us (x.0) (x.1)).partial (sym (x.2) ∙ e)
            | inr x ↦ h.allowed.partial u us (sym x ∙ e)
          ];
          fallible = h.allowed.fallible;
          outputs = h.allowed.outputs;
        };
        typed = record {
          construct = λ u us v e. elim (pick_cases (ℕ_discrete t u) (decide_all vs us) g (c.construct u us)) [
            | inl x ↦ (moved u us (x.0) (x.1)).typed v (sym (x.2) ∙ e)
            | inr x ↦ h.typed.construct u us v (sym x ∙ e)
          ];
          extract = h.typed.extract;
        };
      }

  -- with an answer that fits, it agrees
  pub extract_agrees : (c : Completion) (t : ℕ) (v : Value) (g : Got Values) → Agrees p w below c → FitsOpening t v g
      → Agrees p w below (with_extract c t v g)
  extract_agrees c t v g h f =
      let moved : (u : ℕ) (x : Value) → t ≡ u → v ≡ x → FitsOpening u x g =
      λ u x e d. subst (λ (z : ℕ). FitsOpening z x g) e (subst (λ (z : Value). FitsOpening t z g) d f) in
      record {
        outside = h.outside;
        outputs = λ u tree typed al n. elim (pick_cases (ℕ_discrete t u) (decide v (value_of p.values tree)) g
            (c.extract u (value_of p.values tree))) [
              | inl x ↦ x.2 ∙ (moved u _ (x.0) (x.1)).outputs tree typed refl al
              | inr x ↦ x ∙ h.outputs u tree typed al (λ q. n (x ∙ q))
            ];
        inside = h.inside;
        allowed = record {
          partial = h.allowed.partial;
          fallible = λ u z e. elim (pick_cases (ℕ_discrete t u) (decide v z) g (c.extract u z)) [
            | inl x ↦ (moved u z (x.0) (x.1)).fallible (sym (x.2) ∙ e)
            | inr x ↦ h.allowed.fallible u z (sym x ∙ e)
          ];
          outputs = λ u z vs e. elim (pick_cases (ℕ_discrete t u) (decide v z) g (c.extract u z)) [
            | inl x ↦ typed_count p vs (p.terms.inputs u) ((moved u z (x.0) (x.1)).typed vs (sym (x.2) ∙ e))
            | inr x ↦ h.allowed.outputs u z vs (sym x ∙ e)
          ];
        };
        typed = record {
          construct = h.typed.construct;
          extract = λ u z vs e. elim (pick_cases (ℕ_discrete t u) (decide v z) g (c.extract u z)) [
            | inl x ↦ (moved u z (x.0) (x.1)).typed vs (sym (x.2) ∙ e)
            | inr x ↦ h.typed.extract u z vs (sym x ∙ e)
          ];
        };
      }

  -- nothing is answered yet
  abbrev pub open_completion : Completion
  open_completion = record {
    construct = λ t vs. unknown;
    extract = λ t v. unknown;
    constructs = λ t vs. unknown;
    extracts = λ t v. unknown;
    place = λ s. 0;
  }

  -- it agrees
  pub open_agrees : Agrees p w below open_completion
  open_agrees = record {
    outside = λ t trees o typed al n. absurd (n refl);
    outputs = λ t tree typed al n. absurd (n refl);
    inside = λ t vs b i typed m n. absurd (n refl);
    allowed = record { partial = λ t vs e. absurd cc; fallible = λ t v e. absurd cc; outputs = λ t v vs e. absurd cc };
    typed = record { construct = λ t vs v e. absurd cc; extract = λ t v vs e. absurd cc };
  }

-- calls of these terms on arguments of their types can't but have such answers
abbrev pub GivesGood : CheckedProgram → (ℕ → Type 0) → (ℕ → Values → List Event → Option Value → Type 0) → Type 0
GivesGood p R below = (t : ℕ) (vs : Values) (effects : List Event) (b : Option Value) → R t → AreValuesOf p.values vs (p.terms.inputs t)
    → below t vs effects b → Surely (IsGoodAnswer p t b)

module _ (p : CheckedProgram) (w : Answers) (R Q : ℕ → Type 0) (sound : HasSoundData p)
    (below : ℕ → Values → List Event → Option Value → Type 0) (ones : One R below) (good : GivesGood p R below) (has : HasValues p Q) where
  -- a constructor's answer, and that it fits
  pub record CallAnswer (t : ℕ) (vs : Values) : Type 0 where
    pub answer : Got Value
    pub known : answer ≢ unknown
    pub fits : FitsCall p w below t vs answer

  -- an extractor's answer, and that it fits
  pub record OpeningAnswer (t : ℕ) (v : Value) : Type 0 where
    pub answer : Got Values
    pub known : answer ≢ unknown
    pub fits : FitsOpening p w below t v answer

  -- an answer is known
  got_known : {A : Type 0} (o : Option A) → got o ≢ unknown
  got_known None e = cc
  got_known (Some x) e = cc

  -- an allowed answer is none only of a term that may fail
  got_partial : (t : ℕ) (o : Option ValueTree) → AllowsValue p t o → got (answer_value p o) ≡ fails → p.terms.partial t ≡ true
  got_partial t None h e = h
  got_partial t (Some x) h e = absurd cc

  -- an allowed answer's value is of the term's type
  got_typed : (t : ℕ) (o : Option ValueTree) (v : Value) → AllowsValue p t o → got (answer_value p o) ≡ gives v
      → IsValueOf p.values v (p.terms.type_of t)
  got_typed t None v h e = absurd cc
  got_typed t (Some x) v h e = record { tree = x; typed = h; stands = cc }

  -- a good answer is none only of a term that may fail
  good_partial : (t : ℕ) (o : Option Value) → IsGoodAnswer p t o → got o ≡ fails → p.terms.partial t ≡ true
  good_partial t None h e = h
  good_partial t (Some x) h e = absurd cc

  -- a good answer's value is of the term's type
  good_typed : (t : ℕ) (o : Option Value) (v : Value) → IsGoodAnswer p t o → got o ≡ gives v → IsValueOf p.values v (p.terms.type_of t)
  good_typed t None v h e = absurd cc
  good_typed t (Some x) v h e = let q : x ≡ v = cc in subst (λ (z : Value). IsValueOf p.values z (p.terms.type_of t)) q h

  -- allowed outputs are none only of an extractor that may fail
  got_fallible : (t : ℕ) (o : Option ValueTrees) → AllowsOutputs p t o → got (answer_values p o) ≡ fails → p.terms.infallible t ≡ false
  got_fallible t None h e = h
  got_fallible t (Some x) h e = absurd cc

  -- allowed outputs are of the types of the term's arguments
  got_opened : (t : ℕ) (o : Option ValueTrees) (vs : Values) → AllowsOutputs p t o → got (answer_values p o) ≡ gives vs
      → AreValuesOf p.values vs (p.terms.inputs t)
  got_opened t None vs h e = absurd cc
  got_opened t (Some x) vs h e = record { trees = x; typed = h; stand = cc }

  -- a call that nothing is said of has any answer that the declarations allow
  free_answer : (t : ℕ) (vs : Values) (partial : Bool) → p.terms.partial t ≡ partial → Q t
      → ((trees : ValueTrees) → p.has_rules t ≡ false → AreOfTypes p.values trees (p.terms.inputs t) → values_of p.values trees ≡ vs
      → AllowsValue p t (w.construct t trees) → ⊥)
      → ((b : Option Value) → p.has_rules t ≡ true → AreValuesOf p.values vs (p.terms.inputs t) → below t vs [] b → ⊥)
      → CallAnswer t vs
  free_answer t vs true e q out inn = record {
    answer = fails;
    known = λ z. cc;
    fits = record {
      outside = λ trees o typed stand al. absurd (out trees o typed stand al);
      inside = λ b i typed m. absurd (inn b i typed m);
      partial = λ z. e;
      typed = λ v z. absurd cc;
    };
  }
  free_answer t vs false e q out inn =
      let (v, typed_v) = has.made t q e in
      record {
        answer = gives v;
        known = λ z. cc;
        fits = record {
          outside = λ trees o typed stand al. absurd (out trees o typed stand al);
          inside = λ b i typed m. absurd (inn b i typed m);
          partial = λ z. absurd cc;
          typed = λ x z. (let y : v ≡ x = cc in subst (λ (k : Value). IsValueOf p.values k (p.terms.type_of t)) y typed_v);
        };
      }

  -- what the world answers
  outside_answer : (t : ℕ) (vs : Values) (trees : ValueTrees) → p.has_rules t ≡ false → AreOfTypes p.values trees (p.terms.inputs t)
      → values_of p.values trees ≡ vs → AllowsValue p t (w.construct t trees) → CallAnswer t vs
  outside_answer t vs trees o typed stand al = record {
    answer = got (answer_value p (w.construct t trees));
    known = got_known (answer_value p (w.construct t trees));
    fits = record {
      outside = λ others o' typed' stand' al'. (let same : trees ≡ others =
          all_trees_are_one p sound trees others (p.terms.inputs t) typed typed'
          (stand ∙ sym stand') in ap (λ (z : ValueTrees). got (answer_value p (w.construct t z))) same);
      inside = λ b i typed' m. absurd (let z : true ≡ false = sym i ∙ o in cc);
      partial = got_partial t (w.construct t trees) al;
      typed = λ v e. got_typed t (w.construct t trees) v al e;
    };
  }

  -- what a call means
  inside_answer : (t : ℕ) (vs : Values) (b : Option Value) → R t → p.has_rules t ≡ true → IsGoodAnswer p t b → below t vs [] b
      → CallAnswer t vs
  inside_answer t vs b r i ok m = record {
    answer = got b;
    known = got_known b;
    fits = record {
      outside = λ trees o typed stand al. absurd (let z : true ≡ false = sym i ∙ o in cc);
      inside = λ x i' typed n. ap got (answer_is_one b x (ones t vs [] [] b x r m n));
      partial = good_partial t b ok;
      typed = λ v e. good_typed t b v ok e;
    };
  }

  -- a constructor's call can't but have an answer that fits
  pub call_answered : (t : ℕ) (vs : Values) → Q t → (p.has_rules t ≡ true → R t) → Surely (CallAnswer t vs)
  call_answered t vs q ruled = go (p.has_rules t) refl
    where
      go : (b : Bool) → p.has_rules t ≡ b → Surely (CallAnswer t vs)
      go false e = follows (either ((trees : ValueTrees) × AreOfTypes p.values trees (p.terms.inputs t) × (values_of p.values trees ≡ vs)
          × AllowsValue p t (w.construct t trees))) (λ h. elim h [
            | inl x ↦ surely (outside_answer t vs (x.0) e (x.1) (x.2) (x.3))
            | inr n ↦ surely (free_answer t vs (p.terms.partial t) refl q (λ trees o typed stand al. n (trees, typed, stand, al))
                (λ b i typed m. (let z : true ≡ false = sym i ∙ e in cc)))
          ])
      go true e = follows (either ((b : Option Value) × AreValuesOf p.values vs (p.terms.inputs t) × below t vs [] b)) (λ h. elim h [
        | inl x ↦ follows (good t vs [] (x.0) (ruled e) (x.1) (x.2)) (λ ok. surely (inside_answer t vs (x.0) (ruled e) e ok (x.2)))
        | inr n ↦ surely (free_answer t vs (p.terms.partial t) refl q (λ trees o typed stand al. (let z : true ≡ false = sym e ∙ o in cc))
            (λ b i typed m. n (b, typed, m)))
      ])

  -- a call of an extractor that nothing is said of has any allowed outputs
  free_opening : (t : ℕ) (v : Value) (infallible : Bool) → p.terms.infallible t ≡ infallible → Q t
      → ((tree : ValueTree) → IsOfType p.values tree (p.terms.type_of t) → value_of p.values tree ≡ v
      → AllowsOutputs p t (w.extract t tree) → ⊥)
      → OpeningAnswer t v
  free_opening t v false e q out = record {
    answer = fails;
    known = λ z. cc;
    fits = record {
      outputs = λ tree typed stands al. absurd (out tree typed stands al);
      fallible = λ z. e;
      typed = λ vs z. absurd cc;
    };
  }
  free_opening t v true e q out =
      let (vs, typed_vs) = has.opened t q e in
      record {
        answer = gives vs;
        known = λ z. cc;
        fits = record {
          outputs = λ tree typed stands al. absurd (out tree typed stands al);
          fallible = λ z. absurd cc;
          typed = λ us z. (let y : vs ≡ us = cc in subst (λ (k : Values). AreValuesOf p.values k (p.terms.inputs t)) y typed_vs);
        };
      }

  -- what the world answers an extractor
  world_opening : (t : ℕ) (v : Value) (tree : ValueTree) → IsOfType p.values tree (p.terms.type_of t) → value_of p.values tree ≡ v
      → AllowsOutputs p t (w.extract t tree) → OpeningAnswer t v
  world_opening t v tree typed stands al = record {
    answer = got (answer_values p (w.extract t tree));
    known = got_known (answer_values p (w.extract t tree));
    fits = record {
      outputs = λ other typed' stands' al'. (let same : tree ≡ other = trees_are_one p sound tree other (p.terms.type_of t) typed typed'
          (stands ∙ sym stands') in ap (λ (z : ValueTree). got (answer_values p (w.extract t z))) same);
      fallible = got_fallible t (w.extract t tree) al;
      typed = λ vs e. got_opened t (w.extract t tree) vs al e;
    };
  }

  -- so can't an extractor's
  pub opening_answered : (t : ℕ) (v : Value) → Q t → Surely (OpeningAnswer t v)
  opening_answered t v q = follows (either ((tree : ValueTree) × IsOfType p.values tree (p.terms.type_of t) × (value_of p.values tree ≡ v)
      × AllowsOutputs p t (w.extract t tree))) (λ h. elim h [
        | inl x ↦ surely (world_opening t v (x.0) (x.1) (x.2) (x.3))
        | inr n ↦ surely (free_opening t v (p.terms.infallible t) refl q (λ tree typed stands al. n (tree, typed, stands, al)))
      ])
