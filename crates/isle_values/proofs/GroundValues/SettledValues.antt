-- Values are settled at types, and found to be of them, one after the other.
use Rattle.std.proofs.Common.{◌≡◌, ◌<◌, ◌+◌, ◌++◌, ◌↔◌, ℕ, zero, suc, List, [], ◌∷◌, length, map, drop, get_or, refl, sym, ◌∙◌, ap, subst, arith}
use Rattle.std.proofs.lemmas.List.{length-append}
use Rattle.isle_types.specs.declared.ids.TypeId.{TypeId}
use Rattle.isle_rules.specs.Values.{ValueTree, ValueTrees, no_trees, more_trees, value_list}
use Rattle.isle_meaning.specs.ValueTypes.{ValueFacts, IsOfType, AreOfTypes}
use Rattle.isle_values.specs.Values.Nodes.{joined}
use Rattle.isle_program.specs.Programs.{number_of}
use Rattle.isle_values.specs.Values.Settled.{settled, settled_all}
use Rattle.isle_values.proofs.GroundValues.TypedNodes.{next_type}

module _ (facts : ValueFacts) where
  -- values at a type each: they are as many
  abbrev At : List ValueTree → List ℕ → ValueTrees
  At values types = settled_all facts (value_list values) types

  pub as_many : (values : List ValueTree) (types : List ℕ) → AreOfTypes facts (At values types) types → length values ≡ length types
  as_many [] [] of = refl
  as_many [] (ty ∷ types) of = absurd of
  as_many (v ∷ values) [] of = absurd of
  as_many (v ∷ values) (ty ∷ types) of = ap suc (as_many values types of.1)

  -- Some values are settled, and those that are left complete them at the types that are left; all are of their types exactly where
  -- these are.
  pub record IsSettlingAll (values : List ValueTree) (types : List TypeId) (left done : List ValueTree) : Type 0 where
    pub completes : At values (map number_of types) ≡ joined (value_list done) (At left (drop (length done) (map number_of types)))
    pub typed : AreOfTypes facts (At values (map number_of types)) (map number_of types)
        ↔ AreOfTypes facts (At left (drop (length done) (map number_of types))) (drop (length done) (map number_of types))
    pub count : length done + length left ≡ length values

  joined_last : (vs : List ValueTree) (v : ValueTree) (ws : ValueTrees) → joined (value_list (vs ++ v ∷ [])) ws ≡ joined
      (value_list vs) (more_trees v ws)
  joined_last [] v ws = refl
  joined_last (w ∷ vs) v ws = ap (more_trees w) (joined_last vs v ws)

  joined_none : (vs : List ValueTree) → joined (value_list vs) no_trees ≡ value_list vs
  joined_none [] = refl
  joined_none (v ∷ vs) = ap (more_trees v) (joined_none vs)

  module _ (values : List ValueTree) (types : List TypeId) (v : ValueTree) (left done : List ValueTree) (d : TypeId) where
    abbrev Ty : ℕ
    Ty = (get_or types (length done) d).0

    abbrev Later : List ℕ
    Later = drop (length done + 1) (map number_of types)

    next_split : length done < length types → drop (length done) (map number_of types) ≡ Ty ∷ Later
    next_split low = next_type types (length done) d low

    -- a value that isn't of its type
    pub all_refused : IsSettlingAll values types (v ∷ left) done → length done < length types → (IsOfType facts (settled facts v Ty) Ty → ⊥)
        → AreOfTypes facts (At values (map number_of types)) (map number_of types) → ⊥
    all_refused s low never of = never (subst (λ l. AreOfTypes facts (At (v ∷ left) l) l) (next_split low) (s.typed.0 of)).0

    pub all_stepped : IsSettlingAll values types (v ∷ left) done → length done < length types → (w : ValueTree)
        → w ≡ settled facts v Ty → IsOfType facts w Ty
        → IsSettlingAll values types left (done ++ w ∷ [])
    all_stepped s low w is of =
        let split = next_split low in
        let further : length done + 1 ≡ length (done ++ w ∷ []) = sym (length-append done (w ∷ [])) in
        let later : Later ≡ drop (length (done ++ w ∷ [])) (map number_of types) = ap (λ n. drop n (map number_of types)) further in
        record {
          completes = s.completes ∙ ap (λ l. joined (value_list done) (At (v ∷ left) l)) split ∙ ap
              (λ x. joined (value_list done) (more_trees x (At left Later))) (sym is)
              ∙ sym (joined_last done w (At left Later)) ∙ ap (λ l. joined (value_list (done ++ w ∷ [])) (At left l)) later;
          typed = (
            λ all. subst (λ l. AreOfTypes facts (At left l) l) later (subst (λ l. AreOfTypes facts (At (v ∷ left) l) l) split (s.typed.0 all)).1,
            λ rest. s.typed.1 (subst (λ l. AreOfTypes facts (At (v ∷ left) l) l) (sym split)
                (subst (λ x. IsOfType facts x Ty) is of, subst (λ l. AreOfTypes facts (At left l) l) (sym later) rest)),
          );
          count = let c = s.count in omega (arith, c, further);
        }

  -- behind the last none is left
  none_left : (types : List ℕ) (n : ℕ) → n ≡ length types → drop n types ≡ []
  none_left [] zero e = refl
  none_left [] (suc n) e = absurd (omega (arith, e))
  none_left (ty ∷ types) zero e = absurd (omega (arith, e))
  none_left (ty ∷ types) (suc n) e = none_left types n (omega (arith, e))

  pub all_ended : (values : List ValueTree) (types : List TypeId) (left done : List ValueTree) → IsSettlingAll values types left done → left ≡ []
      → length values ≡ length (map number_of types)
      → (At values (map number_of types) ≡ value_list done) × AreOfTypes facts (value_list done) (map number_of types)
  all_ended values types left done s none many =
      let here : length done ≡ length (map number_of types) = (let c = s.count in let l = ap length none in omega (arith, c, l, many)) in
      let no_types = none_left (map number_of types) (length done) here in
      let is : At values (map number_of types) ≡ value_list done =
      s.completes ∙ ap (λ l. joined (value_list done) (At l (drop (length done) (map number_of types)))) none ∙ joined_none done in (
        is,
        subst (λ vs. AreOfTypes facts vs (map number_of types)) is
            (s.typed.1 (subst (λ l. AreOfTypes facts (At l (drop (length done) (map number_of types))) (drop (length done) (map number_of types)))
            (sym none)
            (subst (λ l. AreOfTypes facts no_trees l) (sym no_types) tt))),
      )
