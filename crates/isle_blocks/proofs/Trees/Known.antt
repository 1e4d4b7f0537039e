-- What is known of sites, as the code's lists keep it.
use Rattle.std.proofs.Common.{◌≡◌, ◌⊎◌, inl, inr, ℕ, ◌<◌, ◌==◌, List, Bool, false, Option, Some, None, refl, sym, ◌∙◌, ap, subst, arith, get_or, length, map, set, length-set, eqb-true, eq-eqb}
use Rattle.std.proofs.lemmas.Option.{same_Some}
use Rattle.std.proofs.lemmas.List.{length-map}
use Rattle.isle_trees.specs.Rules.{Want}
use Rattle.isle_trees.specs.Scopes.{inside, join}
use Rattle.isle_trees.specs.Search.{IsSamePath}
use Rattle.isle_trees.proofs.Basics.{true_or}
use Rattle.isle_trees.proofs.Building.Scopes.{scope_same, relabelled, joined_below, set_passed}
use Rattle.isle_blocks.specs.RuleSets.{RulesOverSites}
use Rattle.isle_blocks.specs.declared.constraint.Constraint.{Constraint}
use Rattle.isle_blocks.specs.declared.serializer.known.Known.{Known}
use Rattle.isle_blocks.specs.Inside.Trees.Builder.{IsFit, rules_in, want_by, scope_of}
use Rattle.isle_blocks.specs.Inside.Trees.Work.{IsCopy, IsSameKnown, relabel}

-- sites that are joined have one label
pub joined_labels : (old new : Known) (a b x y : ℕ) (from made : List ℕ) → x ≡ get_or old.labels a a → y ≡ get_or old.labels b b
    → from ≡ old.labels → new.labels ≡ made → made ≡ map (relabel x y) from
    → new.labels ≡ map (relabel (get_or old.labels a a) (get_or old.labels b b)) old.labels
joined_labels old new a b x y from made e f g h k = rw (← e, ← f, ← g) (h ∙ k)

pub joined_known : (rules : RulesOverSites) (old new : Known) (a b : ℕ) → get_or old.labels a a < length old.labels
    → new.passed ≡ old.passed → new.emitted ≡ old.emitted
    → new.labels ≡ map (relabel (get_or old.labels a a) (get_or old.labels b b)) old.labels
    → scope_of rules new ≡ join (scope_of rules old) a b
joined_known rules old new a b l p m e =
    scope_same _ _
    (λ x. ap (λ (xs : List (Option ℕ)). want_by rules (get_or xs x None) x) p)
    (λ x. rw e (relabelled old.labels a (get_or old.labels b b) x l))
    (λ x. ap (λ (xs : List Bool). get_or xs x false) m)

pub joined_known_below : (old new : Known) (a b : ℕ) → b < length old.labels
    → ((x : ℕ) → x < length old.labels → get_or old.labels x x < length old.labels)
    → new.labels ≡ map (relabel (get_or old.labels a a) (get_or old.labels b b)) old.labels
    → (x : ℕ) → x < length new.labels → get_or new.labels x x < length new.labels
joined_known_below old new a b lb below e x l =
    let n : length new.labels ≡ length old.labels =
    ap length e ∙ length-map old.labels (relabel (get_or old.labels a a) (get_or old.labels b b)) in
    let m : x < length old.labels = omega arith in
    let h = joined_below old.labels new.labels a b (length old.labels) refl below lb e x m in
    omega arith

pub same_known_trans : (a b c : Known) → IsSameKnown a b → IsSameKnown b c → IsSameKnown a c
same_known_trans a b c p q = record { passed = q.passed ∙ p.passed; labels = q.labels ∙ p.labels; emitted = q.emitted ∙ p.emitted }

-- what is known stays fit where only marks change
pub fit_same : (rules : RulesOverSites) (n : ℕ) (a b : Known) → IsFit rules n a → IsSameKnown a b → IsFit rules n b
fit_same rules n a b f k = record {
  passed = ap length k.passed ∙ f.passed;
  labels = ap length k.labels ∙ f.labels;
  emitted = k.emitted ∙ f.emitted;
  below = λ x l. let P : List ℕ → Type 0 = λ xs. get_or xs x x < n in subst P (sym k.labels) (f.below x l);
  wanted = λ x i e. f.wanted x i (ap (λ (xs : List (Option ℕ)). get_or xs x None) (sym k.passed) ∙ e);
}

-- a rule's want is met
passed_or : (old new : Known) (s rule y : ℕ) → s < length old.passed → new.passed ≡ set old.passed s (Some rule)
    → ((y ≡ s) × (get_or new.passed y None ≡ Some rule))
    ⊎ (((y == s) ≡ false) × (get_or new.passed y None ≡ get_or old.passed y None))
passed_or old new s rule y l e =
    let q = ap (λ (xs : List (Option ℕ)). get_or xs y None) e ∙ set_passed old.passed s rule y l in
    elim (true_or (y == s)) [
      | inl t ↦ inl (eqb-true y s t, q ∙ rw t refl)
      | inr f ↦ inr (f, q ∙ rw f refl)
    ]

pub passed_path : (rules : RulesOverSites) (old new : Known) (s rule : ℕ) (w : Want Constraint) → s < length old.passed
    → new.passed ≡ set old.passed s (Some rule) → new.labels ≡ old.labels → (rules_in rules).at rule s ≡ Some w
    → IsSamePath (inside (rules_in rules) (scope_of rules old) s w) (scope_of rules new)
passed_path rules old new s rule w l e k h = record {
  passed = λ y. elim (passed_or old new s rule y l e) [
    | inl p ↦
        ap (λ (o : Option ℕ). want_by rules o y) p.1 ∙ ap (λ (z : ℕ). (rules_in rules).at rule z) p.0 ∙ h ∙ sym (rw (eq-eqb y s p.0) refl)
    | inr p ↦ ap (λ (o : Option ℕ). want_by rules o y) p.1 ∙ sym (rw p.0 refl)
  ];
  label = λ y. ap (λ (xs : List ℕ). get_or xs y y) k;
}

pub passed_fit : (rules : RulesOverSites) (n : ℕ) (old new : Known) (s rule : ℕ) → IsFit rules n old → s < n
    → new.passed ≡ set old.passed s (Some rule) → new.labels ≡ old.labels → new.emitted ≡ old.emitted
    → (w : Want Constraint) × ((rules_in rules).at rule s ≡ Some w) → IsFit rules n new
passed_fit rules n old new s rule f l e k m has =
    let size = f.passed in
    let b : s < length old.passed = omega arith in
    record {
      passed = ap length e ∙ length-set old.passed s (Some rule) ∙ f.passed;
      labels = ap length k ∙ f.labels;
      emitted = ap length m ∙ f.emitted;
      below = λ x i. let P : List ℕ → Type 0 = λ xs. get_or xs x x < n in subst P (sym k) (f.below x i);
      wanted = λ x i q. elim (passed_or old new s rule x b e) [
        | inl p ↦
            let same : rule ≡ i = same_Some _ _ (sym p.1 ∙ q) in
            (has.0, ap (λ (z : ℕ). (rules_in rules).at i z) p.0 ∙ ap (λ (z : ℕ). (rules_in rules).at z s) (sym same) ∙ has.1)
        | inr p ↦ f.wanted x i (sym p.1 ∙ q)
      ];
    }

pub copy_scope : (rules : RulesOverSites) (a b : Known) → IsCopy a b → scope_of rules a ≡ scope_of rules b
copy_scope rules a b c = scope_same _ _
    (λ x. ap (λ (xs : List (Option ℕ)). want_by rules (get_or xs x None) x) c.passed)
    (λ x. ap (λ (xs : List ℕ). get_or xs x x) c.labels)
    (λ x. ap (λ (xs : List Bool). get_or xs x false) c.emitted)
