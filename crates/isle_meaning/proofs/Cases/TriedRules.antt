-- Worked cases: plain runs of literal rules, with how many are tried.
use Rattle.std.proofs.Common.{arith, ◌≡◌, ◌<◌, ◌⊎◌, ◌++◌, ℕ, zero, suc, List, Option, pos, [], ◌∷◌, inl, inr, refl, sym, ◌∙◌, ap, subst₂, Some, slice_get}
use Rattle.std.specs.Prelude.{Contains, ◌<ℤ◌, FitsSigned}
use Rattle.std.specs.Int.{w128}
use Rattle.std.proofs.lemmas.Int.{fits_signed_from_abs}
use Rattle.std.proofs.lemmas.Option.{none-some, same_Some}
use Rattle.isle_rules.specs.TypedRules.{TypedRule}
use Rattle.isle_rules.specs.Values.{ValueTree, ValueTrees, int_tree, no_trees, more_trees}
use Rattle.isle_meaning.specs.Words.{set, int_word, no_words, more_words, steps_of}
use Rattle.isle_meaning.specs.Worlds.{CheckedProgram, Event}
use Rattle.isle_meaning.specs.Calls.{IsRuleAt}
use Rattle.isle_meaning.specs.Asking.{stuck, spent}
use Rattle.isle_meaning.specs.Outcomes.{given, missing, ended}
use Rattle.isle_meaning.specs.PlainRuns.{no_variables, WordsRun, IsTriedBefore, AreTriedInOrder, PlainRun}
use Rattle.isle_meaning.specs.PlainBeginnings.{IsEffectOn, RightBegins, PlainBegins}
use Rattle.isle_meaning.specs.Values.{Values, no_values}
use Rattle.isle_meaning.specs.GroundValues.{values_of}
use Rattle.isle_meaning.proofs.Cases.CalledTerms.{number, on, one_type, silent, conditional, emitting, emitted, nested}

-- one place
pub lone : (p : CheckedProgram) (t i : ℕ) (rule : TypedRule) → slice_get p.rules i ≡ Some rule → rule.root ≡ t
    → ((j : ℕ) (other : TypedRule) → slice_get p.rules j ≡ Some other → other.root ≡ t → j ≡ i) → AreTriedInOrder p t (i ∷ [])
lone p t i rule at root alone = record {
  all = λ j. (
    λ among. (rule, record { listed = ap (slice_get p.rules) (found j among) ∙ at; of_term = root }),
    λ there. (0, omega arith, sym (alone j (there.0) (there.1).listed (there.1).of_term)),
  );
  order = λ k l a b one other below first second. absurd (past l b second (omega (arith, below)));
}
  where
    found : (j : ℕ) → Contains (i ∷ []) j → j ≡ i
    found j (zero, within, is) = sym is
    found j (suc k, within, is) = absurd (omega (arith, within))

    past : (l b : ℕ) → slice_get (i ∷ []) l ≡ Some b → 0 < l → ⊥
    past zero b at above = omega (arith, above)
    past (suc l) b at above = none-some b at

-- two places, the one before the other
pair : (p : CheckedProgram) (t i j : ℕ) (rule other : TypedRule) → slice_get p.rules i ≡ Some rule → slice_get p.rules j ≡ Some other
    → rule.root ≡ t → other.root ≡ t → other.priority <ℤ rule.priority
    → ((k : ℕ) (any : TypedRule) → slice_get p.rules k ≡ Some any → any.root ≡ t → (k ≡ i) ⊎ (k ≡ j)) → AreTriedInOrder p t (i ∷ j ∷ [])
pair p t i j rule other at there root own lower alone = record {
  all = λ k. (λ among. known k among, λ is. found k (alone k (is.0) (is.1).listed (is.1).of_term));
  order = λ k l a b one two below first second is also. ordered k l a b one two below first second is also;
}
  where
    known : (k : ℕ) → Contains (i ∷ j ∷ []) k → (any : TypedRule) × IsRuleAt p t k any
    known k (zero, within, is) = (rule, record { listed = ap (slice_get p.rules) (sym is) ∙ at; of_term = root })
    known k (suc zero, within, is) = (other, record { listed = ap (slice_get p.rules) (sym is) ∙ there; of_term = own })
    known k (suc (suc n), within, is) = absurd (omega (arith, within))

    found : (k : ℕ) → (k ≡ i) ⊎ (k ≡ j) → Contains (i ∷ j ∷ []) k
    found k (inl e) = (0, omega arith, sym e)
    found k (inr e) = (1, omega arith, sym e)

    ordered : (k l a b : ℕ) (one two : TypedRule) → k < l → slice_get (i ∷ j ∷ []) k ≡ Some a → slice_get (i ∷ j ∷ []) l ≡ Some b
        → slice_get p.rules a ≡ Some one → slice_get p.rules b ≡ Some two → IsTriedBefore a one b two
    ordered zero zero a b one two below first second is also = absurd (omega (arith, below))
    ordered zero (suc zero) a b one two below first second is also =
        let high = same_Some rule one (sym at ∙ ap (slice_get p.rules) (same_Some i a first) ∙ is) in
        let low = same_Some other two (sym there ∙ ap (slice_get p.rules) (same_Some j b second) ∙ also) in
        inl (subst₂ (λ (r q : TypedRule). q.priority <ℤ r.priority) high low lower)
    ordered zero (suc (suc l)) a b one two below first second is also = absurd (none-some b second)
    ordered (suc zero) zero a b one two below first second is also = absurd (omega (arith, below))
    ordered (suc zero) (suc zero) a b one two below first second is also = absurd (omega (arith, below))
    ordered (suc zero) (suc (suc l)) a b one two below first second is also = absurd (none-some b second)
    ordered (suc (suc k)) l a b one two below first second is also = absurd (none-some a first)

-- ---- the rules (g 1), 1 (f x) and 0 (f x) of CalledTerms

g_rules : AreTriedInOrder conditional 0 (0 ∷ [])
g_rules = lone conditional 0 0 _ refl refl alone
  where
    alone : (j : ℕ) (other : TypedRule) → slice_get conditional.rules j ≡ Some other → other.root ≡ 0 → j ≡ 0
    alone zero other at root = refl
    alone (suc zero) other at root =
        let same : 1 ≡ 0 = ap (λ (q : TypedRule). q.root) (same_Some _ other at) ∙ root in absurd (omega (arith, same))
    alone (suc (suc zero)) other at root =
        let same : 1 ≡ 0 = ap (λ (q : TypedRule). q.root) (same_Some _ other at) ∙ root in absurd (omega (arith, same))
    alone (suc (suc (suc j))) other at root = absurd (none-some other at)

f_rules : AreTriedInOrder conditional 1 (1 ∷ 2 ∷ [])
f_rules = pair conditional 1 1 2 _ _ refl refl refl refl (omega arith) alone
  where
    alone : (k : ℕ) (any : TypedRule) → slice_get conditional.rules k ≡ Some any → any.root ≡ 1 → (k ≡ 1) ⊎ (k ≡ 2)
    alone zero any at root =
        let same : 0 ≡ 1 = ap (λ (q : TypedRule). q.root) (same_Some _ any at) ∙ root in absurd (omega (arith, same))
    alone (suc zero) any at root = inl refl
    alone (suc (suc zero)) any at root = inr refl
    alone (suc (suc (suc k))) any at root = absurd (none-some any at)

-- (g 1) tries one rule and is 1
inner : PlainRun conditional silent 1 0 (on 1) 1 [] (given (number 1))
inner = (
  0 ∷ [],
  g_rules,
  (
    _,
    refl,
    given no_variables,
    (given no_variables, (given no_variables, inl (refl, refl), refl), refl),
    (refl, (refl, refl)),
  ),
)

-- (f 1) tries one rule and is 5
pub condition_holds : PlainRun conditional silent 2 1 (on 1) 1 [] (given (number 5))
condition_holds = (
  1 ∷ 2 ∷ [],
  f_rules,
  (
    _,
    refl,
    given (set no_variables 0 (number 1)),
    (
      given (set no_variables 0 (number 1)),
      (given (set no_variables 0 (number 1)), (given no_variables, refl, refl), refl),
      (
        given (number 1),
        (given (on 1), (given (number 1), refl, (given _, refl, refl)), (1, inner)),
        (given (set no_variables 0 (number 1)), inl (refl, refl), refl),
      ),
    ),
    (refl, (refl, refl)),
  ),
)

-- (g 3) is stuck after its one rule
stuck_there : PlainRun conditional silent 1 0 (on 3) 1 [] (ended (stuck 0 (on 3)))
stuck_there = (
  0 ∷ [],
  g_rules,
  (
    _,
    refl,
    missing,
    (missing, (missing, inr (λ e. cc, refl), refl), refl),
    (0, refl, (refl, refl, refl)),
  ),
)

-- so is (f 3), and its other rule isn't tried
condition_is_stuck : PlainRun conditional silent 2 1 (on 3) 1 [] (ended (stuck 0 (on 3)))
condition_is_stuck = (
  1 ∷ 2 ∷ [],
  f_rules,
  (
    _,
    refl,
    ended (stuck 0 (on 3)),
    (
      given (set no_variables 0 (number 3)),
      (given (set no_variables 0 (number 3)), (given no_variables, refl, refl), refl),
      (
        ended (stuck 0 (on 3)),
        (given (on 3), (given (number 3), refl, (given _, refl, refl)), (1, stuck_there)),
        refl,
      ),
    ),
    (refl, refl, refl),
  ),
)

-- at depth 1 (f 1) is spent
is_spent : PlainRun conditional silent 1 1 (on 1) 1 [] (ended spent)
is_spent = (
  1 ∷ 2 ∷ [],
  f_rules,
  (
    _,
    refl,
    ended spent,
    (
      given (set no_variables 0 (number 1)),
      (given (set no_variables 0 (number 1)), (given no_variables, refl, refl), refl),
      (ended spent, (given (on 1), (given (number 1), refl, (given _, refl, refl)), (0, (refl, refl, refl))), refl),
    ),
    (refl, refl, refl),
  ),
)

-- ---- the rules 1 (f 0) and 0 (f x) of the effects

effect_rules : AreTriedInOrder emitting 1 (0 ∷ 1 ∷ [])
effect_rules = pair emitting 1 0 1 _ _ refl refl refl refl (omega arith) alone
  where
    alone : (k : ℕ) (any : TypedRule) → slice_get emitting.rules k ≡ Some any → any.root ≡ 1 → (k ≡ 0) ⊎ (k ≡ 1)
    alone zero any at root = inl refl
    alone (suc zero) any at root = inr refl
    alone (suc (suc zero)) any at root =
        let same : 2 ≡ 1 = ap (λ (q : TypedRule). q.root) (same_Some _ any at) ∙ root in absurd (omega (arith, same))
    alone (suc (suc (suc k))) any at root = absurd (none-some any at)

-- (f 4) leaves the first rule without effect, tries two, and is 4
second_rule : PlainRun emitting silent 1 1 (on 4) 2 [] (given (number 4))
second_rule = (
  0 ∷ 1 ∷ [],
  effect_rules,
  (
    nested,
    refl,
    missing,
    (missing, (missing, inr (λ e. cc, refl), refl), refl),
    (
      1,
      refl,
      (
        _,
        refl,
        given (set no_variables 0 (number 4)),
        (
          given (set no_variables 0 (number 4)),
          (given (set no_variables 0 (number 4)), (given no_variables, refl, refl), refl),
          refl,
        ),
        (refl, (refl, refl)),
      ),
    ),
  ),
)

-- ---- the effects with which (f 0) begins

fits : (n : ℕ) → n < 100 → FitsSigned w128 (pos n)
fits n small = fits_signed_from_abs w128 (pos n) (omega (arith, small))

emits : (n m : ℕ) → n < 100 → IsEffectOn emitting 0 (on n) (emitted n m ∷ [])
emits n m small = record {
  args = more_trees (int_tree (pos n)) no_trees;
  typed = (fits n small, tt);
  stand = refl;
  answer = Some (int_tree (pos m));
  alone = refl;
}

nested_begins : (made : List Event) → RightBegins emitting silent (λ u vs effects q. (tried : ℕ) × PlainRun emitting silent 0 u vs tried effects q)
    (PlainBegins emitting silent 0) no_variables [] (steps_of emitting.terms nested.right) made → PlainBegins emitting silent 1 1 (on 0) made
nested_begins made begun = inr (
  0 ∷ 1 ∷ [],
  effect_rules,
  (nested, refl, given no_variables, (given no_variables, (given no_variables, inl (refl, refl), refl), refl), begun),
)

-- it may stop before it emits, once it has emitted 1, and once it has emitted 2 besides
stops_before : PlainBegins emitting silent 1 1 (on 0) []
stops_before = inl refl

stops_after_one : PlainBegins emitting silent 1 1 (on 0) (emitted 1 2 ∷ [])
stops_after_one =
    nested_begins (emitted 1 2 ∷ []) (inr (on 1, (given (number 1), refl, (given no_values, refl, refl)), inl (emits 1 2 (omega arith))))

-- it doesn't begin with another effect
wrong_effect : (args : ValueTrees) (answer : Option ValueTree) (vs : Values) (rest : List Event) → vs ≡ on 1 → values_of one_type args ≡ vs
    → emitted 2 9 ∷ [] ≡ record { term = 0; args = args; answer = answer } ∷ rest → ⊥
wrong_effect args answer vs rest is stand alone =
    let event : emitted 2 9 ≡ record { term = 0; args = args; answer = answer } = cc in
    let same : more_trees (int_tree (pos 2)) no_trees ≡ args = ap (λ (e : Event). e.args) event in
    let two : on 2 ≡ on 1 = ap (values_of one_type) same ∙ stand ∙ is in absurd cc

one_value : (vs : Values) → WordsRun emitting silent (λ u us effects q. (tried : ℕ) × PlainRun emitting silent 0 u us tried effects q) no_variables []
    (more_words (int_word 1 (pos 1)) no_words) (given vs) → vs ≡ on 1
one_value vs (given v, is, (given us, none, all)) = cc
one_value vs (given v, is, (missing, none, all)) = absurd cc
one_value vs (given v, is, (ended e, none, all)) = absurd cc
one_value vs (missing, is, all) = absurd cc
one_value vs (ended e, is, all) = absurd cc

not_two : RightBegins emitting silent (λ u vs effects q. (tried : ℕ) × PlainRun emitting silent 0 u vs tried effects q)
    (PlainBegins emitting silent 0)
    no_variables [] (steps_of emitting.terms nested.right) (emitted 2 9 ∷ []) → ⊥
not_two (inl none) = absurd cc
not_two (inr (vs, args, inl effect)) = wrong_effect effect.args effect.answer vs [] (one_value vs args) effect.stand effect.alone
not_two (inr (vs, args, inr (effects, rest, v, joined, run, others))) =
    wrong_effect run.args run.answer vs rest (one_value vs args) run.stand (joined ∙ ap (λ (l : List Event). l ++ rest) run.alone)
