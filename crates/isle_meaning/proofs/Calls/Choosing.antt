-- Rules tried in order: the one that is passed has the greatest priority of those that match, under each completion.
use Rattle.std.proofs.Common.{◌≡◌, ◌⊎◌, ◌<◌, ◌+◌, ◌-◌, ◌≤ℤ◌, ℤ, inl, inr, ℕ, suc, List, [], ◌∷◌, Bool, true, false, Option, Some}
use Rattle.std.proofs.Common.{None, slice_get, Contains, refl, sym, ◌∙◌, ap, subst, arith}
use Rattle.std.proofs.Math.Decide.{ℕ_discrete}
use Rattle.std.proofs.lemmas.Bool.{cases_lt}
use Rattle.std.proofs.lemmas.Int.{by_lt_z}
use Rattle.std.specs.Cmp.{int_chain}
use lib.Signed.{<ℤ_irrefl, ≤ℤ_refl}
use Rattle.std.proofs.lemmas.Option.{slice_get_within, slice_get-get_or, get_or_from_slice_get}
use Rattle.isle_rules.specs.TypedRules.{TypedRule}
use Rattle.isle_meaning.specs.Values.{Value, Values}
use Rattle.isle_meaning.specs.GroundValues.{AreValuesOf, IsValueOf}
use Rattle.isle_meaning.specs.Words.{word_of, steps_of}
use Rattle.isle_meaning.specs.Answers.{Completion}
use Rattle.isle_meaning.specs.Matching.{Matches}
use Rattle.isle_meaning.specs.Scopes.{scope_of}
use Rattle.isle_meaning.specs.Worlds.{CheckedProgram, Answers, Event}
use Rattle.isle_meaning.specs.RightSides.{RightOf}
use Rattle.isle_meaning.specs.Calls.{Agrees, Makes, IsRuleAt, Told, CoversAll}
use Rattle.isle_meaning.specs.Outcomes.{Outcome, given, missing, ended, unmatched}
use Rattle.isle_meaning.specs.PlainRuns.{Tried, RuleRuns, RightRuns, RulesRun, IsTriedBefore, AreTriedInOrder}
use Rattle.isle_meaning.specs.SoundPrograms.{IsSoundRule, IsSound}
use Rattle.isle_meaning.specs.Inside.TypedWords.{GivesTyped}
use Rattle.isle_meaning.proofs.Calls.WordTyping.{calls_types, expr_typed}
use Rattle.isle_meaning.proofs.Calls.RuleGiving.{none_answered, rule_gives_typed, right_gives_typed}
use Rattle.isle_meaning.proofs.Calls.Saying.{GivesMeant}
use Rattle.isle_meaning.proofs.Calls.Matching.{rule_left, rule_matches}
use Rattle.isle_meaning.proofs.Calls.Rights.{IsAnswer, answer_map, right_answers}

-- an item has a place, and what has a place is an item
pub item_at : (xs : List ℕ) (x : ℕ) → Contains xs x → (k : ℕ) × (slice_get xs k ≡ Some x)
item_at xs x (k, inside, is) = (k, slice_get-get_or xs k x inside ∙ ap (λ (y : ℕ). Some y) is)

pub at_item : (xs : List ℕ) (k x : ℕ) → slice_get xs k ≡ Some x → Contains xs x
at_item xs k x e = (k, slice_get_within xs k x e, get_or_from_slice_get xs k x x e)

-- where one rule is tried before another, its priority is no less
tried_first : (i j : ℕ) (one other : TypedRule) → IsTriedBefore i one j other → other.priority ≤ℤ one.priority
tried_first i j one other (inl h) = by_lt_z one.priority other.priority (λ l. absurd (<ℤ_irrefl (int_chain _ _ _ l h))) (λ l. l)
tried_first i j one other (inr h) = subst (λ (z : ℤ). z ≤ℤ one.priority) (h.0) (≤ℤ_refl one.priority)

same_priority : (one other : TypedRule) → one ≡ other → other.priority ≤ℤ one.priority
same_priority one other e = subst (λ (z : TypedRule). z.priority ≤ℤ one.priority) e (≤ℤ_refl one.priority)

-- under each completion, an outcome of which each says so
each_completion : {A : Type 0} (P : A → Option Value → Type 0) (r : Outcome Value) → ((c : A) → IsAnswer (P c) r)
    → IsAnswer (λ x. (c : A) → P c x) r
each_completion P (given v) h = h
each_completion P missing h = h
each_completion P (ended e) h = tt

module _ (p : CheckedProgram) (w : Answers) (R : ℕ → Type 0) (sound : IsSound p R)
    (below : ℕ → Values → List Event → Outcome Value → Type 0) (gives_typed : GivesTyped p R below)
    (means : ℕ → Values → List Event → Option Value → Type 0) (meant : GivesMeant p R below means)
    (t : ℕ) (args : Values) (runs : R t) (args_typed : AreValuesOf p.values args (p.terms.inputs t)) (places : List ℕ)
    (tried : AreTriedInOrder p t places) where
  -- a rule whose place is listed is of the term
  pub of_term : (k i : ℕ) (rule : TypedRule) → slice_get places k ≡ Some i → slice_get p.rules i ≡ Some rule → IsRuleAt p t i rule
  of_term k i rule e listed =
      let (other, at) = (tried.all i).0 (at_item places k i e) in
      let same : other ≡ rule = (let q : Some other ≡ Some rule = sym (at.listed) ∙ listed in cc) in
      record { listed = listed; of_term = sym (ap (λ (r : TypedRule). r.root) same) ∙ at.of_term }

  -- and is sound
  pub rule_sound : (i : ℕ) (rule : TypedRule) → IsRuleAt p t i rule → IsSoundRule p R rule
  rule_sound i rule at = sound.rules i rule (at.listed) (subst R (sym (at.of_term)) runs)

  pub rule_args : (i : ℕ) (rule : TypedRule) → IsRuleAt p t i rule → AreValuesOf p.values args (p.terms.inputs rule.root)
  rule_args i rule at = subst (λ (z : ℕ). AreValuesOf p.values args (p.terms.inputs z)) (sym (at.of_term)) args_typed

  -- no completion that agrees makes the rule match
  abbrev IsLeft : TypedRule → Type 0
  IsLeft rule = (c : Completion) → Agrees p w means c → Matches p.terms c args rule → ⊥

  abbrev AreLeft : ℕ → Type 0
  AreLeft k = (l i : ℕ) (rule : TypedRule) → l < k → slice_get places l ≡ Some i → slice_get p.rules i ≡ Some rule → IsLeft rule

  abbrev ToldAnswer : List Event → Option Value → Type 0
  ToldAnswer trace x = (c : Completion) → Agrees p w means c → CoversAll p c t args → Told p means c t args trace x

  one_more_left : (k i : ℕ) (rule : TypedRule) → AreLeft k → slice_get places k ≡ Some i → slice_get p.rules i ≡ Some rule → IsLeft rule
      → AreLeft (suc k)
  one_more_left k i rule left e listed h l j other less el eo = elim (ℕ_discrete l k) [
    | yes q ↦ (let z : Some j ≡ Some i = sym el ∙ (ap (slice_get places) q ∙ e) in let ij : i ≡ j = cc in
        let o : Some rule ≡ Some other = sym listed ∙ (ap (slice_get p.rules) ij ∙ eo) in let same : rule ≡ other = cc in
        subst IsLeft same h)
    | no d ↦ left l j other (omega (arith, less, d)) el eo
  ]

  -- the rule at a place, those before which are left, is no less than each that matches
  greatest : (k i : ℕ) (rule : TypedRule) → AreLeft k → slice_get places k ≡ Some i → slice_get p.rules i ≡ Some rule → (c : Completion)
      → Agrees p w means c → (j : ℕ) (other : TypedRule) → IsRuleAt p t j other → Matches p.terms c args other
      → other.priority ≤ℤ rule.priority
  greatest k i rule left e listed c agrees j other at m =
      let (l, el) = item_at places j ((tried.all j).1 (other, at)) in
      elim (ℕ_discrete l k) [
        | yes q ↦ (let z : Some j ≡ Some i = sym el ∙ (ap (slice_get places) q ∙ e) in let ij : i ≡ j = cc in
            let o : Some rule ≡ Some other = sym listed ∙ (ap (slice_get p.rules) ij ∙ at.listed) in let same : rule ≡ other = cc in
            same_priority rule other same)
        | no d ↦ elim (below_or_above l k d) [
          | inl h ↦ absurd (left l j other h el (at.listed) c agrees m)
          | inr h ↦ tried_first i j rule other (tried.order k l i j rule other h e el listed (at.listed))
        ]
      ]
    where
      below_or_above : (l k : ℕ) → (l ≡ k → ⊥) → (l < k) ⊎ (k < l)
      below_or_above l k d = elim (cases_lt l k) [ inl h ↦ inl h | inr h ↦ inr (omega (arith, h, d)) ]

  module _ (k i : ℕ) (rule : TypedRule) (at : IsRuleAt p t i rule) where
    -- the rule that is passed gives the answer
    passed_answers : (env : ℕ → Value) (trace : List Event) (r : Outcome Value) → AreLeft k → slice_get places k ≡ Some i
        → RuleRuns p w below args rule (given env)
        → RightRuns p w below env [] (steps_of p.terms rule.right) (word_of p.terms rule.right) trace r
        → (c : Completion) → Agrees p w means c → IsAnswer (λ x. CoversAll p c t args → Told p means c t args trace x) r
    passed_answers env trace r left e run right c agrees =
        let its = rule_sound i rule at in
        let typed = expr_typed p R (scope_of rule) its.var_types rule.right (p.terms.type_of rule.root) (its.well.right) (its.typed.right)
        (its.right) in
        let variables = rule_gives_typed p w R (sound.data_sound) below gives_typed rule args env its (rule_args i rule at) run in
        answer_map (RightOf p.terms c (Makes p means) env rule trace) (λ x. CoversAll p c t args → Told p means c t args trace x) r
        (λ x h covers. inl (record {
          place = i;
          chosen = rule;
          at = at;
          variables = env;
          matches = rule_matches p w below R (sound.data_sound) gives_typed means meant c agrees rule args env its (rule_args i rule at) run
              (covers i rule at);
          greatest = greatest k i rule left e (at.listed) c agrees;
          right = h;
        }))
        (right_answers p w R (sound.data_sound) below gives_typed means meant c agrees (scope_of rule) its.var_types
        (calls_types p rule.right) env variables (steps_of p.terms rule.right) 0 [] (word_of p.terms rule.right)
        (p.terms.type_of rule.root) trace r refl (typed.1) (none_answered p _) (typed.0) right)

    -- and a value of the term's type
    passed_typed : (env : ℕ → Value) (trace : List Event) (v : Value) → RuleRuns p w below args rule (given env)
        → RightRuns p w below env [] (steps_of p.terms rule.right) (word_of p.terms rule.right) trace (given v)
        → IsValueOf p.values v (p.terms.type_of t)
    passed_typed env trace v run right =
        let its = rule_sound i rule at in
        let typed = expr_typed p R (scope_of rule) its.var_types rule.right (p.terms.type_of rule.root) (its.well.right) (its.typed.right)
        (its.right) in
        let variables = rule_gives_typed p w R (sound.data_sound) below gives_typed rule args env its (rule_args i rule at) run in
        subst (λ (z : ℕ). IsValueOf p.values v (p.terms.type_of z)) (at.of_term)
        (right_gives_typed p w R (sound.data_sound) below gives_typed (scope_of rule) its.var_types (calls_types p rule.right) env variables
        (steps_of p.terms rule.right) 0 [] (word_of p.terms rule.right) (p.terms.type_of rule.root) trace v refl (typed.1)
        (none_answered p _) (typed.0) right)

  -- where no rule is left to be tried
  none_answers : (b : Bool) (k : ℕ) (trace : List Event) → p.terms.partial t ≡ b → AreLeft k
      → ((m : ℕ) → slice_get places (m + k) ≡ None) → trace ≡ [] → IsAnswer (ToldAnswer trace) (unmatched b t args)
  none_answers false k trace e left end nothing = tt
  none_answers true k trace e left end nothing = λ c agrees covers. inr (record {
    none = λ i rule at m.
        let (l, el) = item_at places i ((tried.all i).1 (rule, at)) in
        left l i rule (inside l i el) el (at.listed) c agrees m;
    partial = e;
    failure = record { nothing = nothing; none = refl };
  })
    where
      inside : (l i : ℕ) → slice_get places l ≡ Some i → l < k
      inside l i el = elim (cases_lt l k) [
        | inl h ↦ h
        | inr h ↦ (let q : (l - k) + k ≡ l = omega (arith, h) in let z = subst (λ (y : ℕ). slice_get places y ≡ None) q (end (l - k)) in
            absurd (let o : None ≡ Some i = sym z ∙ el in cc))
      ]

  -- a rule that is tried, those before which are left
  rule_answers : (k i : ℕ) (rule : TypedRule) (s : Outcome (ℕ → Value)) (others : ℕ → List Event → Outcome Value → Type 0) (steps : ℕ)
      (trace : List Event) (r : Outcome Value) → AreLeft k → slice_get places k ≡ Some i → slice_get p.rules i ≡ Some rule
      → RuleRuns p w below args rule s
      → Tried s (λ a trace r. RightRuns p w below a [] (steps_of p.terms rule.right)
      (word_of p.terms rule.right) trace r) others steps trace r
      → (AreLeft (suc k) → (more : ℕ) → others more trace r → IsAnswer (ToldAnswer trace) r) → IsAnswer (ToldAnswer trace) r
  rule_answers k i rule (given env) others steps trace r left e listed run after next =
      each_completion (λ (c : Completion) x. Agrees p w means c → CoversAll p c t args → Told p means c t args trace x) r
      (λ c. each_completion (λ (agrees : Agrees p w means c) x. CoversAll p c t args → Told p means c t args trace x) r
      (passed_answers k i rule (of_term k i rule e listed) env trace r left e run (after.1) c))
  rule_answers k i rule missing others steps trace r left e listed run after next =
      let (more, counted, rest) = after in
      let at = of_term k i rule e listed in
      next (one_more_left k i rule left e listed (λ c agrees m.
      rule_left p w below R (sound.data_sound) gives_typed means meant c agrees rule args (rule_sound i rule at)
      (rule_args i rule at) run m))
      more rest
  rule_answers k i rule (ended q) others steps trace r left e listed run after next =
      subst (IsAnswer (ToldAnswer trace)) (sym (after.2)) tt

  first_place : (i : ℕ) (is : List ℕ) (k : ℕ) → ((m : ℕ) → slice_get places (m + k) ≡ slice_get (i ∷ is) m) → slice_get places k ≡ Some i
  first_place i is k ends = let q : 0 + k ≡ k = omega arith in subst (λ (y : ℕ). slice_get places y ≡ Some i) q (ends 0)

  other_places : (i : ℕ) (is : List ℕ) (k : ℕ) → ((m : ℕ) → slice_get places (m + k) ≡ slice_get (i ∷ is) m) → (m : ℕ)
      → slice_get places (m + suc k) ≡ slice_get is m
  other_places i is k ends m = let q : suc m + k ≡ m + suc k = omega arith in
      subst (λ (y : ℕ). slice_get places y ≡ slice_get is m) q (ends (suc m))

  -- rules that are tried from a place on, those before which are left
  pub rules_answer : (suffix : List ℕ) (k : ℕ) → ((m : ℕ) → slice_get places (m + k) ≡ slice_get suffix m) → AreLeft k → (steps : ℕ)
      (trace : List Event) (r : Outcome Value) → RulesRun p w below t args suffix steps trace r → IsAnswer (ToldAnswer trace) r
  rules_answer [] k ends left steps trace r run =
      subst (IsAnswer (ToldAnswer trace)) (sym (run.2)) (none_answers (p.terms.partial t) k trace refl left ends (run.1))
  rules_answer (i ∷ is) k ends left steps trace r (rule, listed, s, run, after) =
      rule_answers k i rule s (RulesRun p w below t args is) steps trace r left (first_place i is k ends) listed run after
      (λ left' more others. rules_answer is (suc k) (other_places i is k ends) left' more trace r others)

  unmatched_value : (b : Bool) (v : Value) → given v ≡ unmatched b t args → ⊥
  unmatched_value true v e = cc
  unmatched_value false v e = cc

  rule_typed : (k i : ℕ) (rule : TypedRule) (s : Outcome (ℕ → Value)) (others : ℕ → List Event → Outcome Value → Type 0) (steps : ℕ)
      (trace : List Event) (v : Value) → slice_get places k ≡ Some i → slice_get p.rules i ≡ Some rule → RuleRuns p w below args rule s
      → Tried s (λ a trace r. RightRuns p w below a [] (steps_of p.terms rule.right)
      (word_of p.terms rule.right) trace r) others steps trace
      (given v) → ((more : ℕ) → others more trace (given v) → IsValueOf p.values v (p.terms.type_of t))
      → IsValueOf p.values v (p.terms.type_of t)
  rule_typed k i rule (given env) others steps trace v e listed run after next =
      passed_typed k i rule (of_term k i rule e listed) env trace v run (after.1)
  rule_typed k i rule missing others steps trace v e listed run after next = let (more, counted, rest) = after in next more rest
  rule_typed k i rule (ended q) others steps trace v e listed run after next = let z = after.2 in absurd cc

  -- and give values of the term's type
  pub rules_give_typed : (suffix : List ℕ) (k : ℕ) → ((m : ℕ) → slice_get places (m + k) ≡ slice_get suffix m) → (steps : ℕ)
      (trace : List Event) (v : Value) → RulesRun p w below t args suffix steps trace (given v) → IsValueOf p.values v (p.terms.type_of t)
  rules_give_typed [] k ends steps trace v run = absurd (unmatched_value (p.terms.partial t) v (run.2))
  rules_give_typed (i ∷ is) k ends steps trace v (rule, listed, s, run, after) =
      rule_typed k i rule s (RulesRun p w below t args is) steps trace v (first_place i is k ends) listed run after
      (λ more others. rules_give_typed is (suc k) (other_places i is k ends) more trace v others)
