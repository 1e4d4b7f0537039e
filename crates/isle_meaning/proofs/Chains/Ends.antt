-- Where a plain run ends unanswered, a chain of asking ends so.
use Rattle.std.proofs.Common.{◌≡◌, ◌⊎◌, inl, inr, ◌<◌, ◌≤◌, ◌+◌, ◌-◌, ◌≤ℤ◌, ℕ, zero, suc, List, [], ◌∷◌, ◌++◌, Bool, true, false, Some, None}
use Rattle.std.proofs.Common.{Contains, slice_get, refl, sym, ◌∙◌, ap, subst, arith}
use Rattle.std.proofs.Math.Decide.{ℕ_discrete}
use Rattle.std.proofs.lemmas.Int.{ints}
use Rattle.std.proofs.lemmas.Option.{slice_get_within, slice_get-get_or, get_or_from_slice_get}
use Rattle.isle_rules.specs.TypedRules.{TypedRule}
use Rattle.isle_meaning.specs.Values.{Value, Values}
use Rattle.isle_meaning.specs.GroundValues.{AreValuesOf}
use Rattle.isle_meaning.specs.Words.{word_of, steps_of}
use Rattle.isle_meaning.specs.Answers.{Completion}
use Rattle.isle_meaning.specs.Matching.{MatchesWith, Matches}
use Rattle.isle_meaning.specs.Scopes.{scope_of}
use Rattle.isle_meaning.specs.Worlds.{CheckedProgram, Answers, Event}
use Rattle.isle_meaning.specs.Calls.{Agrees, IsRuleAt, CoversAll, Means}
use Rattle.isle_meaning.specs.Asking.{asks_value, plain_links, no_link, Ended, stuck, spent}
use Rattle.isle_meaning.specs.Outcomes.{Outcome, given, missing, ended, unmatched, IsMeant}
use Rattle.isle_meaning.specs.PlainRuns.{Tried, RuleRuns, RightRuns, RulesRun, IsTriedBefore, AreTriedInOrder, PlainRun}
use Rattle.isle_meaning.specs.Laws.Plain.{EndsAreAsked}
use Rattle.isle_meaning.specs.SoundPrograms.{IsSoundRule, IsSound}
use Rattle.isle_meaning.specs.Inside.TypedWords.{GivesTyped}
use Rattle.isle_meaning.proofs.Calls.WordTyping.{calls_types, expr_typed}
use Rattle.isle_meaning.proofs.Calls.RuleGiving.{none_answered, rule_gives_typed}
use Rattle.isle_meaning.proofs.Calls.Saying.{OutcomeMeans, GivesMeant}
use Rattle.isle_meaning.proofs.Calls.Matching.{rule_left, rule_matches}
use Rattle.isle_meaning.proofs.Calls.Meant.{plain_run_meant}
use Rattle.isle_meaning.specs.Demands.{vars_of}
use Rattle.isle_meaning.proofs.Matching.Whole.{both_forward}
use Rattle.isle_meaning.proofs.Chains.Prefixed.{choose_ends, finish_ends}
use Rattle.isle_meaning.proofs.Chains.PureCalls.{calls_marked}
use Rattle.isle_meaning.proofs.Chains.RightEnds.{right_ends}
use Rattle.isle_meaning.proofs.Chains.RuleEnds.{rule_ends}
use Rattle.isle_meaning.proofs.Chains.WordEnds.{Ends, EndsBelow}

-- what contains an item has it at a place
place_of : (xs : List ℕ) (x : ℕ) → Contains xs x → (k : ℕ) × (slice_get xs k ≡ Some x)
place_of xs x h = (h.0, slice_get-get_or xs (h.0) x (h.1) ∙ ap (λ (y : ℕ). Some y) (h.2))

-- what has it at a place contains an item
item_at : (xs : List ℕ) (k x : ℕ) → slice_get xs k ≡ Some x → Contains xs x
item_at xs k x e = (k, slice_get_within xs k x e, get_or_from_slice_get xs k x x e)

-- a rule that is tried before another has no less a priority
no_less : (i j : ℕ) (one other : TypedRule) → IsTriedBefore i one j other → other.priority ≤ℤ one.priority
no_less i j one other (inl h) = omega (arith, ints, h)
no_less i j one other (inr h) = let e = h.0 in omega (arith, ints, e)

-- nor has one that is the same
equally : (one other : TypedRule) → one ≡ other → other.priority ≤ℤ one.priority
equally one other e = let q = ap (λ (r : TypedRule). r.priority) e in omega (arith, ints, q)

-- two rules at one place are one
pub one_rule : (p : CheckedProgram) (i j : ℕ) (one other : TypedRule) → i ≡ j → slice_get p.rules i ≡ Some one → slice_get p.rules j
    ≡ Some other → one ≡ other
one_rule p i j one other e h k = let q : Some one ≡ Some other = sym h ∙ (ap (slice_get p.rules) e ∙ k) in cc

-- one of two different numbers is below the other
pub below_or_above : (l k : ℕ) → (l ≡ k → ⊥) → (l < k) ⊎ (k < l)
below_or_above zero zero d = absurd (d refl)
below_or_above zero (suc k) d = inl (omega arith)
below_or_above (suc l) zero d = inr (omega arith)
below_or_above (suc l) (suc k) d = elim (below_or_above l k (λ e. d (ap suc e)))
    [ inl h ↦ inl (omega (arith, h)) | inr h ↦ inr (omega (arith, h)) ]

-- how rules that are tried end: the right side of one that is passed ends, the others end, or one that is tried ends
pub tried_ended : (s : Outcome (ℕ → Value)) (right : (ℕ → Value) → List Event → Outcome Value → Type 0)
    (others : ℕ → List Event → Outcome Value → Type 0) (steps : ℕ) (trace : List Event) (e : Ended)
    → Tried s right others steps trace (ended e)
    → ((a : ℕ → Value) × (s ≡ given a) × right a trace (ended e))
    ⊎ (((s ≡ missing) × ((more : ℕ) × others more trace (ended e))) ⊎ ((s ≡ ended e) × (trace ≡ [])))
tried_ended (given a) right others steps trace e h = inl (a, refl, h.1)
tried_ended missing right others steps trace e h = inr (inl (refl, (h.0, h.2)))
tried_ended (ended d) right others steps trace e h =
    let o = h.2 in let q : d ≡ e = cc in inr (inr (ap (λ (z : Ended). ended z) q, h.1))

-- where no rule is left, an end is that of a call that is stuck
unmatched_ended : (b : Bool) (t : ℕ) (args : Values) (e : Ended) → ended e ≡ unmatched b t args → (b ≡ false) × (e ≡ stuck t args)
unmatched_ended true t args e q = absurd cc
unmatched_ended false t args e q = (refl, cc)

module _ (p : CheckedProgram) (w : Answers) (R : ℕ → Type 0) (sound : IsSound p R) (n : ℕ)
    (below : ℕ → Values → List Event → Outcome Value → Type 0) (gives_typed : GivesTyped p R below)
    (meant : GivesMeant p R below (Means p w n)) (ends : EndsBelow p w n R below)
    (t : ℕ) (args : Values) (runs : R t) (args_typed : AreValuesOf p.values args (p.terms.inputs t)) (places : List ℕ)
    (order : AreTriedInOrder p t places) where
  -- a rule whose place is listed is of the term
  of_term : (k i : ℕ) (rule : TypedRule) → slice_get places k ≡ Some i → slice_get p.rules i ≡ Some rule → IsRuleAt p t i rule
  of_term k i rule e listed =
      let its = (order.all i).0 (item_at places k i e) in
      let same : its.0 ≡ rule = one_rule p i i (its.0) rule refl (its.1.listed) listed in
      subst (IsRuleAt p t i) same (its.1)

  -- no completion that agrees makes the rule match
  abbrev IsLeft : TypedRule → Type 0
  IsLeft rule = (c : Completion) → Agrees p w (Means p w n) c → Matches p.terms c args rule → ⊥

  -- so of each rule before a place in the order
  abbrev AreLeft : ℕ → Type 0
  AreLeft k = (l i : ℕ) (rule : TypedRule) → l < k → slice_get places l ≡ Some i → slice_get p.rules i ≡ Some rule → IsLeft rule

  -- these are the places from one on
  abbrev IsFrom : ℕ → List ℕ → Type 0
  IsFrom k suffix = (m : ℕ) → slice_get places (m + k) ≡ slice_get suffix m

  -- one more rule is left
  one_more_left : (k i : ℕ) (rule : TypedRule) → AreLeft k → slice_get places k ≡ Some i → slice_get p.rules i ≡ Some rule → IsLeft rule
      → AreLeft (suc k)
  one_more_left k i rule left e listed h l j other less el eo = elim (ℕ_discrete l k) [
    | yes q ↦ (let z : Some j ≡ Some i = sym el ∙ (ap (slice_get places) q ∙ e) in let ij : i ≡ j = cc in
        subst IsLeft (one_rule p i j rule other ij listed eo) h)
    | no d ↦ left l j other (omega (arith, less, d)) el eo
  ]

  -- the rule at a place before which all are left is no less than each that matches
  greatest : (k i : ℕ) (rule : TypedRule) → AreLeft k → slice_get places k ≡ Some i → slice_get p.rules i ≡ Some rule → (c : Completion)
      → Agrees p w (Means p w n) c → (j : ℕ) (other : TypedRule) → IsRuleAt p t j other → Matches p.terms c args other
      → other.priority ≤ℤ rule.priority
  greatest k i rule left e listed c agrees j other at m =
      let its = place_of places j ((order.all j).1 (other, at)) in
      elim (ℕ_discrete (its.0) k) [
        | yes q ↦ (let z : Some j ≡ Some i = sym (its.1) ∙ (ap (slice_get places) q ∙ e) in let ij : i ≡ j = cc in
            equally rule other (one_rule p i j rule other ij listed (at.listed)))
        | no d ↦ elim (below_or_above (its.0) k d) [
          | inl h ↦ absurd (left (its.0) j other h (its.1) (at.listed) c agrees m)
          | inr h ↦ no_less i j rule other (order.order k (its.0) i j rule other h e (its.1) listed (at.listed))
        ]
      ]

  -- a rule of the term is sound, and of its arguments' types
  rule_sound : (i : ℕ) (rule : TypedRule) → IsRuleAt p t i rule → IsSoundRule p R rule
  rule_sound i rule at = sound.rules i rule (at.listed) (subst R (sym (at.of_term)) runs)

  -- its term's arguments are of its types
  rule_args : (i : ℕ) (rule : TypedRule) → IsRuleAt p t i rule → AreValuesOf p.values args (p.terms.inputs rule.root)
  rule_args i rule at = subst (λ (z : ℕ). AreValuesOf p.values args (p.terms.inputs z)) (sym (at.of_term)) args_typed

  -- the call is stuck where all rules are left
  stuck_ends : (k : ℕ) (trace : List Event) (e : Ended) → IsFrom k [] → AreLeft k → trace ≡ [] → ended e
      ≡ unmatched (p.terms.partial t) t args → Ends p w (suc n) (asks_value t args) trace e
  stuck_ends k trace e end left nothing q =
      let its = unmatched_ended (p.terms.partial t) t args e q in
      subst (λ (z : Ended). Ends p w (suc n) (asks_value t args) trace z) (sym (its.1))
      (subst (λ (l : List Event). Ends p w (suc n) (asks_value t args) l (stuck t args)) (sym nothing) (record {
        left = n;
        chain = no_link;
        has_rules = sound.ruled t runs;
        infallible = its.0;
        none = λ c ag covers i rule at m. (let here = place_of places i ((order.all i).1 (rule, at)) in
            left (here.0) i rule (within (here.0) i (here.1)) (here.1) (at.listed) c ag m);
      }))
    where
      within : (l i : ℕ) → slice_get places l ≡ Some i → l < k
      within l i e = elim (ℕ_discrete l k) [
        | yes q ↦ absurd (past l i e (omega (arith, q)))
        | no d ↦ elim (below_or_above l k d) [ inl h ↦ h | inr h ↦ absurd (past l i e (omega (arith, h))) ]
      ]
        where
          past : (l i : ℕ) → slice_get places l ≡ Some i → k ≤ l → ⊥
          past l i e h =
              let there : (l - k) + k ≡ l = omega (arith, h) in
              let z : Some i ≡ None = sym e ∙ (ap (slice_get places) (sym there) ∙ end (l - k)) in cc

  -- an end by the parts of its effects
  ends_along : (trace before within : List Event) (e : Ended) → trace ≡ before ++ within
      → Ends p w (suc n) (asks_value t args) (before ++ within) e → Ends p w (suc n) (asks_value t args) trace e
  ends_along trace before within e split h = subst (λ (l : List Event). Ends p w (suc n) (asks_value t args) l e) (sym split) h

  -- the rule that is passed ends
  passed_ends : (k i : ℕ) (rule : TypedRule) (a : ℕ → Value) (trace : List Event) (e : Ended) → AreLeft k → slice_get places k ≡ Some i
      → slice_get p.rules i ≡ Some rule → RuleRuns p w below args rule (given a)
      → RightRuns p w below a [] (steps_of p.terms rule.right) (word_of p.terms rule.right) trace (ended e)
      → Ends p w (suc n) (asks_value t args) trace e
  passed_ends k i rule a trace e left here listed passed right =
      let at = of_term k i rule here listed in
      let its = rule_sound i rule at in
      let typed = expr_typed p R (scope_of rule) its.var_types rule.right (p.terms.type_of rule.root) (its.well.right) (its.typed.right)
      (its.right) in
      let variables = rule_gives_typed p w R (sound.data_sound) below gives_typed rule args a its (rule_args i rule at) passed in
      let marked = calls_marked p.terms rule.right in
      let r = right_ends p w n R (sound.data_sound) below gives_typed meant ends (scope_of rule) its.var_types (calls_types p rule.right) a
      variables (word_of p.terms rule.right) (p.terms.type_of rule.root) (typed.0) (marked.0) args (vars_of p.terms rule)
      (steps_of p.terms rule.right) 0 [] trace e refl (typed.1) (marked.1) (none_answered p _) right in
      let holds : (c : Completion) → Agrees p w (Means p w n) c → CoversAll p c t args → MatchesWith p.terms c args rule a =
      λ c ag covers. rule_matches p w below R (sound.data_sound) gives_typed (Means p w n) meant c ag rule args a its
      (rule_args i rule at) passed (covers i rule at) in
      ends_along trace (r.before) (r.within) e (r.split)
      (finish_ends p w (plain_links p w) n t args (r.asked) (r.before) (r.within) e (sound.ruled t runs) (record {
        place = i;
        rule = rule;
        at = at;
        call = r.call;
        fixed = λ c ag covers. record {
          matches = (a, holds c ag covers);
          greatest = greatest k i rule left here listed c ag;
          asks = r.asks c ag ((both_forward p.terms c args rule its.well a (holds c ag covers)).1);
        };
      }) (r.ends_so))

  -- Rules that are tried from a place on, before which all are left, end where a chain of asking does.
  pub rules_end : (suffix : List ℕ) (k : ℕ) → IsFrom k suffix → AreLeft k → (steps : ℕ) (trace : List Event) (e : Ended)
      → RulesRun p w below t args suffix steps trace (ended e) → Ends p w (suc n) (asks_value t args) trace e
  rules_end [] k end left steps trace e run = stuck_ends k trace e end left (run.1) (run.2)
  rules_end (i ∷ is) k end left steps trace e run =
      let here : slice_get places k ≡ Some i = (let z : 0 + k ≡ k = omega arith in sym (ap (slice_get places) z) ∙ end 0) in
      let rule : TypedRule = run.0 in
      let at = of_term k i rule here (run.1) in
      elim (tried_ended (run.2) (λ a trace r. RightRuns p w below a [] (steps_of p.terms rule.right) (word_of p.terms rule.right) trace r)
      (RulesRun p w below t args is) steps trace e (run.4)) [
        | inl h ↦ passed_ends k i rule (h.0) trace e left here (run.1) (subst (RuleRuns p w below args rule) (h.1) (run.3)) (h.2)
        | inr h ↦ elim h [
          | inl m ↦
              let left_here : IsLeft rule = λ c ag. rule_left p w below R (sound.data_sound) gives_typed (Means p w n) meant c ag rule args
              (rule_sound i rule at) (rule_args i rule at) (subst (RuleRuns p w below args rule) (m.0) (run.3)) in
              rules_end is (suc k) (λ l. (let z : l + suc k ≡ suc l + k = omega arith in ap (slice_get places) z ∙ end (suc l)))
              (one_more_left k i rule left here (run.1) left_here) (m.1.0) trace e (m.1.1)
          | inr q ↦
              let r = rule_ends p w n R (sound.data_sound) below gives_typed meant ends args rule e (rule_sound i rule at)
              (rule_args i rule at) (subst (RuleRuns p w below args rule) (q.0) (run.3)) in
              ends_along trace [] [] e (q.1)
              (choose_ends p w (plain_links p w) n t args (r.asked) [] e (sound.ruled t runs) (record {
                place = i;
                rule = rule;
                at = at;
                site = r.site;
                its = r.its;
                call = r.call;
                within = r.within;
                fixed = r.fixed;
              })
              (r.ends_so))
        ]
      ]

module _ (p : CheckedProgram) (w : Answers) (R : ℕ → Type 0) (sound : IsSound p R)
    (is_meant : (n t : ℕ) (args : Values) (steps : ℕ) (trace : List Event) (r : Outcome Value) → R t
    → AreValuesOf p.values args (p.terms.inputs t) → PlainRun p w n t args steps trace r → IsMeant p w n t args trace r) where
  -- plain runs at a depth
  abbrev Below : ℕ → ℕ → Values → List Event → Outcome Value → Type 0
  Below n u vs effects q = (tried : ℕ) × PlainRun p w n u vs tried effects q

  -- they give values of their terms' types
  runs_give_typed : (n : ℕ) → GivesTyped p R (Below n)
  runs_give_typed n t vs effects v r h run = (is_meant n t vs (run.0) effects (given v) r h (run.1)).1

  -- what is meant is what an outcome means
  meaning_of : (n t : ℕ) (vs : Values) (effects : List Event) (r : Outcome Value) → IsMeant p w n t vs effects r
      → OutcomeMeans (Means p w n) t vs effects r
  meaning_of n t vs effects (given v) h = h.0
  meaning_of n t vs effects missing h = h
  meaning_of n t vs effects (ended e) h = tt

  -- they are meant
  runs_are_meant : (n : ℕ) → GivesMeant p R (Below n) (Means p w n)
  runs_are_meant n t vs effects r ruled h run = meaning_of n t vs effects r (is_meant n t vs (run.0) effects r ruled h (run.1))

  -- Where a plain run ends unanswered, a chain of asking ends so.
  pub runs_end : (n t : ℕ) (args : Values) (steps : ℕ) (trace : List Event) (e : Ended) → R t
      → AreValuesOf p.values args (p.terms.inputs t)
      → PlainRun p w n t args steps trace (ended e) → Ends p w n (asks_value t args) trace e
  runs_end zero t args steps trace e r h run =
      let q : ended e ≡ ended spent = run.2 in
      let o : spent ≡ e = cc in
      subst (λ (z : Ended). Ends p w zero (asks_value t args) trace z) o
      (subst (λ (l : List Event). Ends p w zero (asks_value t args) l spent) (sym (run.1))
      (record { last = t; args = args; chain = no_link; has_rules = sound.ruled t r }))
  runs_end (suc n) t args steps trace e r h run =
      rules_end p w R sound n (Below n) (runs_give_typed n) (runs_are_meant n)
      (λ u vs effects d ruled typed below. runs_end n u vs (below.0) effects d ruled typed (below.1)) t args r h (run.0) (run.1) (run.0) 0
      (λ m. (let z : m + 0 ≡ m = omega arith in ap (slice_get (run.0)) z)) (λ l i rule less. absurd (omega (arith, less))) steps trace e
      (run.2)

-- Where a plain run ends unanswered, a chain of asking ends so.
pub ends_are_asked : EndsAreAsked
ends_are_asked p w runs sound n t args steps trace e r h run =
    runs_end p w (λ u. runs u ≡ true) sound (plain_run_meant p w (λ u. runs u ≡ true) sound) n t args steps trace e r h run
