-- How a rule goes on where an expression has its value, and how the next rule is tried.
use Rattle.std.proofs.Common.{◌≡◌, ◌++◌, ◌+◌, ◌<◌, ◌≤◌, inl, inr, ℕ, zero, suc, List, [], ◌∷◌, Option, Some, length, map, slice_get}
use Rattle.std.proofs.Common.{drop, refl, sym, ◌∙◌, ap, subst, arith, Contains}
use Rattle.std.proofs.lemmas.List.{append-nil}
use Rattle.std.specs.Prelude.{slice_index_or}
use Rattle.isle_rules.specs.declared.rules.IfLet.{IfLet as Condition}
use Rattle.isle_rules.specs.Shown.ShownRules.{iflet_shown}
use Rattle.isle_rules.specs.TypedRules.{TypedIfLet, TypedRule}
use Rattle.isle_meaning.specs.Values.{Value}
use Rattle.isle_meaning.specs.GroundValues.{IsValueOf, AreValuesOf}
use Rattle.isle_meaning.specs.Scopes.{scope_all, none}
use Rattle.isle_meaning.specs.Words.{Word, call_word, Step}
use Rattle.isle_meaning.specs.Worlds.{Event}
use Rattle.isle_meaning.specs.Asking.{Ended}
use Rattle.isle_calls.specs.declared.plain.evaluation.Evaluation.{Evaluation}
use Rattle.isle_calls.specs.declared.plain.frame.current.At.{At}
use Rattle.isle_calls.specs.declared.plain.frame.current.At.TheVariants.{IfLet, Right}
use Rattle.isle_program.specs.Meanings.{checked, may_run}
use Rattle.isle_meaning.specs.Outcomes.{Outcome, given, missing, ended, unmatched}
use Rattle.isle_meaning.specs.PlainRuns.{PatternRuns, PatternsRun, no_variables, AreTriedInOrder}
use Rattle.isle_meaning.specs.Calls.{IsRuleAt}
use Rattle.isle_program.specs.declared.program.Program.{Program}
use Rattle.isle_calls.specs.Stores.Values.{Stands}
use Rattle.isle_calls.specs.Inside.Plain.Fitting.{HoldVariables}
use Rattle.isle_calls.specs.Inside.Plain.Underway.{HasTypedValue, ComesTo, IsUnderway, IsKnown, known_at}
use Rattle.isle_calls.specs.Inside.Plain.Asked.{IsAskedFor}
use Rattle.isle_calls.specs.Calls.Open.{CallOf}
use Rattle.isle_calls.specs.Inside.Plain.Frames.{CallComes, below_call, RulesLead, RuleTried, rule_of, ConditionsCome, ConditionsLead, right_steps}
use Rattle.isle_calls.specs.Inside.Plain.Frames.{right_word, RightComes, IsTried, Progress, later, scope_before, HasTypedBefore, ConditionAt}
use Rattle.isle_calls.specs.Inside.Plain.Frames.{around_condition, condition_word, IsAtIfLet, word_needed, around_right, IsAtRight, IsAt}
use Rattle.isle_calls.specs.Inside.Plain.Frames.{root_at, word_at, laid_at, root_there, IsBegun, IsBegunAt}
use Rattle.isle_meaning.proofs.Calls.RuleGiving.{none_answered}
use Rattle.isle_meaning.proofs.Calls.Giving.{words_give_typed, patterns_give_typed, patterns_give_typed_all}
use Rattle.isle_meaning.proofs.Calls.Outcomes.{after_given}
use Rattle.isle_program.proofs.SoundPrograms.Known.{sound_of}
use Rattle.isle_calls.proofs.PlainRoad.Evaluations.Going.{asked}
use Rattle.isle_calls.proofs.PlainRoad.Evaluations.Turns.{still_known}
use Rattle.isle_calls.proofs.PlainRoad.Frames.Rules.{rule_left, rule_ended, right_comes}
use Rattle.isle_calls.proofs.PlainRoad.Frames.Begun.{begun_asked, below_gives_typed, scope_first, scope_next, begin_condition, begin_right}
use Rattle.isle_calls.proofs.PlainRoad.Frames.Steps.{right_gives, as_many, step_typed}
use Rattle.isle_calls.proofs.PlainRoad.Frames.Calls.{less_or}
use Rattle.isle_calls.proofs.PlainRoad.Frames.Evaluated.{right_root}

-- what was asked for, where nothing is left to be evaluated, is known
pub all_known : (root : ℕ) (e : Evaluation) → IsAskedFor root e → e.todo.items ≡ [] → IsKnown e root
all_known root e (inl h) empty = h.1
all_known root e (inr (others, first, below)) empty = absurd (let q : [] ≡ root ∷ others = sym empty ∙ first in cc)

-- behind the condition of a place the others are left
pub drop_next : (xs : List TypedIfLet) (place : ℕ) (y : TypedIfLet) (ys : List TypedIfLet) → drop place xs ≡ y ∷ ys → drop (suc place)
    xs ≡ ys
drop_next [] zero y ys e = absurd cc
drop_next [] (suc place) y ys e = absurd cc
drop_next (x ∷ xs) zero y ys e = cc
drop_next (x ∷ xs) (suc place) y ys e = drop_next xs place y ys e

-- the condition of a place is the first of those left there
pub shown_there : (names : List (List ℕ)) (xs : List Condition) (place : ℕ) (x : Condition) (y : TypedIfLet) (ys : List TypedIfLet)
    → slice_get xs place ≡ Some x → drop place (map (iflet_shown names) xs) ≡ y ∷ ys → y ≡ iflet_shown names x
shown_there names [] place x y ys there e = absurd cc
shown_there names (z ∷ xs) zero x y ys there e =
    let same : z ≡ x = cc in let first : y ≡ iflet_shown names z = cc in first ∙ ap (iflet_shown names) same
shown_there names (z ∷ xs) (suc place) x y ys there e = shown_there names xs place x y ys there e

-- what the pattern of a condition comes to on a value
abbrev pub PatternComes : {t : RuleTried} {is : IsTried t} {place : ℕ} → ConditionAt t is place → Value → Outcome (ℕ → Value) → Type 0
PatternComes {t = t} c v r = PatternRuns (checked t.call.program) t.call.answers c.a c.iflet.pattern v r

-- what the patterns of a rule come to on the call's arguments
abbrev pub PatternsCome : RuleTried → Outcome (ℕ → Value) → Type 0
PatternsCome t r = PatternsRun (checked t.call.program) t.call.answers no_variables (rule_of t).args t.call.args r

-- past the end of a list the default is met
index_past : (xs : List ℕ) (n d : ℕ) → length xs ≤ n → slice_index_or xs n d ≡ d
index_past [] n d h = refl
index_past (x ∷ xs) zero d h = absurd (omega (arith, h))
index_past (x ∷ xs) (suc n) d h = index_past xs n d (omega (arith, h))

-- a condition, or past the last the right side, is begun
pub begin_at : {t : RuleTried} (is : IsTried t) (s : Progress) (a : ℕ → Value) → HoldVariables s.stored s.variables a → (place : ℕ) (at : At)
    → HasTypedBefore is place a → ConditionsLead t a place → IsBegunAt place t.laid at s.evaluation → IsAt t is s at []
begin_at {t = t} is s a hold place at typed onward (first, begun) = elim (less_or place (length t.laid.iflets.items)) [
  | inl less ↦ (
      let here : at ≡ IfLet place = first.condition less in
      subst (λ (x : At). IsAt t is s x []) (sym here) (
        refl,
        begin_condition is s a hold place less typed onward
            (subst (λ (x : At). IsBegun (laid_at t.laid x) (root_there t.laid x) s.evaluation) here begun),
      ))
  | inr past ↦ (
      let here : at ≡ Right 0 = first.past past in
      subst (λ (x : At). IsAt t is s x []) (sym here) (begin_right is s a hold place past onward
      (subst (λ (x : At). IsBegun (laid_at t.laid x) (root_there t.laid x) s.evaluation) here begun)))
]

-- the value of a condition's expression, where nothing is left to be evaluated
pub condition_value : {t : RuleTried} {is : IsTried t} {s : Progress} {place : ℕ} (at : IsAtIfLet t is s place) → s.evaluation.todo.items ≡ []
    → (n : ℕ) × (known_at s.evaluation at.condition.expr.result ≡ Some n) × ((v : Value) × Stands s.stored v n
    × ComesTo (around_condition at.condition) (condition_word at.condition) (given v))
condition_value {s = s} at empty =
    let (n, found) = all_known at.condition.expr.result s.evaluation at.asked empty in
    (n, found, at.underway.right at.condition.expr.result n found (condition_word at.condition) at.condition.type at.condition.part)

module _ {t : RuleTried} {is : IsTried t} {place : ℕ} (c : ConditionAt t is place) (v : Value)
    (comes : ComesTo (around_condition c) (condition_word c) (given v)) where
  -- it is of the pattern's type
  pub value_typed : IsValueOf (checked t.call.program).values v c.type
  value_typed = words_give_typed (checked t.call.program) t.call.answers (may_run t.call.program) (sound_of t.call.program).sound.data_sound
      (below_call t.call) (below_gives_typed t.call) (HasTypedValue (around_condition c)) is.sound.var_types c.answer_types c.a []
      (λ j h. h) (none_answered (checked t.call.program) c.answer_types) (condition_word c) c.type v c.part.1 comes

  -- a condition whose pattern doesn't fit leaves the rule
  pub pattern_leaves : PatternComes c v missing
      → RulesLead t.call t.others t.tried
  pattern_leaves run = rule_left is (c.onward missing (given v, comes, (missing, run, refl)))

  -- one that meets a call whose answer isn't allowed ends the call
  pub pattern_ends : (x : Ended) → PatternComes c v (ended x)
      → CallComes t.call t.tried [] (ended x)
  pattern_ends x run = rule_ended is x (c.onward (ended x) (given v, comes, (ended x, run, refl)))

  -- behind one that fits the next is begun
  pub pattern_fits : (s : Progress) (b : ℕ → Value) → HoldVariables s.stored s.variables b
      → PatternComes c v (given b) → (next : At)
      → IsBegunAt (suc place) t.laid next s.evaluation → IsAt t is s next []
  pattern_fits s b hold run next begun =
      let S = scope_all (rule_of t).args none in
      let bound = patterns_give_typed (checked t.call.program) t.call.answers (sound_of t.call.program).sound.data_sound c.iflet.pattern
      (scope_before (rule_of t).iflets place S) is.sound.var_types c.a b v c.type c.fits c.typed value_typed run in
      begin_at is s b hold (suc place) next (λ j h. bound j (scope_next (rule_of t).iflets place c.iflet c.others S c.left j h))
      (λ r rest. c.onward r (
        given v,
        comes,
        (
          given b,
          run,
          subst (λ (xs : List TypedIfLet). ConditionsCome t b xs r) (drop_next (rule_of t).iflets place c.iflet c.others c.left) rest,
        ),
      )) begun

module _ {t : RuleTried} {is : IsTried t} {s : Progress} {place : ℕ} {since : List Event} (at : IsAtRight t is s place since)
    (empty : s.evaluation.todo.items ≡ []) where
  root_value : (n : ℕ) × (known_at s.evaluation (root_at t.laid.right place) ≡ Some n) × ((v : Value) × Stands s.stored v n
      × ComesTo (around_right at.right) (word_needed t place) (given v))
  root_value =
      let (n, found) = all_known (root_at t.laid.right place) s.evaluation at.asked empty in
      let (u, part) = right_root at.right place in
      (n, found, at.underway.right (root_at t.laid.right place) n found _ u part)

  many : length (right_steps t) ≡ length t.laid.right.calls.items
  many = as_many _ _ _ is.laid_out.right.steps

  -- past the last call the result is the call's
  pub right_result : length t.laid.right.calls.items ≤ place
      → (n : ℕ) × (known_at s.evaluation t.laid.right.result ≡ Some n)
      × ((v : Value) × Stands s.stored v n × CallComes t.call t.tried since (given v))
  right_result past =
      let (n, found, (v, stands, comes)) = root_value in
      let last = index_past t.laid.right.calls.items place t.laid.right.result past in
      let here = subst (λ (j : ℕ). ComesTo (around_right at.right) (word_needed t j) (given v)) (sym all_done) comes in
      let rest = right_gives _ _ _ at.right.a at.right.done (right_steps t) (right_word t) (length at.right.done) (given v)
      (subst (λ (j : ℕ). length (right_steps t) ≤ j) (sym all_done) (omega (arith, many, past))) here in (
        n,
        subst (λ (j : ℕ). known_at s.evaluation j ≡ Some n) last found,
        (
          v,
          stands,
          right_comes is at.right.a since (given v) at.right.chosen (subst (λ (trace : List Event). RightComes t at.right.a trace (given v))
              (append-nil since) (at.right.onward [] (given v) rest)),
        ),
      )
    where
      all_done : length at.right.done ≡ place
      all_done = elim at.stage [
        | inl e ↦ e
        | inr h ↦ (let less : place < length t.laid.right.calls.items = h.1 in absurd (omega (arith, less, past)))
      ]

  -- before, the call of the place was answered
  one_done : place < length t.laid.right.calls.items → length at.right.done ≡ suc place
  one_done less = elim at.stage [ inl e ↦ absurd (unanswered e) | inr h ↦ h.0 ]
    where
      not_given : (xs : List (Option Value)) (v : Value) → slice_get xs (length xs) ≡ Some (Some v) → ⊥
      not_given [] v e = cc
      not_given (x ∷ xs) v e = not_given xs v e

      at_place : (steps : List Step) (result : Word) (n : ℕ) → n < length steps → (x : Step)
          × (word_at steps result n ≡ call_word x.term x.args (suc x.place)) × (slice_get steps n ≡ Some x)
      at_place [] result n h = absurd (omega (arith, h))
      at_place (x ∷ steps) result zero h = (x, refl, refl)
      at_place (x ∷ steps) result (suc n) h = at_place steps result n (omega (arith, h))

      found_there : (x : Step) (v : Value) → x.place ≡ length at.right.done
          → ComesTo (around_right at.right) (call_word x.term x.args (suc x.place)) (given v) → ⊥
      found_there x v e (g, run, next) =
          let (vs, q, (y, found, o)) = after_given g _ v next in
          not_given at.right.done y (subst (λ (j : ℕ). slice_get at.right.done j ≡ Some (Some y)) e found)

      unanswered : length at.right.done ≡ place → ⊥
      unanswered e =
          let (n, found, (v, stands, comes)) = root_value in
          let (x, word, there) = at_place (right_steps t) (right_word t) place (omega (arith, many, less)) in
          let (placed, typed) = step_typed (checked t.call.program) (may_run t.call.program) (HasTypedValue (around_right at.right))
          is.sound.var_types at.right.answer_types 0 (right_steps t) place x at.right.steps_typed there in
          found_there x v (omega (arith, placed, e)) (subst (λ (y : Word). ComesTo (around_right at.right) y (given v)) word comes)

  -- and the next is asked for
  pub right_next : place < length t.laid.right.calls.items → (after : Evaluation)
      → after.todo.items ≡ s.evaluation.todo.items ++ root_at t.laid.right (suc place) ∷ [] → after.known ≡ s.evaluation.known
      → after.missed ≡ s.evaluation.missed → IsAtRight t is (later s s.stored after) (suc place) since
  right_next less after joined same missed =
      let (u, part) = right_root at.right (suc place) in
      let alone : after.todo.items ≡ root_at t.laid.right (suc place) ∷ [] =
      joined ∙ ap (λ (l : List ℕ). l ++ root_at t.laid.right (suc place) ∷ []) empty in
      record {
        right = at.right;
        hold = at.hold;
        stage = inl (one_done less);
        known = λ i n below there. still_known s.evaluation after same n (at.known i n below there);
        asked = begun_asked (root_at t.laid.right (suc place)) after alone;
        missed = missed ∙ at.missed;
        underway = subst (λ (j : ℕ). IsUnderway (around_right at.right) s.stored (word_needed t j) after) (sym (one_done less))
            (asked (around_right at.right) s.stored _ u (root_at t.laid.right (suc place)) s.evaluation after part
            at.underway.right at.underway.sized at.missed empty joined same missed);
      }

-- where no rule is left, the call comes to what it comes to without one
pub none_leads : (k : CallOf) (tried : ℕ) → RulesLead k [] tried
    → CallComes k tried [] (unmatched ((checked k.program).terms.partial k.term) k.term k.args)
none_leads k tried leads =
    let same : tried + 0 ≡ tried = omega arith in
    subst (λ (n : ℕ). CallComes k n [] (unmatched ((checked k.program).terms.partial k.term) k.term k.args)) same
    (leads.comes 0 [] _ (refl, refl, refl))

module _ {t : RuleTried} (is : IsTried t) where
  -- a rule whose patterns don't fit is left
  pub patterns_leave : PatternsCome t missing
      → RulesLead t.call t.others t.tried
  patterns_leave run = rule_left is (missing, run, refl)

  -- one that meets a call whose answer isn't allowed ends the call
  pub patterns_end : (x : Ended) → PatternsCome t (ended x)
      → CallComes t.call t.tried [] (ended x)
  patterns_end x run = rule_ended is x (ended x, run, refl)

  -- its arguments are of its patterns' types
  pub root_typed : AreValuesOf (checked t.call.program).values t.call.args ((checked t.call.program).terms.inputs (rule_of t).root)
  root_typed = subst (λ (n : ℕ). AreValuesOf (checked t.call.program).values t.call.args ((checked t.call.program).terms.inputs n))
      (sym is.root) is.args_typed

  -- behind patterns that fit the first condition is begun, or the right side
  pub patterns_fit : (s : Progress) (b : ℕ → Value) → HoldVariables s.stored s.variables b
      → PatternsCome t (given b) → (at : At)
      → IsBegunAt 0 t.laid at s.evaluation → IsAt t is s at []
  patterns_fit s b hold run at begun =
      let bound = patterns_give_typed_all (checked t.call.program) t.call.answers (sound_of t.call.program).sound.data_sound
      (rule_of t).args none is.sound.var_types no_variables b t.call.args ((checked t.call.program).terms.inputs (rule_of t).root)
      is.sound.typed.args (λ j h. absurd h) root_typed run in
      begin_at is s b hold 0 at (λ j h. bound j (scope_first (rule_of t).iflets (scope_all (rule_of t).args none) j h))
      (λ r rest. (given b, run, rest)) begun

-- a call of which no rule was tried has its term's rules left
pub new_frame : (k : CallOf) (program : Program) (places : List ℕ) → k.program ≡ program → AreTriedInOrder (checked program) k.term places
    → ((i : ℕ) → Contains places i → (rule : TypedRule) × IsRuleAt (checked k.program) k.term i rule) × RulesLead k places 0
new_frame k program places of_program tried =
    let its = subst (λ (p : Program). AreTriedInOrder (checked p) k.term places) (sym of_program) tried in (
      λ i h. (its.all i).0 h,
      record {
        comes = λ more trace r run.
            (let same : more ≡ 0 + more = omega arith in subst (λ (n : ℕ). CallComes k n trace r) same (places, its, run));
        begins = λ made begun. inr (places, its, begun);
      },
    )
