-- What patterns that were read, effects that were made and what was evaluated tell of a rule.
use Rattle.isle_meaning.specs.PlainBeginnings.{IsEffectOn}
use Rattle.std.proofs.Common.{◌≡◌, ℕ, suc, List, [], ◌∷◌, Option, Some, slice_get, refl, sym, ◌∙◌, ap, subst, ◌⊎◌}
use Rattle.std.specs.Prelude.{unwrap_or}
use Rattle.isle_types.specs.declared.ids.TermId.{TermId}
use Rattle.isle_rules.specs.declared.rules.IfLet.{IfLet as Condition}
use Rattle.isle_rules.specs.TypedRules.{TypedIfLet, TypedRule, TypedPattern}
use Rattle.isle_meaning.specs.Values.{Value, Values}
use Rattle.isle_meaning.specs.GroundValues.{AreValuesOf}
use Rattle.isle_meaning.specs.Calls.{IsRuleAt}
use Rattle.isle_meaning.specs.Typing.{IsTyped}
use Rattle.isle_meaning.specs.Worlds.{Answers, Event}
use Rattle.isle_meaning.specs.Asking.{ill_typed, asks_value}
use Rattle.isle_calls.specs.declared.answer.Answer.TheVariants.{IllTyped as IllTypedAnswer}
use Rattle.isle_calls.specs.declared.plain.evaluation.Evaluation.{Evaluation}
use Rattle.isle_calls.specs.declared.plain.evaluation.Evaluated.{Evaluated}
use Rattle.isle_calls.specs.declared.plain.fitting.Fitted.{Fitted}
use Rattle.isle_calls.specs.declared.plain.fitting.Fitted.TheVariants.{Fits, Leaves, IllTyped as UnfitCall}
use Rattle.isle_calls.specs.declared.plain.frame.current.At.{At}
use Rattle.isle_calls.specs.declared.plain.frame.current.At.TheVariants.{IfLet}
use Rattle.isle_calls.specs.declared.plain.frame.current.Current.{Current}
use Rattle.isle_program.specs.declared.laid.Laid.{Laid}
use Rattle.isle_program.specs.declared.laid.Part.{Part}
use Rattle.isle_calls.specs.declared.host.Told.{Told}
use Rattle.isle_program.specs.declared.program.Program.{Program}
use Rattle.isle_calls.specs.declared.store.Stored.{Stored}
use Rattle.isle_calls.specs.declared.plain.variables.Variables.{Variables}
use Rattle.isle_program.specs.Meanings.{checked, may_run}
use Rattle.isle_meaning.specs.Outcomes.{given, ended, WorldEffects}
use Rattle.isle_meaning.specs.PlainRuns.{PatternRuns, no_variables}
use Rattle.isle_program.specs.Programs.{types_of}
use Rattle.isle_calls.specs.Stores.Values.{Stands, StandEach, Extends}
use Rattle.isle_calls.specs.Inside.Plain.Fitting.{TellsFit, number_of_variable, shown_in, all_shown_in, FitTold, FitAllTold}
use Rattle.isle_calls.specs.Calls.Host.{TellsValue}
use Rattle.isle_calls.specs.Calls.Open.{CallOf}
use Rattle.isle_calls.specs.Calls.States.{Host, State, IsOpenIn, answers_of}
use Rattle.isle_calls.specs.Inside.Plain.Underway.{known_at, ComesTo, IsLater}
use Rattle.isle_program.specs.Plain.Laid.{IsLaidRule}
use Rattle.isle_calls.specs.Inside.Plain.Frames.{CallComes, CallEnds, HasTypedArgs, RulesLead, RuleTried, rule_of, IsTried, Progress, later, IsAtIfLet, IsAt}
use Rattle.isle_calls.specs.Inside.Plain.Frames.{IsTryingRule, rule_tried, progress, IsTrying, around_condition, condition_word, laid_at, IsBegunAt, IsOnWay}
use Rattle.isle_program.proofs.SoundPrograms.Known.{sound_of}
use Rattle.isle_calls.proofs.PlainRoad.Frames.Evaluated.{EvaluationTold, RuleEvaluated, rule_evaluated}
use Rattle.isle_calls.proofs.PlainRoad.Frames.Steps.{index_there}
use Rattle.isle_calls.proofs.PlainRoad.Frames.Next.{PatternComes, PatternsCome, condition_value, value_typed, pattern_leaves, pattern_ends}
use Rattle.isle_calls.proofs.PlainRoad.Frames.Next.{pattern_fits, shown_there, patterns_leave, patterns_end, root_typed, patterns_fit}

-- what an effect that was made tells
abbrev pub EffectTold : (List Event → Type 0) → List Stored → List Stored → TermId → List ℕ → Told ℕ → Program → Type 0
EffectTold X old new term numbers told program = (vs : Values) → StandEach old vs numbers
    → AreValuesOf (checked program).values vs ((checked program).terms.inputs term.0) → (event : Event) × X (event ∷ [])
    × TellsValue (checked program) new (asks_value term.0 vs) (WorldEffects (checked program) term.0 vs (event ∷ [])) told

-- what one tells that may have been made where memory is wanted
abbrev pub EffectLost : (List Event → Type 0) → List Stored → TermId → List ℕ → Program → Type 0
EffectLost X old term numbers program = (vs : Values) → StandEach old vs numbers
    → AreValuesOf (checked program).values vs ((checked program).terms.inputs term.0) → (events : List Event) × X events
    × ((events ≡ []) ⊎ IsEffectOn (checked program) term.0 vs events)

-- what holds in a state of its program and of what its world answers holds of the call's
pub of_open : {W : Type 0} {host : Host W} {k : CallOf} {s : State W} → IsOpenIn host k s → (P : Program → Answers → Type 0)
    → P s.program (answers_of host s) → P k.program k.answers
of_open {host = host} {k = k} {s = s} runs P h = subst (P k.program) (sym runs.in_world)
    (subst (λ (p : Program). P p (answers_of host s)) (sym runs.of_program) h)

-- a rule that is tried at a place is tried at what is the same
pub at_place : {t : RuleTried} {s : Progress} {since : List Event} {at place : At} → at ≡ place → IsTryingRule t s at since
    → IsTryingRule t s place since
at_place {t = t} {s = s} {since = since} same h = subst (λ (x : At). IsTryingRule t s x since) same h

-- what was evaluated is an expression of the rule that is being tried
pub evaluated_in : {W : Type 0} {host : Host W} {k : CallOf} {z : State W} → IsOpenIn host k z → {old new : List Stored} → Extends old new
    → (current : Current) (others : List ℕ) (tried : ℕ) (since : List Event) (after : Evaluation) (evaluated last : Evaluated)
    → evaluated ≡ last → IsOnWay current.at → IsTrying k old current others tried since → IsLater current.evaluation after
    → (parts : List Part) → parts ≡ (laid_at current.laid.now current.at).parts.items
    → EvaluationTold (progress old current) new after evaluated parts z.program (answers_of host z)
    → RuleEvaluated (rule_tried k current others tried) (later (progress old current) new after) current.at since last
evaluated_in {k = k} runs {old = old} {new = new} extends current others tried since after evaluated last same way h on parts there told =
    let t = rule_tried k current others tried in let s = progress old current in
    subst (RuleEvaluated t (later s new after) current.at since) same (rule_evaluated t s extends after on current.at since evaluated way h
    (subst (λ (ps : List Part). EvaluationTold s new after evaluated ps k.program k.answers) there
    (of_open runs (EvaluationTold s new after evaluated parts) told)))

-- what a rule comes to by a pattern of a condition
abbrev pub ConditionEnds : RuleTried → List Stored → Variables → ℕ → List Event → Fitted → Type 0
ConditionEnds t new found place since Fits = (after : Evaluation) (next : At) → IsBegunAt (suc place) t.laid next after
    → IsTryingRule t (record { stored = new; variables = found; evaluation = after }) next since
ConditionEnds t new found place since Leaves = (since ≡ []) × RulesLead t.call t.others t.tried
ConditionEnds t new found place since (UnfitCall term args) = CallEnds t.call t.tried since (IllTypedAnswer term args)

module _ {t : RuleTried} {s : Progress} {place : ℕ} {since : List Event} (trying : IsTryingRule t s (IfLet place) since)
    (empty : s.evaluation.todo.items ≡ []) (condition : Condition) (there : slice_get t.known.iflets place ≡ Some condition) (number : ℕ)
    (is : number ≡ unwrap_or (known_at s.evaluation (laid_at t.laid (IfLet place)).result) 0) (new : List Stored) (found : Variables) where
  abbrev at : IsAtIfLet t trying.is s place
  at = trying.at.1

  number_is : (n : ℕ) → known_at s.evaluation at.condition.expr.result ≡ Some n → number ≡ n
  number_is n h =
      let here = index_there t.laid.iflets.items place t.laid.right at.condition.expr at.condition.there in
      is ∙ ap (λ (x : Laid). unwrap_or (known_at s.evaluation x.result) 0) here ∙ ap (λ (o : Option ℕ). unwrap_or o 0) h

  pattern_is : at.condition.iflet.pattern ≡ shown_in t.call.program condition.lhs
  pattern_is = ap (λ (x : TypedIfLet). x.pattern) (shown_there (types_of t.call.program).names t.known.iflets place condition
      at.condition.iflet at.condition.others there at.condition.left)

  -- what the condition's pattern comes to the rule comes to
  pub condition_ends : (fitted : Fitted) → FitTold t.call.program t.call.answers s.stored new s.variables found number fitted
      (shown_in t.call.program condition.lhs)
      → ConditionEnds t new found place since fitted
  condition_ends fitted told =
      let p = checked t.call.program in let c = at.condition in
      let (n, known, (v, stands, comes)) = condition_value at empty in
      go v comes fitted (subst (λ (q : TypedPattern). TellsFit p new found (PatternRuns p t.call.answers c.a q v) fitted)
      (sym pattern_is) (told v c.a trying.is.sound.var_types c.type
      (subst (λ (q : TypedPattern). IsTyped p.terms trying.is.sound.var_types q c.type) pattern_is c.fits) (value_typed c v comes)
      (subst (Stands s.stored v) (sym (number_is n known)) stands) at.hold))
    where
      go : (v : Value) → ComesTo (around_condition at.condition) (condition_word at.condition) (given v) → (fitted : Fitted)
          → TellsFit (checked t.call.program) new found (PatternComes at.condition v) fitted
          → ConditionEnds t new found place since fitted
      go v comes Fits (b, hold, run) = λ after next begun. record {
        is = trying.is;
        at = subst (IsAt t trying.is (record { stored = new; variables = found; evaluation = after }) next) (sym trying.at.0)
            (pattern_fits at.condition v comes (record { stored = new; variables = found; evaluation = after }) b hold run next begun);
      }
      go v comes Leaves run = (trying.at.0, pattern_leaves at.condition v comes run)
      go v comes (UnfitCall term args) (q, called, run) = (
        ill_typed q,
        (q, refl, called),
        subst (λ (l : List Event). CallComes t.call t.tried l (ended (ill_typed q))) (sym trying.at.0)
            (pattern_ends at.condition v comes (ill_typed q) run),
      )

-- the pattern that was read is one of a condition of the rule that is being tried
pub condition_read : {W : Type 0} {host : Host W} {k : CallOf} {z : State W} → IsOpenIn host k z → (stored new : List Stored)
    (current : Current) (others : List ℕ) (tried place : ℕ) (since : List Event) → current.evaluation.todo.items ≡ []
    → current.at ≡ IfLet place → IsTrying k stored current others tried since → (condition : Condition)
    → slice_get current.rule.now.iflets place ≡ Some condition → (number : ℕ)
    → number ≡ unwrap_or (known_at current.evaluation (laid_at current.laid.now (IfLet place)).result) 0 → (found : Variables)
    (fitted last : Fitted) → fitted ≡ last
    → FitTold z.program (answers_of host z) stored new current.variables found number fitted (shown_in z.program condition.lhs)
    → ConditionEnds (rule_tried k current others tried) new found place since last
condition_read {k = k} runs stored new current others tried place since empty at h condition there number is found fitted last same told =
    subst (ConditionEnds (rule_tried k current others tried) new found place since) same
    (condition_ends (at_place at h) empty condition there number is new found fitted
    (of_open runs (λ p w. FitTold p w stored new current.variables found number fitted (shown_in p condition.lhs)) told))

-- what a call comes to by the patterns of a rule
abbrev pub PatternsEnd : RuleTried → List Stored → Variables → Fitted → Type 0
PatternsEnd t new found Fits = (after : Evaluation) (at : At) → IsBegunAt 0 t.laid at after
    → IsTryingRule t (record { stored = new; variables = found; evaluation = after }) at []
PatternsEnd t new found Leaves = RulesLead t.call t.others t.tried
PatternsEnd t new found (UnfitCall term args) = CallEnds t.call t.tried [] (IllTypedAnswer term args)

module _ (t : RuleTried) (may : may_run t.call.program t.call.term) (args_typed : HasTypedArgs t.call) (place before : ℕ)
    (counts : t.tried ≡ suc before) (leads : RulesLead t.call (place ∷ t.others) before)
    (laid_out : IsLaidRule t.call.program place t.known t.laid)
    (listed : (rule : TypedRule) × IsRuleAt (checked t.call.program) t.call.term place rule) where
  root_is : (rule_of t).root ≡ t.call.term
  root_is =
      let (other, its) = listed in
      let same : other ≡ rule_of t = (let q = its.listed in let o = laid_out.there in cc) in
      subst (λ (x : TypedRule). x.root ≡ t.call.term) same its.of_term

  -- the rule that is tried
  is_tried : IsTried t
  is_tried = record {
    place = place;
    laid_out = laid_out;
    root = root_is;
    sound = (sound_of t.call.program).sound.rules place (rule_of t) laid_out.there (subst (may_run t.call.program) (sym root_is) may);
    args_typed = args_typed;
    before = before;
    counts = counts;
    leads = record {
      comes = λ s run more trace r rest. leads.comes more trace r (rule_of t, laid_out.there, s, run, rest);
      begins = λ s run made begun. leads.begins made (rule_of t, laid_out.there, s, run, begun);
    };
  }

  -- what the rule's patterns come to the call comes to
  pub patterns_come : (old new : List Stored) (unbound found : Variables) (numbers : List ℕ) (fitted : Fitted) (unset : ℕ)
      → ((i : ℕ) → number_of_variable unbound i ≡ unset) → Stands old (no_variables 0) unset → StandEach old t.call.args numbers
      → FitAllTold t.call.program t.call.answers old new unbound found numbers fitted (all_shown_in t.call.program t.known.args)
      → PatternsEnd t new found fitted
  patterns_come old new unbound found numbers fitted unset each stands stand told = go fitted (told t.call.args no_variables
      is_tried.sound.var_types ((checked t.call.program).terms.inputs (rule_of t).root) is_tried.sound.typed.args (root_typed is_tried)
      stand (λ i. subst (Stands old (no_variables i)) (sym (each i)) stands))
    where
      go : (fitted : Fitted) → TellsFit (checked t.call.program) new found (PatternsCome t) fitted
          → PatternsEnd t new found fitted
      go Fits (b, hold, run) = λ after at begun. record {
        is = is_tried;
        at = patterns_fit is_tried (record { stored = new; variables = found; evaluation = after }) b hold run at begun;
      }
      go Leaves run = patterns_leave is_tried run
      go (UnfitCall term args) (q, called, run) = (ill_typed q, (q, refl, called), patterns_end is_tried (ill_typed q) run)
