-- What a rule, and a frame, come to once a call is answered.
use Rattle.std.proofs.Common.{◌≡◌, ◌++◌, ℕ, zero, suc, true, false, List, [], Option, Some, None, refl, sym, ◌∙◌, subst}
use Rattle.std.proofs.lemmas.List.{append-nil}
use Rattle.isle_meaning.specs.Values.{Value}
use Rattle.isle_meaning.specs.Worlds.{Event}
use Rattle.isle_meaning.specs.Asking.{Ended, ill_typed, asks_value}
use Rattle.isle_calls.specs.declared.plain.evaluation.Evaluation.{Evaluation}
use Rattle.isle_calls.specs.declared.frames.Advanced.TheVariants.{Is, Missing, Ends, Calls}
use Rattle.isle_calls.specs.declared.plain.frame.current.At.{At}
use Rattle.isle_calls.specs.declared.plain.frame.current.At.TheVariants.{IfLet, Right, Left, Missed}
use Rattle.isle_calls.specs.declared.plain.frame.current.Current.{Current}
use Rattle.isle_calls.specs.declared.plain.frame.Ending.{Ending}
use Rattle.isle_calls.specs.declared.plain.frame.Ending.TheVariants.{On, Leaves, Comes}
use Rattle.isle_calls.specs.declared.plain.frame.Frame.{Frame}
use Rattle.isle_calls.specs.declared.host.Told.{Told}
use Rattle.isle_calls.specs.declared.host.Told.TheVariants.{Gives, Missing as NotTold, IllTyped as IllTypedTold}
use Rattle.isle_calls.specs.declared.store.Stored.{Stored}
use Rattle.isle_program.specs.Meanings.{checked}
use Rattle.isle_meaning.specs.Outcomes.{Outcome, given, missing, ended, EffectsIf, WorldEffects}
use Rattle.isle_calls.specs.Stores.Values.{Stands, Extends}
use Rattle.isle_calls.specs.Calls.Host.{TellsValue}
use Rattle.isle_calls.specs.Inside.Plain.Underway.{Stops, IsAnswered}
use Rattle.isle_calls.specs.Calls.Open.{CallOf}
use Rattle.isle_calls.specs.Inside.Plain.Frames.{CallComes, below_call, ImpureComes, RuleTried, Progress, later, IsAt, IsAtRight, IsTryingRule}
use Rattle.isle_calls.specs.Inside.Plain.Frames.{Awaited, AwaitedRuns, AwaitedComes, WaitsAt, IsRuleHeldUp, rule_tried, progress, at_missing}
use Rattle.isle_calls.specs.Inside.Plain.Frames.{RuleEnds, IsEndingOf, IsFrameFor, FrameEnds}
use Rattle.isle_calls.proofs.Stores.Values.{stand_longer}
use Rattle.isle_calls.proofs.PlainRoad.Evaluations.Going.{waits_longer}
use Rattle.isle_calls.proofs.PlainRoad.Evaluations.Parts.{underway_longer}
use Rattle.isle_calls.proofs.PlainRoad.Frames.Rules.{rule_ended}
use Rattle.isle_calls.proofs.PlainRoad.Frames.Evaluated.{condition_later, condition_missing, condition_ended, right_later}
use Rattle.isle_calls.proofs.PlainRoad.Frames.Calls.{below_of, makes_nothing, condition_pure, condition_makes_nothing, condition_answered}
use Rattle.isle_calls.proofs.PlainRoad.Frames.Calls.{condition_unanswered, right_answered_pure, right_unanswered_pure, right_unanswered, right_answered}

module _ {t : RuleTried} {s : Progress} {at : At} {since : List Event} {call : Awaited} (held : IsRuleHeldUp t s at since call) where
  -- it waits for the same in a longer store
  pub held_longer : {new : List Stored} → Extends s.stored new → IsRuleHeldUp t (later s new s.evaluation) at since call
  held_longer {new = new} extends = record {
    is = held.is;
    waits = go at held.waits;
    args_stand = stand_longer extends call.args call.numbers held.args_stand;
    args_typed = held.args_typed;
    may_call = held.may_call;
  }
    where
      go : (at : At) → WaitsAt t held.is s at since call → WaitsAt t held.is (later s new s.evaluation) at since call
      go (IfLet place) (none, w) = (
        none,
        record {
          at = condition_later w.at extends s.evaluation (underway_longer _ extends _ s.evaluation w.at.underway) w.at.asked refl;
          waits = waits_longer extends w.waits;
        },
      )
      go (Right place) w = record {
        at = right_later w.at extends s.evaluation (underway_longer _ extends _ s.evaluation w.at.underway) (λ i h. h) w.at.asked refl;
        waits = waits_longer extends w.waits;
      }
      go Left w = absurd w
      go Missed w = absurd w

  module _ (effects : List Event) where
    -- once the call is answered the rule goes on
    pub held_answered : (after : Evaluation) (number : ℕ) (v : Value) → IsAnswered s.evaluation number after → Stands s.stored v number
        → AwaitedComes t call effects (given v) → IsTryingRule t (later s s.stored after) at (since ++ effects)
    held_answered after number v answered stands made = record { is = held.is; at = go at held.waits }
      where
        go : (at : At) → WaitsAt t held.is s at since call → IsAt t held.is (later s s.stored after) at (since ++ effects)
        go (IfLet place) (none, w) =
            let below = below_of t call effects (given v) (w.waits.ruled (condition_pure w)) made in (
              subst (λ (l : List Event). l ++ effects ≡ []) (sym none) (condition_makes_nothing w effects (given v) below),
              condition_answered w after number v effects answered stands below,
            )
        go (Right place) w = by_place w.waits.place refl
          where
            by_place : (j : ℕ) → w.waits.place ≡ j → IsAtRight t held.is (later s s.stored after) place (since ++ effects)
            by_place zero zeroth =
                let below = below_of t call effects (given v) (w.waits.ruled zeroth) made in
                let nothing = makes_nothing w.waits zeroth effects (given v) below in
                subst (λ (l : List Event). IsAtRight t held.is (later s s.stored after) place (since ++ l)) (sym nothing)
                (subst (λ (l : List Event). IsAtRight t held.is (later s s.stored after) place l) (sym (append-nil since))
                (right_answered_pure w after number v zeroth answered stands
                (subst (λ (l : List Event). AwaitedRuns t call l (given v)) nothing below)))
            by_place (suc i) impure = right_answered w i impure effects after number v answered stands made
        go Left w = absurd w
        go Missed w = absurd w

    right_stops_at : (place : ℕ) (b : Outcome Value) → Stops b → WaitsAt t held.is s (Right place) since call
        → AwaitedComes t call effects b → CallComes t.call t.tried (since ++ effects) b
    right_stops_at place b stops w made = by_place w.waits.place refl
      where
        by_place : (j : ℕ) → w.waits.place ≡ j → CallComes t.call t.tried (since ++ effects) b
        by_place zero zeroth =
            let below = below_of t call effects b (w.waits.ruled zeroth) made in
            let nothing = makes_nothing w.waits zeroth effects b below in
            subst (λ (l : List Event). CallComes t.call t.tried (since ++ l) b) (sym nothing)
            (subst (λ (l : List Event). CallComes t.call t.tried l b) (sym (append-nil since))
            (right_unanswered_pure w b zeroth stops
            (subst (λ (l : List Event). AwaitedRuns t call l b) nothing below)))
        by_place (suc i) impure = right_unanswered w i impure effects b stops made

    -- where the call is answered none, the rule is left, or the whole is answered none
    pub held_unanswered : AwaitedComes t call effects missing → IsTryingRule t s (at_missing at) (since ++ effects)
    held_unanswered made = record { is = held.is; at = go at held.waits }
      where
        go : (at : At) → WaitsAt t held.is s at since call → IsAt t held.is s (at_missing at) (since ++ effects)
        go (IfLet place) (none, w) =
            let below = below_of t call effects missing (w.waits.ruled (condition_pure w)) made in (
              subst (λ (l : List Event). l ++ effects ≡ []) (sym none) (condition_makes_nothing w effects missing below),
              condition_missing w.at.condition (condition_unanswered w missing effects tt below),
            )
        go (Right place) w = right_stops_at place missing tt w made
        go Left w = absurd w
        go Missed w = absurd w

    -- where it ends, so does the rule's call
    pub held_ended : (e : Ended) → AwaitedComes t call effects (ended e)
        → CallComes t.call t.tried (since ++ effects) (ended e)
    held_ended e made = go at held.waits
      where
        go : (at : At) → WaitsAt t held.is s at since call → CallComes t.call t.tried (since ++ effects) (ended e)
        go (IfLet place) (none, w) =
            let below = below_of t call effects (ended e) (w.waits.ruled (condition_pure w)) made in
            let nothing = condition_makes_nothing w effects (ended e) below in
            subst (λ (l : List Event). CallComes t.call t.tried (l ++ effects) (ended e)) (sym none)
            (subst (λ (l : List Event). CallComes t.call t.tried l (ended e)) (sym nothing)
            (rule_ended held.is e (condition_ended w.at.condition e (condition_unanswered w (ended e) effects tt below))))
        go (Right place) w = right_stops_at place (ended e) tt w made
        go Left w = absurd w
        go Missed w = absurd w

    -- where an effect comes to no value, so does the call
    pub held_stopped : (b : Outcome Value) → Stops b → (checked t.call.program).has_rules call.term.0 ≡ false
        → AwaitedComes t call effects b → CallComes t.call t.tried (since ++ effects) b
    held_stopped b stops outside made = go at held.waits
      where
        go : (at : At) → WaitsAt t held.is s at since call → CallComes t.call t.tried (since ++ effects) b
        go (IfLet place) (none, w) = absurd (let q : true ≡ false = sym (w.waits.ruled (condition_pure w)) ∙ outside in cc)
        go (Right place) w = right_stops_at place b stops w made
        go Left w = absurd w
        go Missed w = absurd w

-- a frame's call is the same in a longer store
pub frame_longer : {old new : List Stored} → Extends old new → {k : CallOf} {frame : Frame} → IsFrameFor k old frame → IsFrameFor k new frame
frame_longer extends {k = k} {frame = frame} h = record {
  depth = h.depth;
  term = h.term;
  stand = stand_longer extends k.args frame.args.items h.stand;
  typed = h.typed;
  may = h.may;
  few = h.few;
  listed = h.listed;
}

-- whatever is known of its rule
pub with_rule : {k : CallOf} {stored : List Stored} {frame : Frame} → IsFrameFor k stored frame → (current : Option Current)
    → IsFrameFor k stored (record frame { current = current })
with_rule h current = record {
  depth = h.depth;
  term = h.term;
  stand = h.stand;
  typed = h.typed;
  may = h.may;
  few = h.few;
  listed = h.listed;
}

-- what a rule comes to its frame comes to
pub frame_ends : {old new : List Stored} → Extends old new → (k : CallOf) (frame : Frame) (current : Current) (since : List Event)
    (ending : Ending) → IsFrameFor k old frame → RuleEnds k new current frame.others.now frame.tried since ending
    → FrameEnds k new (record frame { current = Some current }) since ending
frame_ends extends k frame current since On h trying = record { for_call = with_rule (frame_longer extends h) (Some current); goes = trying }
frame_ends extends k frame current since Leaves h leads = record { for_call = with_rule (frame_longer extends h) None; goes = leads }
frame_ends extends k frame current since (Comes (Is n)) h comes = comes
frame_ends extends k frame current since (Comes Missing) h comes = comes
frame_ends extends k frame current since (Comes (Ends answer)) h comes = comes
frame_ends extends k frame current since (Comes (Calls term numbers)) h (args, held, ruled) = (
  args,
  held.args_stand,
  record {
    for_call = with_rule (frame_longer extends h) (Some current);
    current = current;
    there = refl;
    numbers = numbers.items;
    held = held;
    ruled = ruled;
    may_call = held.may_call ruled;
  },
)

-- what an effect comes to the rule comes to
pub effect_ends : {k : CallOf} {old new : List Stored} → Extends old new → (current : Current) (before : Evaluation) {others : List ℕ}
    {tried : ℕ} {since : List Event} {call : Awaited}
    → IsRuleHeldUp (rule_tried k current others tried) (progress old (record current { evaluation = before })) current.at since call
    → (effects : List Event) (after : Evaluation) (told : Told ℕ) (ending : Ending) → (checked k.program).has_rules call.term.0 ≡ false
    → TellsValue (checked k.program) new (asks_value call.term.0 call.args)
    (WorldEffects (checked k.program) call.term.0 call.args effects) told
    → IsEndingOf told before after ending → RuleEnds k new (record current { evaluation = after }) others tried (since ++ effects) ending
effect_ends {k = k} {new = new} extends current before {others = others} {tried = tried} {since = since} {call = call} held effects after
    told ending outside tells its = go told ending tells its
  where
    effect : (r : Outcome Value) → WorldEffects (checked k.program) call.term.0 call.args effects r
        → ImpureComes k call.term.0 call.args effects r
    effect r made = subst (λ b. EffectsIf (checked k.program) (below_call k) b call.term.0 call.args effects r) (sym outside) made

    go : (told : Told ℕ) (ending : Ending) → TellsValue (checked k.program) new (asks_value call.term.0 call.args)
        (WorldEffects (checked k.program) call.term.0 call.args effects) told
        → IsEndingOf told before after ending → RuleEnds k new (record current { evaluation = after }) others tried (since ++ effects) ending
    go (Gives number) ending (v, stands, made) (on, answered) =
        subst (RuleEnds k new (record current { evaluation = after }) others tried (since ++ effects)) (sym on)
        (held_answered (held_longer held extends) effects after number v answered stands (effect (given v) made))
    go NotTold ending made on =
        subst (RuleEnds k new (record current { evaluation = after }) others tried (since ++ effects)) (sym on)
        (held_stopped held effects missing tt outside (effect missing made))
    go (IllTypedTold of found) ending (called, made) on =
        let e = ill_typed (asks_value call.term.0 call.args) in
        subst (RuleEnds k new (record current { evaluation = after }) others tried (since ++ effects)) (sym on)
        (e, (asks_value call.term.0 call.args, refl, called), held_stopped held effects (ended e) tt outside (effect (ended e) made))
