-- A frame that waits: in a longer store, and where the call that it waits for is answered, or ends unanswered.
use Rattle.std.proofs.Common.{◌≡◌, ◌++◌, ℕ, List, Some, sym, subst}
use Rattle.isle_types.specs.declared.ids.TermId.{TermId}
use Rattle.isle_meaning.specs.Values.{Value, Values}
use Rattle.isle_meaning.specs.Worlds.{Event}
use Rattle.isle_meaning.specs.Asking.{Ended}
use Rattle.isle_calls.specs.declared.plain.evaluation.Evaluation.{Evaluation}
use Rattle.isle_calls.specs.declared.plain.frame.Frame.{Frame}
use Rattle.isle_calls.specs.declared.plain.frame.current.Current.{Current}
use Rattle.isle_calls.specs.declared.store.Stored.{Stored}
use Rattle.isle_program.specs.Meanings.{checked}
use Rattle.isle_meaning.specs.Outcomes.{Outcome, given, missing, ended, EffectsIf}
use Rattle.isle_calls.specs.Stores.Values.{Stands, Extends}
use Rattle.isle_calls.specs.Inside.Plain.Underway.{IsAnswered}
use Rattle.isle_calls.specs.Calls.Open.{CallOf}
use Rattle.isle_calls.specs.Inside.Plain.Frames.{CallComes, below_call, ImpureComes, IsTryingRule, rule_tried, progress, awaited, IsHeldUp}
use Rattle.isle_calls.specs.Inside.Plain.Frames.{IsWaitingFor, at_missing}
use Rattle.isle_calls.proofs.PlainRoad.Frames.Ends.{held_longer, held_answered, held_unanswered, held_ended, frame_longer}

module _ (k : CallOf) (stored : List Stored) (frame : Frame) (since : List Event) (term : TermId) (args : Values)
    (w : IsWaitingFor k stored frame since term args) where
  -- a frame waits for the same in a longer store
  pub waiting_longer : {new : List Stored} → Extends stored new → IsWaitingFor k new frame since term args
  waiting_longer extends = record {
    for_call = frame_longer extends w.for_call;
    current = w.current;
    there = w.there;
    numbers = w.numbers;
    held = held_longer w.held extends;
    ruled = w.ruled;
    may_call = w.may_call;
  }

  inner : (effects : List Event) (r : Outcome Value) → below_call k term.0 args effects r → ImpureComes k term.0 args effects r
  inner effects r run = subst (λ b. EffectsIf (checked k.program) (below_call k) b term.0 args effects r) (sym w.ruled) run

  -- the call that it waits for ends unanswered, and with it its own
  pub waiting_ends : (effects : List Event) (e : Ended) → below_call k term.0 args effects (ended e)
      → CallComes k frame.tried (since ++ effects) (ended e)
  waiting_ends effects e run = held_ended w.held effects e (inner effects (ended e) run)

  module _ (effects : List Event) (current : Current) (there : frame.current ≡ Some current) where
    held_here : IsHeldUp k stored current frame.others.now frame.tried since (awaited term w.numbers args)
    held_here =
        let same : w.current ≡ current = (let q = w.there in cc) in
        subst (λ (c : Current). IsHeldUp k stored c frame.others.now frame.tried since (awaited term w.numbers args)) same w.held

    -- once the call is answered the frame's rule goes on
    pub frame_answered : (after : Evaluation) (number : ℕ) (v : Value) → IsAnswered current.evaluation number after → Stands stored v number
        → below_call k term.0 args effects (given v) → IsTryingRule (rule_tried k current frame.others.now frame.tried)
        (progress stored (record current { evaluation = after })) current.at (since ++ effects)
    frame_answered after number v answered stands run =
        held_answered held_here effects after number v answered stands (inner effects (given v) run)

    -- where it is answered none the frame leaves its rule, or is answered none
    pub frame_unanswered : below_call k term.0 args effects missing → IsTryingRule (rule_tried k current frame.others.now frame.tried)
        (progress stored current) (at_missing current.at) (since ++ effects)
    frame_unanswered run = held_unanswered held_here effects (inner effects missing run)
