-- With which effects a call has begun, as far as it has come.
use Rattle.std.proofs.Common.{◌≡◌, ◌++◌, ◌⊎◌, inl, inr, ℕ, zero, suc, true, false, Bool, List, [], Some, None, Option, refl, sym, ◌∙◌, ap, subst}
use Rattle.std.proofs.lemmas.List.{append-nil}
use Rattle.isle_types.specs.declared.ids.TermId.{TermId}
use Rattle.isle_meaning.specs.Values.{Values}
use Rattle.isle_meaning.specs.Worlds.{Event}
use Rattle.isle_meaning.specs.Outcomes.{missing, given}
use Rattle.isle_meaning.specs.PlainBeginnings.{IsEffectOn, EffectsBegin, PlainBegins}
use Rattle.isle_meaning.proofs.Calls.Beginnings.{right_stops, plain_stops, plain_begins, pure_begins_empty}
use Rattle.isle_calls.specs.declared.store.Stored.{Stored}
use Rattle.isle_calls.specs.declared.plain.evaluation.Evaluation.{Evaluation}
use Rattle.isle_calls.specs.declared.plain.frame.Frame.{Frame}
use Rattle.isle_calls.specs.declared.plain.frame.current.At.{At}
use Rattle.isle_calls.specs.declared.plain.frame.current.At.TheVariants.{IfLet, Right, Left, Missed}
use Rattle.isle_calls.specs.declared.plain.frame.current.Current.{Current}
use Rattle.isle_calls.specs.Calls.Open.{CallOf}
use Rattle.isle_program.specs.Meanings.{checked, may_run}
use Rattle.isle_calls.specs.Inside.Plain.Underway.{Surroundings, WaitsFor}
use Rattle.isle_calls.specs.Inside.Plain.Frames.{CallBegins, begins_below, RuleTried, IsTried, Progress, RightSoFar, IsTryingRule, IsAt}
use Rattle.isle_calls.specs.Inside.Plain.Frames.{Goes, IsFrameOf, Awaited, AwaitedBegins, WaitsAt, IsRuleHeldUp, IsWaitingFor}
use Rattle.isle_calls.proofs.PlainRoad.Frames.Calls.{pure_call, condition_pure, right_begins_here}
use Rattle.isle_program.proofs.SoundPrograms.Known.{sound_of}

-- a call may stop at once
pub stops_at_once : (k : CallOf) (since : List Event) → since ≡ [] → CallBegins k since
stops_at_once k since empty =
    subst (CallBegins k) (sym empty) (plain_stops (checked k.program) k.answers (suc k.depth) k.term k.args)

-- one whose right side has come so far has begun with its effects
pub right_begun : {t : RuleTried} {is : IsTried t} {since : List Event} → RightSoFar t is since → CallBegins t.call since
right_begun {t = t} {is = is} {since = since} right =
    subst (CallBegins t.call) (append-nil since) (is.leads.begins (given right.a) right.chosen (since ++ [])
    (right.begins [] (right_stops (checked t.call.program) t.call.answers _ (begins_below t.call) right.a right.done _)))

-- so has one of which a rule is tried, or was chosen
pub trying_begun : {t : RuleTried} {s : Progress} {at : At} {since : List Event} → IsTryingRule t s at since → CallBegins t.call since
trying_begun {t = t} {s = s} {at = at} {since = since} trying = go at trying.at
  where
    go : (at : At) → IsAt t trying.is s at since → CallBegins t.call since
    go (IfLet place) here = stops_at_once t.call since here.0
    go (Right place) here = right_begun here.right
    go Left here = stops_at_once t.call since here.0
    go Missed run = plain_begins (checked t.call.program) t.call.answers (suc t.call.depth) t.call.term t.call.args t.tried since missing run

-- and that of a frame
pub frame_begun : (k : CallOf) (stored : List Stored) (frame : Frame) (since : List Event) → IsFrameOf k stored frame since
    → CallBegins k since
frame_begun k stored frame since is = go frame.current is.goes
  where
    go : (current : Option Current) → Goes k stored current frame.others.now frame.tried since → CallBegins k since
    go None goes = stops_at_once k since goes.0
    go (Some current) trying = trying_begun trying

-- a pure call that is waited for begins with no effects
begins_nothing : {z : Surroundings} {stored : List Stored} {e : Evaluation} {term : TermId} {numbers : List ℕ} {args : Values}
    (waits : WaitsFor z stored e term numbers args) → waits.place ≡ zero → (made : List Event)
    → PlainBegins (checked z.program) z.answers z.depth term.0 args made → made ≡ []
begins_nothing {z = z} {term = term} {args = args} waits zeroth made begun =
    let (pure, may) = pure_call (checked z.program) (may_run z.program) _ _ _ term.0 waits.words waits.place waits.type zeroth waits.call.1 in
    pure_begins_empty (checked z.program) z.answers (may_run z.program) (sound_of z.program).sound z.depth term.0 args made pure
    (may (waits.ruled zeroth)) begun

-- of a term with rules it begins one depth lower
begins_of : (t : RuleTried) (call : Awaited) (made : List Event) → (checked t.call.program).has_rules call.term.0 ≡ true
    → AwaitedBegins t call made → begins_below t.call call.term.0 call.args made
begins_of t call made ruled begun =
    subst (λ (b : Bool). EffectsBegin (checked t.call.program) (begins_below t.call) b call.term.0 call.args made) ruled begun

module _ {t : RuleTried} {s : Progress} {at : At} {since : List Event} {call : Awaited} (held : IsRuleHeldUp t s at since call) where
  -- a call that waits has begun with its effects
  pub held_begun : CallBegins t.call since
  held_begun = go at held.waits
    where
      go : (at : At) → WaitsAt t held.is s at since call → CallBegins t.call since
      go (IfLet place) (none, w) = stops_at_once t.call since none
      go (Right place) w = right_begun w.at.right
      go Left w = absurd w
      go Missed w = absurd w

  -- and with those with which the call begins that it waits for
  pub held_begins : (made : List Event) → AwaitedBegins t call made → CallBegins t.call (since ++ made)
  held_begins made begun = go at held.waits
    where
      go : (at : At) → WaitsAt t held.is s at since call → CallBegins t.call (since ++ made)
      go (IfLet place) (none, w) =
          let nothing = begins_nothing w.waits (condition_pure w) made (begins_of t call made (w.waits.ruled (condition_pure w)) begun) in
          stops_at_once t.call (since ++ made) (ap (λ (l : List Event). l ++ made) none ∙ nothing)
      go (Right place) w = by_place w.waits.place refl
        where
          by_place : (j : ℕ) → w.waits.place ≡ j → CallBegins t.call (since ++ made)
          by_place zero zeroth =
              let nothing = begins_nothing w.waits zeroth made (begins_of t call made (w.waits.ruled zeroth) begun) in
              subst (λ (l : List Event). CallBegins t.call (since ++ l)) (sym nothing)
              (subst (CallBegins t.call) (sym (append-nil since)) (right_begun w.at.right))
          by_place (suc i) impure = held.is.leads.begins (given w.at.right.a) w.at.right.chosen (since ++ made)
              (right_begins_here w i impure made begun)
      go Left w = absurd w
      go Missed w = absurd w

  -- so has one whose effect was made, if it was
  pub held_effect : (checked t.call.program).has_rules call.term.0 ≡ false → (made : List Event)
      → (made ≡ []) ⊎ IsEffectOn (checked t.call.program) call.term.0 call.args made → CallBegins t.call (since ++ made)
  held_effect outside made (inl none) =
      subst (λ (l : List Event). CallBegins t.call (since ++ l)) (sym none) (subst (CallBegins t.call) (sym (append-nil since)) held_begun)
  held_effect outside made (inr effect) = held_begins made
      (subst (λ (b : Bool). EffectsBegin (checked t.call.program) (begins_below t.call) b call.term.0 call.args made) (sym outside) effect)

-- a frame's call has begun with its effects, and with those with which the call begins that it waits for
pub waiting_begins : (k : CallOf) (stored : List Stored) (frame : Frame) (since made : List Event) (term : TermId) (args : Values)
    → IsWaitingFor k stored frame since term args → begins_below k term.0 args made → CallBegins k (since ++ made)
waiting_begins k stored frame since made term args w begun = held_begins w.held made
    (subst (λ (b : Bool). EffectsBegin (checked k.program) (begins_below k) b term.0 args made) (sym w.ruled) begun)

-- where no more effects were made, a call has begun with those that were
pub begun_still : (k : CallOf) (since : List Event) → CallBegins k since → CallBegins k (since ++ [])
begun_still k since begun = subst (CallBegins k) (sym (append-nil since)) begun
