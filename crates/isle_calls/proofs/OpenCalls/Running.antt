-- A frame that goes on, and a call that runs: what its frames and its effects are from turn to turn.
use Rattle.std.proofs.Common.{◌≡◌, ◌++◌, List, [], sym, subst, reverse, append_assoc}
use Rattle.std.proofs.lemmas.List.{append-nil}
use Rattle.isle_meaning.specs.Values.{Values}
use Rattle.isle_meaning.specs.Worlds.{Event}
use Rattle.isle_calls.specs.declared.frames.Advanced.{Advanced}
use Rattle.isle_calls.specs.declared.frames.Next.{Next}
use Rattle.isle_calls.specs.declared.frames.Next.TheVariants.{Runs}
use Rattle.isle_calls.specs.Calls.Open.{CallOf}
use Rattle.isle_calls.specs.Inside.Calls.Stacks.{AreStacked, GoesOn}
use Rattle.isle_calls.specs.Calls.States.{Host, State, Makes, IsOpenIn, HasGoneOn}
use Rattle.isle_calls.specs.Calls.Ways.{Way, IsWay, AdvancesBy, Begins, HasBegun}
use Rattle.isle_calls.proofs.OpenCalls.Made.{makes_none, makes_again, gone_none, gone_again, open_later}
use Rattle.isle_calls.proofs.OpenCalls.Stacked.{stacked_longer, stacked_open, stacked_begins}

-- a frame that has gone on so far, and just its effects were made
pub record IsGoing {W F : Type 0} (host : Host W) (way : Way F) (s : State W) (first : F) (t : State W) (now : F) : Type 0 where
  pub gone : HasGoneOn host s t
  pub goes : (k : CallOf) (since : List Event) → IsOpenIn host k s → way.is_frame k s.stored first since
      → (made : List Event) × Makes host s t made × way.is_frame k t.stored now (since ++ made)

-- a call that has run so far: its frames wait one for the other, and just its effects were made
pub record IsRunning {W F : Type 0} (host : Host W) (way : Way F) (s : State W) (goal : Values → CallOf) (ready : Values → Type 0) (t : State W)
    (waiting : List F) (top : F) : Type 0 where
  pub gone : HasGoneOn host s t
  pub runs : (vs : Values) → ready vs → (k : CallOf) × (start : List Event) × (since : List Event) × Makes host s t (start ++ since)
      × AreStacked way (goal vs) t.stored (reverse waiting) k start × way.is_frame k t.stored top since

module _ {W F : Type 0} (host : Host W) (way : Way F) (s : State W) where
  -- a frame that hasn't gone on
  pub going_first : (first : F) → IsGoing host way s first s first
  going_first first = record {
    gone = gone_none host s;
    goes = λ k since open_in is. ([], makes_none host s, subst (way.is_frame k s.stored first) (sym (append-nil since)) is);
  }

  module _ (first : F) (t : State W) (now : F) (far : IsGoing host way s first t now) (u : State W) (P : CallOf → List Event → Type 0)
      (turn : (k : CallOf) (since : List Event) → IsOpenIn host k t → way.is_frame k t.stored now since
      → (made : List Event) × Makes host t u made × P k (since ++ made)) where
    -- what one more turn tells
    pub going_turn : (k : CallOf) (since : List Event) → IsOpenIn host k s → way.is_frame k s.stored first since
        → (made : List Event) × Makes host s u made × P k (since ++ made)
    going_turn k since open_in is =
        let (made, has, frame) = far.goes k since open_in is in
        let (more, makes, tells) = turn k (since ++ made) (open_later host far.gone k open_in) frame in
        (made ++ more, makes_again host s t u far.gone.program made more has makes, subst (P k) (append_assoc since made more) tells)

  -- the first call has begun with the effects with which the innermost has
  pub running_begun : (is_way : IsWay way) (goal : Values → CallOf) (ready : Values → Type 0) (t : State W) (waiting : List F) (top : F)
      → IsRunning host way s goal ready t waiting top → ((vs : Values) → IsOpenIn host (goal vs) s) → (u : State W)
      → ((k : CallOf) (since : List Event) → IsOpenIn host k t → way.is_frame k t.stored top since → HasBegun host way t u k since)
      → (vs : Values) → ready vs → HasBegun host way s u (goal vs) []
  running_begun is_way goal ready t waiting top far in_first u turn vs may =
      let (k, start, since, has, stacked, frame) = far.runs vs may in
      let in_now = open_later host far.gone k (stacked_open way host s (goal vs) t.stored (reverse waiting) k start stacked (in_first vs)) in
      let (more, makes, begun) = turn k since in_now frame in (
        (start ++ since) ++ more,
        makes_again host s t u far.gone.program (start ++ since) more has makes,
        subst (Begins way (goal vs)) (sym (append_assoc start since more))
            (stacked_begins way is_way (goal vs) t.stored (reverse waiting) k start stacked (since ++ more) begun),
      )

  module _ (goal : Values → CallOf) (ready : Values → Type 0) (t : State W) (waiting : List F) (top : F)
      (far : IsRunning host way s goal ready t waiting top) (in_first : (vs : Values) → IsOpenIn host (goal vs) s) (u : State W) (next_top : F)
      (advanced : Advanced) (gone : HasGoneOn host t u)
      (turn : (k : CallOf) (since : List Event) → IsOpenIn host k t → way.is_frame k t.stored top since
      → (made : List Event) × Makes host t u made × AdvancesBy way k u.stored next_top (since ++ made) advanced)
      (waiting_next : List F) (next : Next F)
      (is_way : IsWay way)
      (goes : (vs : Values) (k : CallOf) (start since : List Event) → ready vs → AreStacked way (goal vs) u.stored (reverse waiting) k start
      → AdvancesBy way k u.stored next_top since advanced → GoesOn way (goal vs) u.stored (reverse waiting_next) (start ++ since) next) where
    -- what follows from one turn
    pub running_turn : (vs : Values) → ready vs → (made : List Event) × Makes host s u made
        × GoesOn way (goal vs) u.stored (reverse waiting_next) made next
    running_turn vs may =
        let (k, start, since, has, stacked, frame) = far.runs vs may in
        let in_now = open_later host far.gone k (stacked_open way host s (goal vs) t.stored (reverse waiting) k start stacked (in_first vs)) in
        let (more, makes, advances) = turn k since in_now frame in
        let after = goes vs k start (since ++ more) may (stacked_longer way is_way (goal vs) gone.kept (reverse waiting) k start stacked)
        advances in (
          (start ++ since) ++ more,
          makes_again host s t u far.gone.program (start ++ since) more has makes,
          subst (λ (l : List Event). GoesOn way (goal vs) u.stored (reverse waiting_next) l next) (sym (append_assoc start since more)) after,
        )

    -- a frame runs on
    pub running_next : (frame : F) → next ≡ Runs frame → IsRunning host way s goal ready u waiting_next frame
    running_next frame is = record {
      gone = gone_again host far.gone gone;
      runs = λ vs may.
          let (all, has, then_goes) = running_turn vs may in
          let (k, start, since, stacked, of, joined) = subst (GoesOn way (goal vs) u.stored (reverse waiting_next) all) is then_goes in
          (k, start, since, subst (Makes host s u) joined has, stacked, of);
    }
