-- Frames that wait, one for the other: what the innermost call comes to, and how the first call ends with it.
use Rattle.isle_calls.specs.declared.frames.Advanced.TheVariants.{Is, Missing, Ends, Calls}
use Rattle.isle_calls.specs.declared.frames.Advanced.{Advanced}
use Rattle.std.proofs.Common.{◌≡◌, ◌≤◌, refl, sym, ◌∙◌, ap, subst, ℕ, suc, List, [], ◌∷◌, ◌++◌, length, get_or, reverse, append_assoc, arith}
use Rattle.std.proofs.lemmas.List.{reverse-append, append-nil}
use Rattle.isle_meaning.specs.Asking.{Ended}
use Rattle.isle_meaning.specs.Outcomes.{Outcome, ended, given, missing}
use Rattle.isle_meaning.specs.Values.{Value, Values}
use Rattle.isle_meaning.specs.Worlds.{Event}
use Rattle.isle_calls.specs.declared.answer.Answer.{Answer}
use Rattle.isle_calls.specs.declared.answer.Answer.TheVariants.{Value as ValueAnswer, None as NoneAnswer, Stuck, Spent, IllTyped}
use Rattle.isle_calls.specs.declared.store.Stored.{Stored}
use Rattle.isle_program.specs.declared.program.Program.{Program}
use Rattle.isle_calls.specs.Calls.Answers.{IsEnd, TellsOutcome}
use Rattle.isle_calls.specs.Calls.Open.{CallOf, call_below}
use Rattle.isle_calls.specs.Inside.Calls.Stacks.{AreStacked, first_steps}
use Rattle.isle_calls.specs.Calls.States.{Host, State, IsOpenIn}
use Rattle.isle_calls.specs.Calls.Ways.{Way, Comes, Below, IsWay, Begins, BeginsBelow, AdvancesBy}
use Rattle.isle_calls.specs.Stores.Values.{Extends}

-- what ends a call its answer tells
pub ends_told : (program : Program) (t : ℕ) (answer : Answer) (e : Ended) → IsEnd program answer e → TellsOutcome program t answer (ended e)
ends_told program t (ValueAnswer v) e told = absurd told
ends_told program t NoneAnswer e told = absurd told
ends_told program t (Stuck term args) e told = (e, refl, told)
ends_told program t Spent e told = (e, refl, told)
ends_told program t (IllTyped term args) e told = (e, refl, told)

-- the frame that was put last is the first of those that wait, innermost first
pub last_first : {F : Type 0} (frames all : List F) (frame : F) → all ≡ frames ++ frame ∷ [] → reverse all ≡ frame ∷ reverse frames
last_first frames all frame is = ap reverse is ∙ reverse-append frames (frame ∷ [])

module _ {F : Type 0} (way : Way F) where
  -- the first call's frame stands last
  first_of_all : (frames : List F) (frame : F) (steps : ℕ) → first_steps way (frames ++ frame ∷ []) steps ≡ way.steps_of frame
  first_of_all [] frame steps = refl
  first_of_all (f ∷ frames) frame steps = first_of_all frames frame (way.steps_of f)

  -- the same, by the place of the first
  pub first_at : (all : List F) (frame : F) (steps : ℕ) → 1 ≤ length all → frame ≡ get_or all 0 frame
      → first_steps way (reverse all) steps ≡ way.steps_of frame
  first_at [] frame steps some is = absurd (omega (arith, some))
  first_at (f ∷ frames) frame steps some is =
      ap (λ (l : List F). first_steps way l steps) (reverse-append (f ∷ []) frames) ∙ first_of_all (reverse frames) f steps ∙ ap way.steps_of (sym is)

  -- all calls are of one program
  pub stacked_program : (goal : CallOf) (stored : List Stored) (frames : List F) (k : CallOf) (start : List Event)
      → AreStacked way goal stored frames k start → k.program ≡ goal.program
  stacked_program goal stored [] k start stacked = ap (λ (c : CallOf). c.program) stacked.0
  stacked_program goal stored (frame ∷ frames) k start (j, before, since, term, deeper, is, waits, joined, stacked) =
      ap (λ (c : CallOf). c.program) is ∙ stacked_program goal stored frames j before stacked

  -- and in one world
  stacked_answers : (goal : CallOf) (stored : List Stored) (frames : List F) (k : CallOf) (start : List Event)
      → AreStacked way goal stored frames k start → k.answers ≡ goal.answers
  stacked_answers goal stored [] k start stacked = ap (λ (c : CallOf). c.answers) stacked.0
  stacked_answers goal stored (frame ∷ frames) k start (j, before, since, term, deeper, is, waits, joined, stacked) =
      ap (λ (c : CallOf). c.answers) is ∙ stacked_answers goal stored frames j before stacked

  pub stacked_open : {W : Type 0} (host : Host W) (s : State W) (goal : CallOf) (stored : List Stored) (frames : List F) (k : CallOf)
      (start : List Event) → AreStacked way goal stored frames k start → IsOpenIn host goal s → IsOpenIn host k s
  stacked_open host s goal stored frames k start stacked is = record {
    of_program = stacked_program goal stored frames k start stacked ∙ is.of_program;
    in_world = stacked_answers goal stored frames k start stacked ∙ is.in_world;
  }

  -- a call below another comes to what that one's call comes to
  pub comes_below : (j k : CallOf) (term steps : ℕ) (trace : List Event) (r : Outcome Value) → j.depth ≡ suc k.depth
      → k ≡ call_below j k.depth term k.args → Comes way k steps trace r → Below way j term k.args trace r
  comes_below j k term steps trace r deeper is comes =
      subst (λ d. (steps : ℕ) × CallAt j d term k.args steps trace r) (sym deeper)
      (steps, subst (λ (c : CallOf). Comes way c steps trace r) is comes)
    where
      CallAt : CallOf → ℕ → ℕ → Values → ℕ → List Event → Outcome Value → Type 0
      CallAt k n t args steps trace r = way.run k.program k.answers n t args steps trace r

  -- a call below another begins with the effects with which that one's call begins
  begins_below : (j k : CallOf) (term : ℕ) (made : List Event) → j.depth ≡ suc k.depth → k ≡ call_below j k.depth term k.args
      → Begins way k made → BeginsBelow way j term k.args made
  begins_below j k term made deeper is begun =
      subst (λ d. way.begins j.program j.answers d term k.args made) (sym deeper) (subst (λ (c : CallOf). Begins way c made) is begun)

  module _ (is_way : IsWay way) (goal : CallOf) where
    -- a call begins with the effects of its run
    comes_begun : (k : CallOf) (steps : ℕ) (trace : List Event) (r : Outcome Value) → Comes way k steps trace r → Begins way k trace
    comes_begun k steps trace r comes = is_way.begins_so k.program k.answers (suc k.depth) k.term k.args steps trace r comes

    -- they wait where more values are stored
    pub stacked_longer : {old new : List Stored} → Extends old new → (frames : List F) (k : CallOf) (start : List Event)
        → AreStacked way goal old frames k start → AreStacked way goal new frames k start
    stacked_longer extends [] k start stacked = stacked
    stacked_longer {old} {new} extends (frame ∷ frames) k start (j, before, since, term, deeper, is, waits, joined, stacked) = (
      j,
      before,
      since,
      term,
      deeper,
      is,
      is_way.longer j old new frame since term k.args extends waits,
      joined,
      stacked_longer extends frames j before stacked,
    )

    -- the innermost call ends so, and with it the first
    pub stacked_ends : (stored : List Stored) (frames : List F) (k : CallOf) (start : List Event) → AreStacked way goal stored frames k start
        → (steps : ℕ) (trace : List Event) (e : Ended) → Comes way k steps trace (ended e)
        → Comes way goal (first_steps way frames steps) (start ++ trace) (ended e)
    stacked_ends stored [] k start stacked steps trace e comes =
        subst (λ (l : List Event). Comes way goal steps (l ++ trace) (ended e)) (sym stacked.1)
        (subst (λ (c : CallOf). Comes way c steps trace (ended e)) stacked.0 comes)
    stacked_ends stored (frame ∷ frames) k start (j, before, since, term, deeper, is, waits, joined, stacked) steps trace e comes =
        let below = comes_below j k term.0 steps trace (ended e) deeper is comes in
        let up = is_way.ends j stored frame since trace term k.args e waits below in
        let all = stacked_ends stored frames j before stacked (way.steps_of frame) (since ++ trace) e up in
        subst (λ (l : List Event). Comes way goal (first_steps way frames (way.steps_of frame)) l (ended e))
        (sym (ap (λ (l : List Event). l ++ trace) joined ∙ append_assoc before since trace)) all

    -- the innermost call begins with these effects, and with it the first
    pub stacked_begins : (stored : List Stored) (frames : List F) (k : CallOf) (start : List Event) → AreStacked way goal stored frames k start
        → (made : List Event) → Begins way k made → Begins way goal (start ++ made)
    stacked_begins stored [] k start stacked made begun =
        subst (λ (l : List Event). Begins way goal (l ++ made)) (sym stacked.1)
        (subst (λ (c : CallOf). Begins way c made) stacked.0 begun)
    stacked_begins stored (frame ∷ frames) k start (j, before, since, term, deeper, is, waits, joined, stacked) made begun =
        let below = begins_below j k term.0 made deeper is begun in
        let up = is_way.begun_below j stored frame since made term k.args waits below in
        let all = stacked_begins stored frames j before stacked (since ++ made) up in
        subst (λ (l : List Event). Begins way goal l) (sym (ap (λ (l : List Event). l ++ made) joined ∙ append_assoc before since made)) all

    -- a frame that has come to something has begun with its effects
    pub advances_begun : (k : CallOf) (stored : List Stored) (frame : F) (since : List Event) (advanced : Advanced)
        → AdvancesBy way k stored frame since advanced → Begins way k since
    advances_begun k stored frame since (Is n) (v, stands, comes) = comes_begun k (way.steps_of frame) since (given v) comes
    advances_begun k stored frame since Missing comes = comes_begun k (way.steps_of frame) since missing comes
    advances_begun k stored frame since (Ends answer) (e, end, comes) = comes_begun k (way.steps_of frame) since (ended e) comes
    advances_begun k stored frame since (Calls term numbers) (vs, stand, waits) =
        subst (Begins way k) (append-nil since)
        (is_way.begun_below k stored frame since [] term vs waits (is_way.stops k.program k.answers k.depth term.0 vs))
