use Rattle.std.proofs.Common.{◌≡◌, ◌∙◌, ◌++◌, ℕ, List, ap, sym, subst, reverse, append_assoc}
use Rattle.isle_meaning.specs.Outcomes.{given, missing, ended}
use Rattle.isle_meaning.specs.Worlds.{Event}
use Rattle.isle_program.specs.declared.program.Program.{Program}
use Rattle.isle_calls.specs.Calls.Answers.{IsEnd}
use Rattle.isle_calls.specs.Inside.Calls.Stacks.{AreStacked, first_steps}
use Rattle.isle_calls.specs.Calls.Ways.{Comes, AdvancesBy}
use Rattle.isle_calls.proofs.OpenCalls.Stacked.{stacked_program, stacked_ends, last_first, comes_below, ends_told}
use Rattle.isle_calls.proofs.frames.next_frame.Goals as goal

pub returns-in-Ends : goal.returns-in-Ends
returns-in-Ends g c = λ goal k start since of named ready stacked comes.
    let way = g.R.Road.way in
    let stored = g.R.Road.stored c.args.road.now in
    let frames = reverse c.args.waiting.now.items in
    let (e, told, ends) = subst (AdvancesBy way k stored c.args.top since) c.in-Ends.is comes in
    let all = stacked_ends way c.laws.ensures goal stored frames k start stacked (way.steps_of c.args.top) since e ends in
    let steps : c.first_steps.result ≡ first_steps way frames (way.steps_of c.args.top) =
    c.first_steps.ensures ∙ ap (λ l. first_steps way (reverse l) (way.steps_of c.args.top)) c.as_slice.ensures.value in (
      ended e,
      ends_told goal.program goal.term c.in-Ends.answer e
          (subst (λ (q : Program). IsEnd q c.in-Ends.answer e) (stacked_program way goal stored frames k start stacked) told),
      subst (λ (n : ℕ). Comes way goal n (start ++ since) (ended e)) (sym steps) all,
    )

pub returns-in-Some : goal.returns-in-Some
returns-in-Some g c = λ goal k start since of named ready stacked comes.
    let way = g.R.Road.way in
    let stored = g.R.Road.stored c.args.road.now in
    let (v, stands, is) = subst (AdvancesBy way k stored c.args.top since) c.in-Is.is comes in
    let shown = last_first c.pop.new.self.items c.args.waiting.now.items c.in-Some.frame c.in-Some.ensures.items in
    let popped = subst (λ l. AreStacked way goal stored l k start) shown stacked in
    let (j, before, others, term, deeper, same, waits, joined, rest) = popped in
    let below = comes_below way j k term.0 (way.steps_of c.args.top) since (given v) deeper same is in (
      j,
      before,
      others ++ since,
      rest,
      c.answered.ensures j stored others since term k.args v waits below stands,
      ap (λ (l : List Event). l ++ since) joined ∙ append_assoc before others since,
    )

pub returns-in-Some-pop : goal.returns-in-Some-pop
returns-in-Some-pop g c = λ goal k start since of named ready stacked comes.
    let way = g.R.Road.way in
    let stored = g.R.Road.stored c.args.road.now in
    let is = subst (AdvancesBy way k stored c.args.top since) c.in-Missing.is comes in
    let shown = last_first c.pop-in-Missing.new.self.items c.args.waiting.now.items c.in-Some-pop.frame c.in-Some-pop.ensures.items in
    let popped = subst (λ l. AreStacked way goal stored l k start) shown stacked in
    let (j, before, others, term, deeper, same, waits, joined, rest) = popped in
    let below = comes_below way j k term.0 (way.steps_of c.args.top) since missing deeper same is in (
      j,
      before,
      others ++ since,
      rest,
      c.missed.ensures j stored others since term k.args waits below,
      ap (λ (l : List Event). l ++ since) joined ∙ append_assoc before others since,
    )
