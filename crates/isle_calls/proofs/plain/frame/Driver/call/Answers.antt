use Rattle.isle_calls.proofs.PlainRoad.Frames.Starts.{held_effect}
use Rattle.std.proofs.Common.{◌≡◌, [], ◌∷◌, true, false, List, ℕ, refl, sym, ◌∙◌, subst}
use Rattle.isle_meaning.specs.Worlds.{Event}
use Rattle.isle_calls.specs.declared.frames.Advanced.TheVariants.{Calls}
use Rattle.isle_calls.specs.declared.plain.frame.Ending.TheVariants.{Comes}
use Rattle.isle_program.specs.declared.program.Program.{Program}
use Rattle.isle_program.specs.Meanings.{checked}
use Rattle.isle_calls.specs.Calls.Answers.{HasMade}
use Rattle.isle_calls.proofs.OpenCalls.Made.{made_none, gone_none, on_err}
use Rattle.isle_calls.proofs.PlainRoad.Frames.Ends.{effect_ends}
use Rattle.isle_calls.proofs.PlainRoad.Frames.Told.{EffectTold, of_open, EffectLost}
use Rattle.isle_calls.proofs.PlainRoad.Frames.Turns.{ends_none}
use Rattle.isle_calls.proofs.plain.frame.Driver.call.Goals as goal

pub returns-then-has_rules-clause-ending : goal.returns-then-has_rules-clause-ending
returns-then-has_rules-clause-ending g c = λ k current others tried since vs runs held.
    let ruled : (checked k.program).has_rules c.args.term.0 ≡ true =
    subst (λ (p : Program). (checked p).has_rules c.args.term.0 ≡ true) (sym runs.of_program) (sym c.has_rules.ensures ∙ c.if-has_rules.true) in (
      [],
      made_none _ _ _ _,
      ends_none k c.args.self.now.store (record current { evaluation = c.args.evaluation.now }) others tried since
          (Comes (Calls c.args.term c.args.args)) (vs, held, ruled),
    )

pub returns-then-has_rules-clause-goes_on : goal.returns-then-has_rules-clause-goes_on
returns-then-has_rules-clause-goes_on g c = gone_none _ _

pub returns-clause-ending : goal.returns-clause-ending
returns-clause-ending g c = λ k current others tried since vs runs held.
    let outside : (checked k.program).has_rules c.args.term.0 ≡ false =
    subst (λ (p : Program). (checked p).has_rules c.args.term.0 ≡ false) (sym runs.of_program) (sym c.has_rules.ensures ∙ c.if-has_rules.false) in
    let X = λ (events : List Event). HasMade g.W.World.step c.args.self.now.program.now c.args.world.now c.args.effects.now.items
    c.make_effect.new.world c.make_effect.new.effects.items events in
    let told = of_open runs (λ program w. EffectTold X c.args.self.now.store c.make_effect.new.store c.args.term c.args.args.items
    c.in_ok-told.told program) (subst (λ (ns : List ℕ). EffectTold X c.args.self.now.store c.make_effect.new.store c.args.term ns
    c.in_ok-told.told c.args.self.now.program.now) c.as_slice.ensures.value c.in_ok-told.ensures.asked) in
    let (event, made, tells) = told vs held.args_stand held.args_typed in (
      event ∷ [],
      made,
      effect_ends c.in_ok-told.ensures.kept current c.args.evaluation.now held (event ∷ []) c.effect_made.new.evaluation c.in_ok-told.told
          c.effect_made.result outside tells c.effect_made.ensures,
    )

pub returns-clause-goes_on : goal.returns-clause-goes_on
returns-clause-goes_on g c = record {
  program = refl;
  same = c.make_effect.ensures.same;
  made = c.make_effect.ensures.made;
  kept = c.make_effect.ensures.kept;
}

pub returns-in_err-told-clause-lost : goal.returns-in_err-told-clause-lost
returns-in_err-told-clause-lost g c = on_err c.from_residual.result (λ k current others tried since vs runs held.
    let outside : (checked k.program).has_rules c.args.term.0 ≡ false =
    subst (λ (p : Program). (checked p).has_rules c.args.term.0 ≡ false) (sym runs.of_program) (sym c.has_rules.ensures ∙ c.if-has_rules.false) in
    let X = λ (events : List Event). HasMade g.W.World.step c.args.self.now.program.now c.args.world.now c.args.effects.now.items
    c.make_effect.new.world c.make_effect.new.effects.items events in
    let lost = of_open runs (λ program w. EffectLost X c.args.self.now.store c.args.term c.args.args.items program)
    (subst (λ (ns : List ℕ). EffectLost X c.args.self.now.store c.args.term ns c.args.self.now.program.now) c.as_slice.ensures.value
    c.in_err-told.ensures.lost) in
    let (events, made, effect) = lost vs held.args_stand held.args_typed in (events, made, held_effect held outside events effect))
