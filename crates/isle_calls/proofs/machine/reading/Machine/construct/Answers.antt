use Rattle.std.proofs.Common.{◌≡◌, List, [], Option, Some, ℕ, suc, true, false, inl, refl, sym, ◌∙◌, ap, subst}
use Rattle.std.specs.Prelude.{Vec}
use Rattle.std.specs.Global.{Global}
use Rattle.isle_blocks.specs.Rows.{numbers_of}
use Rattle.isle_meaning.specs.Machine.Runs.{Env, values_at}
use Rattle.isle_meaning.specs.Numbered.{constructor_row}
use Rattle.isle_meaning.specs.Worlds.{Event}
use Rattle.isle_program.specs.declared.program.Program.{Program}
use Rattle.isle_calls.specs.declared.store.Stored.{Stored}
use Rattle.isle_calls.specs.Inside.Blocks.Frames.{machined}
use Rattle.isle_calls.specs.Inside.Blocks.Holdings.{TellsNumbers}
use Rattle.isle_calls.specs.Inside.Blocks.Reading.{IsBinding, TellsAnswer, IsMadeOf}
use Rattle.isle_calls.specs.Calls.Answers.{answers_in, HasMade}
use Rattle.isle_calls.specs.Calls.Open.{CallOf}
use Rattle.isle_calls.specs.Calls.States.{host, IsOpenIn}
use Rattle.isle_program.specs.Meanings.{checked}
use Rattle.isle_calls.proofs.TreeRoad.Making.{held_there, if_ok, later_instance, numbers_there, numbers_never, waits_told, pure_told, effect_told}
use Rattle.isle_calls.proofs.TreeRoad.Making.{effect_made_begins, effect_lost, PureTold, EffectTold, EffectLost}
use Rattle.isle_calls.proofs.OpenCalls.Made.{made_none, on_err}
use Rattle.isle_calls.proofs.Stores.Values.{extends_again}
use Rattle.isle_calls.proofs.machine.reading.Machine.construct.Goals as goal

pub returns-in_err-args-clause-lost : goal.returns-in_err-args-clause-lost
returns-in_err-args-clause-lost g c = on_err c.from_residual.result (λ k env o b is. ([], made_none _ _ _ _, inl refl))

pub returns-in_default-clause-made : goal.returns-in_default-clause-made
returns-in_default-clause-made g c = λ k env o b is.
    let middle = c.numbers.new.self.store in let js = numbers_of c.args.parameters.now in
    let told = numbers_there b c.args.self.now.program.now o.of_program middle js c.in_ok-args.field-0 c.in_ok-args.ensures.told in
    absurd (numbers_never b middle c.args.term.0 c.args.instance js is
    (subst (λ (x : Option (Vec ℕ Global)). TellsNumbers middle x (values_at (held_there b) js)) c.in_default.is told))

pub returns-then-has_rules-clause-made : goal.returns-then-has_rules-clause-made
returns-then-has_rules-clause-made g c = λ k env o b is.
    let middle = c.numbers.new.self.store in let js = numbers_of c.args.parameters.now in let u = c.args.term.0 in
    let numbers : TellsNumbers middle (Some c.in-Some.args) (values_at (held_there b) js) =
    subst (λ (x : Option (Vec ℕ Global)). TellsNumbers middle x (values_at (held_there b) js)) c.in-Some.is
    (numbers_there b c.args.self.now.program.now o.of_program middle js c.in_ok-args.field-0 c.in_ok-args.ensures.told) in
    let same : k.program ≡ c.numbers.new.self.program.now = o.of_program ∙ sym c.in_ok-args.ensures.program in
    let ruled : (checked k.program).has_rules u ≡ true =
    subst (λ (p : Program). (checked p).has_rules u ≡ true) (sym same) (sym c.has_rules.ensures ∙ c.if-has_rules.true) in
    ([], made_none _ _ _ _, waits_told b middle c.args.term c.args.instance js c.in-Some.args is numbers ruled)

pub returns-in_err-told-clause-lost : goal.returns-in_err-told-clause-lost
returns-in_err-told-clause-lost g c = on_err c.from_residual-in_err-told.result (λ k env o b is. ([], made_none _ _ _ _, inl refl))

pub returns-in_err-told-clause-goes_on : goal.returns-in_err-told-clause-goes_on
returns-in_err-told-clause-goes_on g c = record {
  program = c.in_ok-args.ensures.program;
  same = (refl, refl);
  made = ([], made_none _ _ _ _);
  kept = extends_again c.in_ok-args.ensures.kept c.ask_constructor.ensures.kept;
}

pub returns-then-instance-eq0-clause-made : goal.returns-then-instance-eq0-clause-made
returns-then-instance-eq0-clause-made g c = if_ok
    (λ made. (stored : List Stored) → IsMadeOf stored ((checked c.numbers.new.self.program.now).terms.partial c.args.term.0) c.in_ok-told.told made)
    (λ made. (k : CallOf) (env : Env)
    → IsOpenIn (host g.W.World.step g.W.World.constructs g.W.World.extracts) k (machined c.args.self.now c.args.world.now c.args.effects.now.items)
    → (b : IsBinding k c.args.self.now.store c.args.frame.now env)
    → b.row ≡ constructor_row c.args.term.0 (numbers_of c.args.parameters.now) c.args.instance → (events : List Event)
    × HasMade g.W.World.step c.args.self.now.program.now c.args.world.now c.args.effects.now.items c.args.world.now c.args.effects.now.items events
    × TellsAnswer k c.ask_constructor.new.store env b.row made events)
    c.told.result c.told.ensures (λ made made_is. λ k env o b is.
    let middle = c.numbers.new.self.store in let js = numbers_of c.args.parameters.now in let u = c.args.term.0 in
    let numbers : TellsNumbers middle (Some c.in-Some.args) (values_at (held_there b) js) =
    subst (λ (x : Option (Vec ℕ Global)). TellsNumbers middle x (values_at (held_there b) js)) c.in-Some.is
    (numbers_there b c.args.self.now.program.now o.of_program middle js c.in_ok-args.field-0 c.in_ok-args.ensures.told) in
    let program = c.numbers.new.self.program.now in
    let same : k.program ≡ program = o.of_program ∙ sym c.in_ok-args.ensures.program in
    let outside : (checked program).has_rules u ≡ false = sym c.has_rules.ensures ∙ c.if-has_rules.false in
    let constructs = g.W.World.constructs c.args.world.now in let extracts = g.W.World.extracts c.args.world.now in
    let world : k.answers ≡ answers_in program constructs extracts = o.in_world
    ∙ ap (λ (p : Program). answers_in p constructs extracts) (sym c.in_ok-args.ensures.program) in
    let new = c.ask_constructor.new.store in
    let row : b.row ≡ constructor_row u js 0 = is ∙ ap (constructor_row u js) c.if-instance-eq0.true in
    let tells : PureTold program (answers_in program constructs extracts) middle new u c.in-Some.args.items c.in_ok-told.told =
    subst (λ (ns : List ℕ). PureTold program (answers_in program constructs extracts) middle new u ns c.in_ok-told.told) c.as_slice.ensures.value
    c.in_ok-told.ensures.asked in (
      [],
      made_none _ _ _ _,
      pure_told b program (answers_in program constructs extracts) same world middle new u js c.in-Some.args c.in_ok-told.told made row
          numbers outside tells (made_is new),
    ))

pub returns-then-instance-eq0-clause-lost : goal.returns-then-instance-eq0-clause-lost
returns-then-instance-eq0-clause-lost g c = on_err c.told.result (λ k env o b is. ([], made_none _ _ _ _, inl refl))

pub returns-then-instance-eq0-clause-goes_on : goal.returns-then-instance-eq0-clause-goes_on
returns-then-instance-eq0-clause-goes_on g c = record {
  program = c.in_ok-args.ensures.program;
  same = (refl, refl);
  made = ([], made_none _ _ _ _);
  kept = extends_again c.in_ok-args.ensures.kept c.ask_constructor.ensures.kept;
}

pub returns-in_err-told-2-clause-lost : goal.returns-in_err-told-2-clause-lost
returns-in_err-told-2-clause-lost g c = on_err c.from_residual-in_err-told-2.result (λ k env o b is.
    let middle = c.numbers.new.self.store in let js = numbers_of c.args.parameters.now in let u = c.args.term.0 in
    let numbers : TellsNumbers middle (Some c.in-Some.args) (values_at (held_there b) js) =
    subst (λ (x : Option (Vec ℕ Global)). TellsNumbers middle x (values_at (held_there b) js)) c.in-Some.is
    (numbers_there b c.args.self.now.program.now o.of_program middle js c.in_ok-args.field-0 c.in_ok-args.ensures.told) in
    let program = c.numbers.new.self.program.now in
    let same : k.program ≡ program = o.of_program ∙ sym c.in_ok-args.ensures.program in
    let outside : (checked program).has_rules u ≡ false = sym c.has_rules.ensures ∙ c.if-has_rules.false in
    let (i, later) = later_instance c.args.instance c.if-instance-eq0.false in
    let row : b.row ≡ constructor_row u js (suc i) = is ∙ ap (constructor_row u js) later in
    let X = λ (events : List Event). HasMade g.W.World.step c.args.self.now.program.now c.args.world.now c.args.effects.now.items
    c.make_effect.new.world c.make_effect.new.effects.items events in
    let before = c.in_ok-args.ensures.program in
    let lost : EffectLost X program middle u c.in-Some.args.items =
    subst (λ (ns : List ℕ). EffectLost X program middle u ns) c.as_slice-else-instance-eq0.ensures.value
    (subst (λ (p : Program). EffectLost (λ (events : List Event). HasMade g.W.World.step p c.args.world.now c.args.effects.now.items
    c.make_effect.new.world c.make_effect.new.effects.items events) program middle u c.as_slice-else-instance-eq0.result.now) before
    c.in_err-told-2.ensures.lost) in
    effect_lost b program same middle u i js c.in-Some.args X row numbers outside lost)

pub returns-clause-made : goal.returns-clause-made
returns-clause-made g c = if_ok
    (λ made. (stored : List Stored) → IsMadeOf stored ((checked c.numbers.new.self.program.now).terms.partial c.args.term.0) c.in_ok-told-2.told made)
    (λ made. (k : CallOf) (env : Env)
    → IsOpenIn (host g.W.World.step g.W.World.constructs g.W.World.extracts) k (machined c.args.self.now c.args.world.now c.args.effects.now.items)
    → (b : IsBinding k c.args.self.now.store c.args.frame.now env)
    → b.row ≡ constructor_row c.args.term.0 (numbers_of c.args.parameters.now) c.args.instance → (events : List Event)
    × HasMade g.W.World.step c.args.self.now.program.now c.args.world.now c.args.effects.now.items c.make_effect.new.world
    c.make_effect.new.effects.items events
    × TellsAnswer k c.make_effect.new.store env b.row made events)
    c.told-else-instance-eq0.result c.told-else-instance-eq0.ensures (λ made made_is. λ k env o b is.
    let middle = c.numbers.new.self.store in let js = numbers_of c.args.parameters.now in let u = c.args.term.0 in
    let numbers : TellsNumbers middle (Some c.in-Some.args) (values_at (held_there b) js) =
    subst (λ (x : Option (Vec ℕ Global)). TellsNumbers middle x (values_at (held_there b) js)) c.in-Some.is
    (numbers_there b c.args.self.now.program.now o.of_program middle js c.in_ok-args.field-0 c.in_ok-args.ensures.told) in
    let program = c.numbers.new.self.program.now in
    let same : k.program ≡ program = o.of_program ∙ sym c.in_ok-args.ensures.program in
    let outside : (checked program).has_rules u ≡ false = sym c.has_rules.ensures ∙ c.if-has_rules.false in
    let (i, later) = later_instance c.args.instance c.if-instance-eq0.false in
    let row : b.row ≡ constructor_row u js (suc i) = is ∙ ap (constructor_row u js) later in
    let X = λ (events : List Event). HasMade g.W.World.step c.args.self.now.program.now c.args.world.now c.args.effects.now.items
    c.make_effect.new.world c.make_effect.new.effects.items events in
    let new = c.make_effect.new.store in
    let tells : EffectTold X program middle new u c.in-Some.args.items c.in_ok-told-2.told =
    subst (λ (ns : List ℕ). EffectTold X program middle new u ns c.in_ok-told-2.told) c.as_slice-else-instance-eq0.ensures.value
    (subst (λ (p : Program). EffectTold (λ (events : List Event). HasMade g.W.World.step p c.args.world.now c.args.effects.now.items
    c.make_effect.new.world c.make_effect.new.effects.items events) program middle new u c.as_slice-else-instance-eq0.result.now c.in_ok-told-2.told)
    c.in_ok-args.ensures.program c.in_ok-told-2.ensures.asked) in
    effect_told b program same middle new u i js c.in-Some.args c.in_ok-told-2.told made X row numbers outside tells (made_is new))

pub returns-clause-lost : goal.returns-clause-lost
returns-clause-lost g c = on_err c.told-else-instance-eq0.result (λ k env o b is.
    let middle = c.numbers.new.self.store in let js = numbers_of c.args.parameters.now in let u = c.args.term.0 in
    let numbers : TellsNumbers middle (Some c.in-Some.args) (values_at (held_there b) js) =
    subst (λ (x : Option (Vec ℕ Global)). TellsNumbers middle x (values_at (held_there b) js)) c.in-Some.is
    (numbers_there b c.args.self.now.program.now o.of_program middle js c.in_ok-args.field-0 c.in_ok-args.ensures.told) in
    let program = c.numbers.new.self.program.now in
    let same : k.program ≡ program = o.of_program ∙ sym c.in_ok-args.ensures.program in
    let outside : (checked program).has_rules u ≡ false = sym c.has_rules.ensures ∙ c.if-has_rules.false in
    let (i, later) = later_instance c.args.instance c.if-instance-eq0.false in
    let row : b.row ≡ constructor_row u js (suc i) = is ∙ ap (constructor_row u js) later in
    let X = λ (events : List Event). HasMade g.W.World.step c.args.self.now.program.now c.args.world.now c.args.effects.now.items
    c.make_effect.new.world c.make_effect.new.effects.items events in
    let new = c.make_effect.new.store in
    let tells : EffectTold X program middle new u c.in-Some.args.items c.in_ok-told-2.told =
    subst (λ (ns : List ℕ). EffectTold X program middle new u ns c.in_ok-told-2.told) c.as_slice-else-instance-eq0.ensures.value
    (subst (λ (p : Program). EffectTold (λ (events : List Event). HasMade g.W.World.step p c.args.world.now c.args.effects.now.items
    c.make_effect.new.world c.make_effect.new.effects.items events) program middle new u c.as_slice-else-instance-eq0.result.now c.in_ok-told-2.told)
    c.in_ok-args.ensures.program c.in_ok-told-2.ensures.asked) in
    effect_made_begins b program same middle new u i js c.in-Some.args c.in_ok-told-2.told X row numbers outside tells)
