use Rattle.std.proofs.Common.{◌≡◌, true, false, sym, ◌∙◌, subst}
use Rattle.isle_calls.specs.Calls.Answers.{answers_in}
use Rattle.isle_program.specs.Meanings.{checked}
use Rattle.isle_calls.specs.declared.host.Told.TheVariants.{Gives, Missing, IllTyped}
use Rattle.isle_calls.proofs.PlainRoad.Evaluations.Kinds.{WorldTells, call_reached, world_comes}
use Rattle.isle_calls.proofs.plain.evaluation.Evaluating.call.Goals as goal

pub returns-then-has_rules-clause-computed : goal.returns-then-has_rules-clause-computed
returns-then-has_rules-clause-computed g c = λ s place ns around there known x u part.
    let ruled : (checked c.args.self.now.program.now).has_rules c.args.term.0 ≡ true = sym c.has_rules.ensures ∙ c.if-has_rules.true in
    call_reached s place c.args.store.now c.args.term ns c.args.args.items around.typed
    (subst (λ z. (checked z).has_rules c.args.term.0 ≡ true) (sym around.of_program) ruled) there known x u part

pub returns-in-Gives-clause-computed : goal.returns-in-Gives-clause-computed
returns-in-Gives-clause-computed g c = λ s place ns around there known x u part.
    let program = c.args.self.now.program.now in let world = c.args.self.now.world.now in
    let answers = answers_in program (g.W.World.constructs world) (g.W.World.extracts world) in
    let old = c.args.store.now in let new = c.ask_constructor.new.store in let numbers = c.args.args.items in
    let outside : (checked program).has_rules c.args.term.0 ≡ false = sym c.has_rules.ensures ∙ c.if-has_rules.false in
    let tells = subst (λ z. WorldTells program answers old new c.args.term z c.in_ok-number.field-0) c.as_slice.ensures.value
    c.in_ok-number.ensures.asked in
    world_comes s place program answers old new c.args.term ns numbers around outside there known (Gives c.in-Gives.number)
    (subst (λ z. WorldTells program answers old new c.args.term numbers z) c.in-Gives.is tells) x u part

pub returns-in-Missing-clause-computed : goal.returns-in-Missing-clause-computed
returns-in-Missing-clause-computed g c = λ s place ns around there known x u part.
    let program = c.args.self.now.program.now in let world = c.args.self.now.world.now in
    let answers = answers_in program (g.W.World.constructs world) (g.W.World.extracts world) in
    let old = c.args.store.now in let new = c.ask_constructor.new.store in let numbers = c.args.args.items in
    let outside : (checked program).has_rules c.args.term.0 ≡ false = sym c.has_rules.ensures ∙ c.if-has_rules.false in
    let tells = subst (λ z. WorldTells program answers old new c.args.term z c.in_ok-number.field-0) c.as_slice.ensures.value
    c.in_ok-number.ensures.asked in
    world_comes s place program answers old new c.args.term ns numbers around outside there known Missing
    (subst (λ z. WorldTells program answers old new c.args.term numbers z) c.in-Missing.is tells) x u part

pub returns-clause-computed : goal.returns-clause-computed
returns-clause-computed g c = λ s place ns around there known x u part.
    let program = c.args.self.now.program.now in let world = c.args.self.now.world.now in
    let answers = answers_in program (g.W.World.constructs world) (g.W.World.extracts world) in
    let old = c.args.store.now in let new = c.ask_constructor.new.store in let numbers = c.args.args.items in
    let outside : (checked program).has_rules c.args.term.0 ≡ false = sym c.has_rules.ensures ∙ c.if-has_rules.false in
    let tells = subst (λ z. WorldTells program answers old new c.args.term z c.in_ok-number.field-0) c.as_slice.ensures.value
    c.in_ok-number.ensures.asked in
    world_comes s place program answers old new c.args.term ns numbers around outside there known
    (IllTyped c.in-IllTyped.term c.in-IllTyped.args)
    (subst (λ z. WorldTells program answers old new c.args.term numbers z) c.in-IllTyped.is tells) x u part
