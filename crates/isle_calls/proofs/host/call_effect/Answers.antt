use Rattle.std.proofs.Common.{◌≡◌, ◌∷◌, [], ◌++◌, List, ℕ, ap, ◌∙◌, refl, subst, string_bytes}
use Rattle.isle_rules.specs.Values.{value_list}
use Rattle.isle_calls.specs.declared.answer.Effect.{Effect}
use Rattle.isle_calls.specs.Calls.Answers.{name_of_term}
use Rattle.isle_calls.proofs.OpenCalls.Telling.{one_made}
use Rattle.isle_calls.proofs.host.call_effect.Goals as goal

pub returns-clause-called : goal.returns-clause-called
returns-clause-called g c =
    let program = c.args.program.now in
    let old = c.args.effects.now.items in
    let step = g.W.World.step in
    let effect : Effect = record { term = c.in_ok-name.name; args = c.in_ok-copies.copies; answer = c.in_ok-answer.answer } in
    let pushed : c.push.new.self.items ≡ old ++ effect ∷ [] =
    c.in_ok-push.ensures.items ∙ ap (λ (l : List Effect). l ++ effect ∷ []) c.in_ok-reserve.ensures.items in
    let named : string_bytes c.in_ok-name.name ≡ name_of_term program c.args.term.0 = c.in_ok-name.ensures.ok ∙ c.name.ensures in
    let copied : c.in_ok-copies.copies.items ≡ c.args.args.now = c.in_ok-copies.ensures.items_if_clones_equal (λ x y e. e) in
    let made : step c.args.world.now (name_of_term program c.args.term.0) (value_list c.args.args.now) c.in_ok-answer.answer
    c.effect.new.self =
    subst (λ (n : List ℕ). step c.args.world.now n (value_list c.args.args.now) c.in_ok-answer.answer c.effect.new.self) c.name-2.ensures
    c.in_ok-answer.ensures.made in (
      c.in_ok-answer.answer,
      (old, effect, pushed, refl),
      one_made step program c.args.world.now c.effect.new.self old c.push.new.self.items effect
          (record { term = c.args.term.0; args = value_list c.args.args.now; answer = c.in_ok-answer.answer })
          (record { term = named; args = ap value_list copied; answer = refl }) made pushed,
    )
