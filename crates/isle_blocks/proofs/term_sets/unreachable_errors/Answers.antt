use Rattle.std.proofs.Common.{◌+◌, ◌++◌, ◌∷◌, List, [], length, take, arith, refl, sym, ap, subst, ◌∙◌}
use Rattle.std.proofs.lemmas.List.{take_all}
use Rattle.std.proofs.lemmas.Option.{slice_get_read}
use Rattle.isle_ast.specs.declared.error.Error.{Error}
use Rattle.isle_rules.specs.TypedRules.{TypedRule}
use Rattle.isle_rules.specs.declared.rules.Rule.{Rule}
use Rattle.isle_blocks.specs.RuleFaults.{TellUnreachable, no_rules_told, unreachable_error}
use Rattle.isle_blocks.proofs.RuleFaults.UnreachableErrors.{next_may, next_never, as_long}
use Rattle.isle_blocks.proofs.term_sets.unreachable_errors.Goals.{then-lost-place+in_ok-unreachable_at+in_ok-push, else-lost-place}
use Rattle.isle_blocks.proofs.term_sets.unreachable_errors.Goals as goal

pub loop-place-init : goal.loop-place-init
loop-place-init c = λ facts typed tells.
    subst (λ (errors : List Error). TellUnreachable facts [] errors) (sym c.new-errors.ensures.items) no_rules_told

pub loop-place-preserved : goal.loop-place-preserved
loop-place-preserved c = λ facts typed tells. elim c.if-lost-place.branch [
  | then-lost-place+in_ok-unreachable_at+in_ok-push w ↦
      subst (λ (errors : List Error). TellUnreachable facts (take (c.loop-place.place + 1) typed) errors)
      (sym (ap (λ v. v.items) w.errors-is ∙ w.in_ok-push.ensures.items ∙ ap (λ e. c.loop-place.errors.items ++ e ∷ []) w.in_ok-unreachable_at.ensures
      ∙ ap (λ (r : Rule). c.loop-place.errors.items ++ unreachable_error r.pos ∷ []) (sym w.index-rules-place.is)))
      (next_never facts typed c.args.rules.now c.args.lost.now tells c.loop-place.place w.index-rules-place.result c.loop-place.errors.items
      (slice_get_read c.args.rules.now (length c.args.rules.now) c.loop-place.place w.index-rules-place.result refl (omega arith)
      w.index-rules-place.is)
      w.if-lost-place.true (c.loop-place.invariant facts typed tells))
  | else-lost-place w ↦
      subst (λ (errors : List Error). TellUnreachable facts (take (c.loop-place.place + 1) typed) errors) (sym (ap (λ v. v.items) w.errors-is))
      (next_may facts typed c.args.rules.now c.args.lost.now tells c.loop-place.place c.loop-place.errors.items (omega arith)
      (λ marked. let f = w.if-lost-place.false in absurd cc) (c.loop-place.invariant facts typed tells))
]

pub returns : goal.returns
returns c = λ facts typed positions marks.
    subst (λ (l : List TypedRule). TellUnreachable facts l c.loop-place.errors.items)
    (take_all c.loop-place.place typed (let same = as_long facts typed c.args.rules.now positions in omega arith))
    (c.loop-place.invariant facts typed (record { positions = positions; marks = marks }))
