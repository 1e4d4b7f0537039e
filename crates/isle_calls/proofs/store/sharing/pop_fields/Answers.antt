use Rattle.std.proofs.Common.{◌≡◌, ◌++◌, ◌∷◌, [], reverse, drop, sym, ap, ◌∙◌}
use Rattle.isle_values.proofs.GroundValues.LaidValues.{reverse_pushed}
use Rattle.isle_calls.proofs.Stores.Sharing.{next_taken}
use Rattle.isle_calls.proofs.store.sharing.pop_fields.Goals as goal

pub loop-i-preserved : goal.loop-i-preserved
loop-i-preserved c =
    let left = reverse c.args.done.now.items in
    let here : drop c.loop-i._i left ≡ c.in-Some.number ∷ reverse c.pop.new.self.items =
    sym c.loop-i.invariant.1 ∙ ap reverse c.in-Some.ensures.items ∙ reverse_pushed c.pop.new.self.items c.in-Some.number in
    let next = next_taken left c.loop-i._i c.in-Some.number (reverse c.pop.new.self.items) here in
    (c.in_ok-push.ensures.items ∙ ap (λ l. l ++ c.in-Some.number ∷ []) c.loop-i.invariant.0 ∙ sym next.0, sym next.1)
