use Rattle.std.proofs.Common.{◌≡◌, ℕ, List, map, subst, sym, ap, ◌∙◌, arith}
use Rattle.std.proofs.lemmas.List.{take_all}
use Rattle.isle_program.specs.Plain.LaidOut.Rules.{AreByPriority}
use Rattle.isle_program.proofs.Plain.LaidOut.Order.{Key, keys_by_priority}
use Rattle.isle_program.proofs.program.by_priority.Goals as goal

pub returns : goal.returns
returns c =
    let of_key : Key → ℕ = λ key. key.1 in
    let items : List Key = c.deref-key-items.result.now in
    let all : c.loop-key.places.items ≡ map of_key c.sort_unstable.new.self.items =
    c.loop-key.invariant ∙ ap (map of_key) (take_all c.loop-key.key-index items (omega arith) ∙ c.deref-key-items.ensures.value) in
    subst (λ (places : List ℕ). AreByPriority c.args.rules.now places) (sym all)
    (keys_by_priority c.args.rules.now c.in_ok-keys.keys.items c.sort_unstable.new.self.items c.in_ok-keys.ensures.fits
    c.in_ok-keys.ensures.keys c.sort_unstable.ensures.permutation c.sort_unstable.ensures.sorted)
