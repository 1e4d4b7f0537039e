use Rattle.std.proofs.Common.{◌≡◌, ◌<◌, ◌-◌, ◌+◌, ◌++◌, ℕ, List, [], ◌∷◌, length, take, reverse, get_or, sym, ◌∙◌, ap, append_assoc, subst}
use Rattle.std.proofs.lemmas.List.{take_more, get_or-reverse, length-reverse}
use Rattle.isle_values.proofs.values.settling.expect_types.Goals as goal

-- one more item from the end
from_end : {X : Type 0} (old new now types : List X) (i : ℕ) (d : X) → i < length types → now ≡ old ++ take i (reverse types)
    → new ≡ now ++ get_or types (length types - 1 - i) d ∷ [] → new ≡ old ++ take (i + 1) (reverse types)
from_end old new now types i d low so_far pushed =
    let x = get_or types (length types - 1 - i) d in
    let more = take_more (reverse types) i d (subst (λ n. i < n) (sym (length-reverse types)) low)
    ∙ ap (λ y. take i (reverse types) ++ y ∷ []) (get_or-reverse types i d low) in
    pushed ∙ ap (λ l. l ++ x ∷ []) so_far ∙ append_assoc old (take i (reverse types)) (x ∷ []) ∙ ap (λ l. old ++ l) (sym more)

pub loop-i-preserved : goal.loop-i-preserved
loop-i-preserved c =
    from_end c.args.expected.now.items c.push.new.self.items c.loop-i.expected.items c.args.types.now c.loop-i.i (record { 0 = 0 }) c.loop-i-test.true
    c.loop-i.invariant c.in_ok-push.ensures.items
