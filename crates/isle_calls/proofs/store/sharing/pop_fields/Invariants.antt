use Rattle.std.proofs.Common.{◌≡◌, reverse, take, drop}
use Rattle.isle_calls.proofs.store.sharing.pop_fields.Given as goal

-- so many are taken, and the others are left
abbrev pub invariant-loop-i : goal.invariant-loop-i
invariant-loop-i l = (l.numbers.items ≡ take l._i (reverse l.initial.done.items))
    × (reverse l.done.items ≡ drop l._i (reverse l.initial.done.items))
