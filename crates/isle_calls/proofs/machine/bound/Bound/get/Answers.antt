-- The place is that of the site's last binding, which has what the site holds.
use Rattle.std.proofs.Common.{◌≡◌, Some, reverse, arith}
use Rattle.std.proofs.lemmas.Grind.{common_steps}
use Rattle.std.proofs.lemmas.List.{reverse-reverse}
use Rattle.isle_calls.specs.Inside.Blocks.Bounds.{place_in}
use Rattle.isle_calls.proofs.TreeRoad.Placing.{place_in-within, held_at-none, held_at-some}
use Rattle.isle_calls.proofs.machine.bound.Bound.get.Goals as goal

pub returns-in_err-place : goal.returns-in_err-place
returns-in_err-place g c = grind (arith, common_steps, held_at-none {T = g.row.T.Denot})

pub index-requires : goal.index-requires
index-requires g c = grind (arith, common_steps, place_in-within {T = g.row.T.Denot})

pub returns : goal.returns
returns g c =
    let xs = c.self.inside.bindings.items in
    let found : place_in c.args.site (reverse xs) ≡ Some c.in_ok-place.place = cc c.in_ok-place.ensures.place in
    let held = held_at-some (reverse xs) c.args.site c.in_ok-place.place c.index.result.now found in
    cc (held, reverse-reverse xs)
