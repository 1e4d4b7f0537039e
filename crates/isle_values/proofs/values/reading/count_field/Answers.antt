use Rattle.std.proofs.Common.{◌+◌, ◌-◌, set, ap, ◌∙◌, arith, refl}
use Rattle.isle_values.proofs.GroundValues.Reading.{counted_set}
use Rattle.isle_values.proofs.values.reading.count_field.Goals as goal

pub returns-in-Some : goal.returns-in-Some
returns-in-Some c =
    let places = c.args.opened.now.items in
    let len = c.args.opened.now.ok.0 in let some = c.in-Some.ensures.variant.0 refl in
    ap (λ place. set places (c.args.opened.now.len - 1) (record { node = place.node; fields = place.fields + 1 })) c.in-Some.ensures.value
    ∙ counted_set places (c.args.opened.now.len - 1) c.in-Some.innermost.now (omega (arith, len, some))
