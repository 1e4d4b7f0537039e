use Rattle.std.proofs.Common.{◌≡◌, sym, ◌∙◌, ap}
use Rattle.std.specs.Fmt.{decimal}
use Rattle.std.specs.Str.{bytes_eq}
use Rattle.std.proofs.lemmas.Fmt.{parse-decimal}
use Rattle.std.proofs.lemmas.Slice.Eq.{bytes_eq-Decides}
use Rattle.std.proofs.lemmas.Bool.Decides.{not_from_Decides}
use Rattle.isle_values.proofs.values.reading.opaque_number.Goals as goal

pub returns-in_default-clause-none : goal.returns-in_default-clause-none
returns-in_default-clause-none c = λ n p e.
    let read = parse-decimal 64 n c.args.digits.now c.parse.result p p (sym e) c.parse.ensures.value.0 in
    let failed = c.in_default.is in absurd cc

pub returns-else-eq-clause-none : goal.returns-else-eq-clause-none
returns-else-eq-clause-none c = λ n p e.
    let read = parse-decimal 64 n c.args.digits.now c.parse.result p p (sym e) c.parse.ensures.value.0 in
    let was = c.in-Ok.is in
    let same : c.in-Ok.number ≡ n = cc in
    not_from_Decides (bytes_eq c.as_str.result.now c.args.digits.now) (bytes_eq-Decides c.as_str.result.now c.args.digits.now) (sym c.if-eq.ensures)
    (c.as_str.ensures.value ∙ c.in_ok-to_string.ensures.ok ∙ ap decimal same ∙ e)
