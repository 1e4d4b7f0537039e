use Rattle.std.proofs.Common.{rules, ap, ◌≡◌, ◌∙◌, Some}
use Rattle.clap.specs.declared.builder.ValueParser.TheVariants.{Unsigned}
use Rattle.islec.proofs.line.steps_at_most.Goals as goal

pub returns : goal.returns
returns c =
    let given = c.value_parser-2.ensures.given in
    let reads : c.value_parser-2.result.value_parser ≡ Some (Unsigned 0 18446744073709551615) = given.1
    ∙ ap Some (given.2 ∙ c.value_parser.ensures) in
    record { is = search (rules, reads); local = search rules }
