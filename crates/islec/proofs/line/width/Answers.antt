use Rattle.std.proofs.Common.{rules, ap, ◌≡◌, ◌∙◌, Some}
use Rattle.clap.specs.declared.builder.ValueParser.TheVariants.{Unsigned}
use Rattle.islec.proofs.line.width.Goals as goal

pub returns : goal.returns
returns c =
    let given = c.value_parser.ensures.given in
    let reads : c.value_parser.result.value_parser ≡ Some (Unsigned 0 1000000) = given.1 ∙ ap Some given.2 in
    record { is = search (rules, reads); local = search rules }
