use Rattle.std.proofs.Common.{rules, ap, ◌≡◌, ◌∙◌, Some, pos}
use Rattle.clap.specs.declared.builder.ValueParser.TheVariants.{Signed}
use Rattle.islec.proofs.line.depth.Goals as goal

pub returns : goal.returns
returns c =
    let given = c.value_parser-2.ensures.given in
    let reads : c.value_parser-2.result.value_parser ≡ Some (Signed (pos 0) (pos 4294967295)) = given.1
    ∙ ap Some (given.2 ∙ c.value_parser.ensures) in
    record { is = search (rules, reads); local = search rules }
