use Rattle.std.proofs.Common.{ap, ◌∙◌}
use Rattle.isle_rules.specs.Shown.ShownTerms.{numbers_of}
use Rattle.isle_rules.proofs.FieldNumbers.{fields_numbers}
use Rattle.isle_terms.proofs.env.type_terms.types_of_fields.Goals as goal

pub returns : goal.returns
returns c = λ names shown is.
    ap numbers_of (c.new.ensures ∙ c.in_ok-types.ensures) ∙ fields_numbers names shown c.args.fields.now is
