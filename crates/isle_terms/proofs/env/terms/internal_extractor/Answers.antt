use Rattle.std.proofs.Common.{length, ap, arith, rules, Fits, w64}
use Rattle.isle_ast.specs.Trees.PatternShape.{pattern_of}
use Rattle.isle_rules.specs.Readings.Needs.{needed}
use Rattle.isle_terms.proofs.Steps.Frames.{template_needs}
use Rattle.isle_terms.proofs.env.terms.internal_extractor.Goals as goal

pub returns-clause-needs : goal.returns-clause-needs
returns-clause-needs c =
    let made = ap needed c.in_ok-make_macro_template.ensures in
    let low = template_needs c.as_slice-args.result.now (pattern_of c.args.extractor.now.template) c.requires in
    let fits : Fits w64 (length c.as_slice-args.result.now) = search rules in
    omega arith
