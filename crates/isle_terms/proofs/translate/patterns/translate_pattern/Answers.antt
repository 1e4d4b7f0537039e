use Rattle.std.proofs.Common.{sym, ap, ◌∙◌}
use Rattle.isle_ast.specs.Trees.PatternShape.{pattern_of}
use Rattle.isle_terms.specs.Inside.Readings.PatternReading.{reads_in}
use Rattle.isle_terms.proofs.Steps.Frames.{tree_rolled, put_nothing}
use Rattle.isle_terms.proofs.Steps.PatternSteps.{ok_along, err_along}
use Rattle.isle_terms.proofs.translate.patterns.translate_pattern.Goals as goal

pub returns-clause-ok : goal.returns-clause-ok
returns-clause-ok c =
    ok_along c.args.context.now _ _ c.read_part.result _
    (ap (λ t. reads_in c.args.context.now c.args.levels t c.args.ty.0 c.args.bindings.now)
    (sym (tree_rolled _ _ ∙ put_nothing (pattern_of c.args.pattern.now))))
    c.read_part.ensures.ok

pub returns-clause-err : goal.returns-clause-err
returns-clause-err c =
    err_along c.args.context.now.rule _ _ c.read_part.result
    (ap (λ t. reads_in c.args.context.now c.args.levels t c.args.ty.0 c.args.bindings.now)
    (sym (tree_rolled _ _ ∙ put_nothing (pattern_of c.args.pattern.now))))
    c.read_part.ensures.err
