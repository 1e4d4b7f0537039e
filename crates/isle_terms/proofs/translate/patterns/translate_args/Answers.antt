use Rattle.std.proofs.Common.{◌≡◌, sym, ap, ◌∙◌}
use Rattle.isle_ast.specs.Trees.PatternShape.{patterns_of}
use Rattle.isle_terms.specs.Inside.Readings.Outcomes.{each_pattern}
use Rattle.isle_rules.specs.Shown.ShownTerms.{numbers_of}
use Rattle.isle_terms.specs.Inside.Readings.Frames.{trees_given}
use Rattle.isle_terms.specs.Inside.Readings.PatternReading.{reads_in}
use Rattle.isle_terms.proofs.Steps.Frames.{put_nothing_in}
use Rattle.isle_terms.proofs.Steps.PatternSteps.{each_ok_along, err_along, parts_counted}
use Rattle.isle_terms.proofs.translate.patterns.translate_args.Goals as goal

pub read_each-requires : goal.read_each-requires
read_each-requires c =
    let same : trees_given c.as_slice.result.now ≡ patterns_of c.args.args.now =
    ap trees_given c.as_slice.ensures.value ∙ c.in_ok-parts.ensures ∙ put_nothing_in (patterns_of c.args.args.now) in
    parts_counted c.as_slice.result.now c.args.args.now same ∙ c.requires

pub returns-clause-ok : goal.returns-clause-ok
returns-clause-ok c =
    let same : trees_given c.as_slice.result.now ≡ patterns_of c.args.args.now =
    ap trees_given c.as_slice.ensures.value ∙ c.in_ok-parts.ensures ∙ put_nothing_in (patterns_of c.args.args.now) in
    each_ok_along c.args.context.now _ _ c.read_each.result _
    (ap (λ ts. each_pattern (reads_in c.args.context.now c.args.levels) c.args.pos ts (numbers_of c.args.tys.now) c.args.bindings.now) (sym same))
    c.read_each.ensures.ok

pub returns-clause-err : goal.returns-clause-err
returns-clause-err c =
    let same : trees_given c.as_slice.result.now ≡ patterns_of c.args.args.now =
    ap trees_given c.as_slice.ensures.value ∙ c.in_ok-parts.ensures ∙ put_nothing_in (patterns_of c.args.args.now) in
    err_along c.args.context.now.rule _ _ c.read_each.result
    (ap (λ ts. each_pattern (reads_in c.args.context.now c.args.levels) c.args.pos ts (numbers_of c.args.tys.now) c.args.bindings.now) (sym same))
    c.read_each.ensures.err
