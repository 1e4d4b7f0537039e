use Rattle.std.proofs.Common.{◌∷◌, [], map, ap, ◌∙◌, arith}
use Rattle.std.proofs.lemmas.List.{map-append}
use Rattle.isle_terms.specs.Inside.Readings.Frames.{tree_given}
use Rattle.isle_terms.proofs.Steps.Frames.{put_more, put_done}
use Rattle.isle_terms.proofs.translate.frames.resolve_all.Goals as goal

pub loop-pattern-preserved : goal.loop-pattern-preserved
loop-pattern-preserved c =
    let more = put_more _ _ c.args.patterns.now c.loop-pattern.pattern-index _ c.loop-pattern.invariant c.pattern-item.result
    (tree_given c.resolve.result) c.loop-pattern-test.true c.pattern-item.is c.resolve.ensures.same in
    let items = ap (map tree_given) c.in_ok-push.ensures.items ∙ map-append tree_given c.loop-pattern.all.items (c.resolve.result ∷ []) in
    rw items more

pub returns : goal.returns
returns c = put_done _ _ c.args.patterns.now c.loop-pattern.pattern-index _ c.loop-pattern.invariant (omega arith)
