use Rattle.std.proofs.Common.{◌<◌, ◌≤◌, length, sym, ap, ◌∙◌}
use Rattle.std.proofs.lemmas.Option.{slice_get_past}
use Rattle.isle_ast.specs.Trees.PatternShape.{pattern_of}
use Rattle.isle_terms.specs.declared.translate.frames.Given.{out-Given}
use Rattle.isle_terms.proofs.Steps.Frames.{item_found, argument_tree, argument_frames, missing_argument}
use Rattle.isle_terms.proofs.translate.frames.resolve.Goals as goal

pub loop-at-smaller : goal.loop-at-smaller
loop-at-smaller c =
    let low : c.in-MacroArg.index < length (out-Given c.loop-at.at).given.now = c.in-Some.ensures.lookup.3.0 in
    argument_frames c.loop-at.at c.in-Some.found.now c.in-MacroArg.index (item_found _ _ _ low c.in-Some.ensures.lookup.1)

pub loop-at-preserved : goal.loop-at-preserved
loop-at-preserved c =
    let low : c.in-MacroArg.index < length (out-Given c.loop-at.at).given.now = c.in-Some.ensures.lookup.3.0 in
    sym (argument_tree c.loop-at.at c.in-Some.found.now c.in-MacroArg.index c.in-MacroArg.pos (ap pattern_of c.in-MacroArg.is)
    (item_found _ _ _ low c.in-Some.ensures.lookup.1)) ∙ c.loop-at.invariant

pub returns-in-None-clause-own : goal.returns-in-None-clause-own
returns-in-None-clause-own c = λ _.
    let high : length (out-Given c.loop-at.at).given.now ≤ c.in-MacroArg.index = c.in-None.ensures.lookup.3 in
    missing_argument c.loop-at.at c.in-MacroArg.index c.in-MacroArg.pos (ap pattern_of c.in-MacroArg.is) (slice_get_past _ _ high)
