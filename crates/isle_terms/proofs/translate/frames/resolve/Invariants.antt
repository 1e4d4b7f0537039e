use Rattle.std.proofs.Common.{◌≡◌, map}
use Rattle.isle_ast.specs.Trees.PatternShape.{pattern_of}
use Rattle.isle_terms.specs.Inside.Readings.Frames.{put, tree_given, frames_of}
use Rattle.isle_terms.proofs.translate.frames.resolve.Given as goal

abbrev pub invariant-loop-at : goal.invariant-loop-at
invariant-loop-at l = tree_given l.at ≡ put (map tree_given l.given) (pattern_of l.pattern)

abbrev pub decreases-loop-at : goal.decreases-loop-at
decreases-loop-at l = frames_of l.at
