use Rattle.std.proofs.Common.{◌≡◌, map, drop}
use Rattle.isle_ast.specs.Trees.PatternShape.{patterns_of}
use Rattle.isle_ast.proofs.Trees.Templates.{before}
use Rattle.isle_terms.specs.Inside.Readings.Frames.{put_all, tree_given}
use Rattle.isle_terms.proofs.translate.frames.resolve_all.Given as goal

abbrev pub invariant-loop-pattern : goal.invariant-loop-pattern
invariant-loop-pattern l =
    put_all (map tree_given l.given) (patterns_of l.patterns)
    ≡ before (map tree_given l.all.items) (put_all (map tree_given l.given) (patterns_of (drop l.pattern-index l.patterns)))
