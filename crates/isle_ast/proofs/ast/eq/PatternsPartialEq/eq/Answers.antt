use Rattle.isle_ast.specs.Trees.PatternCode.{pattern_trees_code}
use Rattle.isle_ast.proofs.Trees.Equality.{answered}
use Rattle.isle_ast.proofs.ast.eq.PatternsPartialEq.eq.Goals as goal

pub returns : goal.returns
returns c =
    let same = answered pattern_trees_code _ _ _ c.are_same_patterns.ensures in rw (c.as_slice.ensures, c.as_slice-2.ensures) at same
