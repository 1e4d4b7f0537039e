use Rattle.isle_ast.specs.Trees.PatternCode.{pattern_tree_code}
use Rattle.isle_ast.proofs.Trees.Equality.{answered}
use Rattle.isle_ast.proofs.ast.eq.BoxedPatternPartialEq.eq.Goals as goal

pub returns : goal.returns
returns c =
    let same = answered pattern_tree_code _ _ _ c.is_same_pattern.ensures in rw (c.get.ensures, c.get-2.ensures) at same
