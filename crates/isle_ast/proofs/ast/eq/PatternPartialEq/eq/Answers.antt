use Rattle.isle_ast.specs.Trees.PatternCode.{pattern_tree_code}
use Rattle.isle_ast.proofs.Trees.Equality.{answered}
use Rattle.isle_ast.proofs.ast.eq.PatternPartialEq.eq.Goals as goal

pub returns : goal.returns
returns c = answered pattern_tree_code _ _ _ c.is_same_pattern.ensures
