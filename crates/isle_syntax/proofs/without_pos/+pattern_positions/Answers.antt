use Rattle.std.proofs.Common.{◌≡◌, ◌∙◌, ap, arith, rules}
use Rattle.isle_ast.specs.Trees.PatternShape.{pattern_of}
use Rattle.isle_ast.specs.Trees.PatternTree.{pattern_bind}
use Rattle.isle_ast.specs.Trees.Chain.{bound}
use Rattle.isle_ast.specs.Trees.WithoutPos.{pattern_tree_without_pos, ident_without_pos, no_pos}
use Rattle.isle_ast.proofs.Trees.Innermost.{bound_size, bound_pushed, binds_nothing}
use Rattle.isle_syntax.proofs.without_pos.+pattern_positions.Goals as goal

pub clear_pattern-loop-at-preserved : goal.clear_pattern-loop-at-preserved
clear_pattern-loop-at-preserved t c =
    let names = c.loop-at.names.items in
    let below = pattern_tree_without_pos c.in-BindPattern.subpat in
    let whole : pattern_tree_without_pos (pattern_of c.loop-at.at) ≡ pattern_bind (ident_without_pos c.in-BindPattern.var) below no_pos =
    ap (λ p. pattern_tree_without_pos (pattern_of p)) c.in-BindPattern.is in
    let inner : pattern_tree_without_pos (pattern_of c.into_inner-at.result) ≡ below = ap pattern_tree_without_pos c.into_inner-at.ensures in
    let nowhere : c.default.result ≡ no_pos = search rules in
    let binding : pattern_bind c.ident_without_pos.result (pattern_tree_without_pos (pattern_of c.into_inner-at.result)) c.default.result
    ≡ pattern_tree_without_pos (pattern_of c.loop-at.at) = cc (c.ident_without_pos.ensures) in
    record {
      cleared =
          bound_pushed names c.push.new.self.items c.ident_without_pos.result c.default.result _ c.in_ok-push.ensures.items ∙ ap (bound names) binding
          ∙ c.loop-at.invariant.cleared;
      no_larger =
          omega (arith, bound_size c.loop-at.at c.into_inner-at.result _ _ _ c.in-BindPattern.is c.into_inner-at.ensures);
    }

pub clear_pattern-clear_innermost-requires : goal.clear_pattern-clear_innermost-requires
clear_pattern-clear_innermost-requires t c =
    (omega arith, binds_nothing c.loop-at.at c.in_default.not-BindPattern)
