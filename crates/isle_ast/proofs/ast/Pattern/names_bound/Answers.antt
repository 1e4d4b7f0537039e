use Rattle.std.proofs.Common.{◌≡◌, ◌++◌, ap, sym, ◌∙◌, rules}
use Rattle.isle_ast.specs.Trees.PatternShape.{pattern_of}
use Rattle.isle_ast.specs.Trees.PatternTree.{pattern_bind}
use Rattle.isle_ast.specs.Inside.Trees.Innermost.{names_bound}
use Rattle.isle_ast.proofs.Trees.Innermost.{names_pushed}
use Rattle.isle_ast.proofs.ast.Pattern.names_bound.Goals as goal

pub loop-at-preserved : goal.loop-at-preserved
loop-at-preserved c =
    let same : c.in_ok-clone.field-0 ≡ c.in-BindPattern.var = search rules in
    let more = names_pushed c.loop-at.names.items c.push.new.self.items c.in_ok-clone.field-0 c.in-BindPattern.pos c.in-BindPattern.subpat
    (pattern_of c.get-at.result.now) c.get-at.ensures c.in_ok-push.ensures.items in
    let whole : pattern_of c.loop-at.at.now ≡ pattern_bind c.in_ok-clone.field-0 c.in-BindPattern.subpat c.in-BindPattern.pos =
    ap pattern_of c.in-BindPattern.is ∙ ap (λ x. pattern_bind x c.in-BindPattern.subpat c.in-BindPattern.pos) (sym same) in
    more ∙ ap (λ t. c.loop-at.names.items ++ names_bound t) (sym whole) ∙ c.loop-at.invariant
