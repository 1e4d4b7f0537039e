use Rattle.std.proofs.Common.{[], ◌∷◌, sym, ap, ◌∙◌}
use Rattle.isle_ast.specs.Trees.PatternShape.{pattern_of}
use Rattle.isle_ast.specs.Trees.PatternTree.{pattern_bind}
use Rattle.isle_ast.specs.Trees.Chain.{bound}
use Rattle.isle_ast.proofs.Trees.Chains.{bound-append}
use Rattle.isle_ast.proofs.ast.wrap.wrap.Goals as goal

pub names-preserved : goal.names-preserved
names-preserved c =
    let var = c.in-Some.var in
    let pos = c.in-Some.pos in
    ap (λ t. bound c.pop.new.self.items (pattern_bind var t pos)) c.in_ok-subpat.ensures
    ∙ sym (bound-append c.pop.new.self.items ((var, pos) ∷ []) (pattern_of c.names.pattern))
    ∙ ap (λ xs. bound xs (pattern_of c.names.pattern)) (sym c.in-Some.ensures.items)
    ∙ c.names.invariant
