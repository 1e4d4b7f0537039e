use Rattle.std.proofs.Common.{sym, ap, ◌∙◌}
use Rattle.isle_layout.specs.SExprShape.{sexpr_of}
use Rattle.isle_layout.specs.SExprTree.{sexpr_binding}
use Rattle.isle_layout.specs.Spellings.{bound_sexpr}
use Rattle.isle_layout.proofs.Layouts.Spellings.{bound_sexpr_pushed}
use Rattle.isle_layout.proofs.to_sexpr.patterns.bind.Goals as goal

pub names-preserved : goal.names-preserved
names-preserved c =
    ap (λ t. bound_sexpr c.pop.new.self.items (sexpr_binding c.in-Some.name t)) (c.in_ok-new.ensures)
    ∙ sym (bound_sexpr_pushed c.pop.new.self.items c.names.names.items c.in-Some.name (sexpr_of c.names.sexpr) c.in-Some.ensures.items)
    ∙ c.names.invariant
