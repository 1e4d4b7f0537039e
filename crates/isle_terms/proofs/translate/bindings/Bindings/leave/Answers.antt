use Rattle.std.proofs.Common.{drop, ap, ◌∙◌}
use Rattle.std.proofs.lemmas.List.{drop-drop}
use Rattle.isle_terms.proofs.translate.bindings.Bindings.leave.Goals as goal

pub loop-preserved : goal.loop-preserved
loop-preserved c = record {
  scope = c.in_ok-leave.ensures ∙ ap (drop 1) c.loop.invariant.scope ∙ drop-drop 1 c.loop.counter c.self.inside.scope;
  variables = c.loop.invariant.variables;
  nodes = c.loop.invariant.nodes;
}
