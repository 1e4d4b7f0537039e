use Rattle.std.proofs.Common.{reverse, sym, ap, ◌∙◌}
use Rattle.isle_rules.specs.Values.{more_trees, no_trees}
use Rattle.isle_values.specs.Values.Nodes.{values_in, head_value}
use Rattle.isle_values.proofs.GroundValues.Laying.{laid_out}
use Rattle.isle_values.proofs.GroundValues.LaidValues.{one_laid, turned}
use Rattle.isle_values.proofs.values.laying.LaidValues.into_value.Goals as goal

pub invariant_of-result : goal.invariant_of-result
invariant_of-result c =
    let nodes = c.self.inside.nodes.items in
    let (v, values, laid) =
    one_laid nodes c.self.inside.behind.items c.self.invariant
    (sym c.self.inside.behind.ok.0 ∙ sym c.len.ensures ∙ c.if-len-ne1.false) in
    let round = turned nodes c.reverse.new.self c.self.inside.nodes.len
    (c.reverse.ensures.after ∙ ap reverse c.as_mut_slice.ensures.value) c.self.inside.nodes.ok.0 in
    laid_out _ v (round ∙ laid)

pub returns-clause-some : goal.returns-clause-some
returns-clause-some c =
    let nodes = c.self.inside.nodes.items in
    let (v, values, laid) =
    one_laid nodes c.self.inside.behind.items c.self.invariant
    (sym c.self.inside.behind.ok.0 ∙ sym c.len.ensures ∙ c.if-len-ne1.false) in
    let round = turned nodes c.reverse.new.self c.self.inside.nodes.len
    (c.reverse.ensures.after ∙ ap reverse c.as_mut_slice.ensures.value) c.self.inside.nodes.ok.0 in
    sym c.self.view_is ∙ values ∙ ap (λ w. more_trees w no_trees) (sym (ap (λ l. head_value (values_in l)) round ∙ ap head_value values))
