use Rattle.std.proofs.Common.{◌++◌, ◌∷◌, [], sym, ap, subst, ◌∙◌}
use Rattle.isle_values.specs.Values.Laying.{AreLaid}
use Rattle.isle_values.proofs.GroundValues.LaidValues.{leaf_laid}
use Rattle.isle_values.proofs.values.laying.LaidValues.put_leaf.Goals as goal

pub invariant_of-self-2 : goal.invariant_of-self-2
invariant_of-self-2 c =
    let nodes = c.self.inside.nodes.items in
    let behind = c.self.inside.behind.items in
    let more = c.in_ok-push-2.ensures.items ∙ ap (λ l. l ++ c.args.node ∷ []) c.reserve.ensures.items in
    let counts = c.in_ok-push.ensures.items ∙ ap (λ n. behind ++ n ∷ []) (c.len-behind.ensures ∙ c.self.inside.nodes.ok.0) in
    subst (λ l. AreLaid l c.push.new.self.items) (sym more)
    (subst (AreLaid (nodes ++ c.args.node ∷ [])) (sym counts) (leaf_laid nodes behind c.self.invariant c.args.node c.requires))
