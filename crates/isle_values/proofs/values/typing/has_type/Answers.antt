use Rattle.std.proofs.Common.{◌≡◌, ◌∷◌, length, get_or, sym, ◌∙◌, ap, subst, arith}
use Rattle.isle_program.specs.Programs.{value_facts}
use Rattle.isle_values.specs.Values.TypedNodes.{NodeFits}
use Rattle.isle_values.proofs.GroundValues.TypedNodes.{typed_nodes, root_of, behind, rooted}
use Rattle.isle_values.proofs.values.typing.has_type.Goals as goal

pub bounds-nodes-0 : goal.bounds-nodes-0
bounds-nodes-0 c =
    let is : c.nodes-nodes.result.now ≡ root_of c.args.value.now ∷ behind c.args.value.now = c.nodes-nodes.ensures ∙ rooted c.args.value.now in
    let many = ap length is in omega (arith, many)

pub returns-then-node_fits : goal.returns-then-node_fits
returns-then-node_fits c =
    let facts = value_facts c.args.program.now in let v = c.args.value.now in let nodes = c.nodes-nodes.result.now in
    let typed = typed_nodes facts v nodes c.args.ty.0 c.nodes-nodes.ensures in
    let root : c.index-nodes-0.result ≡ root_of v =
    c.index-nodes-0.is ∙ ap (λ l. get_or l 0 c.index-nodes-0.result) (c.nodes-nodes.ensures ∙ rooted v) in
    let fits : NodeFits facts (root_of v) c.args.ty.0 = subst (λ n. NodeFits facts n c.args.ty.0) root
    (c.node_fits.ensures.0 c.if-node_fits.true) in (
      λ t. typed.0 (fits, c.all_fields_fit.ensures.0 t),
      λ h. c.all_fields_fit.ensures.1 (typed.1 h).1,
    )

pub returns-else-node_fits : goal.returns-else-node_fits
returns-else-node_fits c =
    let facts = value_facts c.args.program.now in let v = c.args.value.now in let nodes = c.nodes-nodes.result.now in
    let typed = typed_nodes facts v nodes c.args.ty.0 c.nodes-nodes.ensures in
    let root : c.index-nodes-0.result ≡ root_of v =
    c.index-nodes-0.is ∙ ap (λ l. get_or l 0 c.index-nodes-0.result) (c.nodes-nodes.ensures ∙ rooted v) in (
      λ t. let not = c.if-node_fits.false in absurd cc,
      λ h. c.node_fits.ensures.1 (subst (λ n. NodeFits facts n c.args.ty.0) (sym root) (typed.1 h).0),
    )
