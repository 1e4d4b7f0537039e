use Rattle.std.proofs.Common.{◌≡◌, ◌<◌, ◌≤◌, ◌+◌, ◌⊎◌, inl, inr, Some, length, map, drop, get_or, slice_get, sym, ◌∙◌, ap, subst, arith}
use Rattle.std.proofs.lemmas.Bool.{cases_lt}
use Rattle.std.proofs.lemmas.Option.{same_Some, slice_get_within, slice_get-get_or}
use Rattle.isle_types.specs.declared.ids.TypeId.{TypeId}
use Rattle.isle_values.specs.Values.Nodes.{nodes_below}
use Rattle.isle_program.specs.Programs.{value_facts, number_of}
use Rattle.isle_values.specs.Values.TypedNodes.{NodesFit, NodeFits}
use Rattle.isle_values.proofs.GroundValues.TypedNodes.{next_type, same_fit}
use Rattle.isle_values.proofs.values.typing.nodes_fit.Goals as goal

abbrev none : TypeId
none = record { 0 = 0 }

pub returns-in_default : goal.returns-in_default
returns-in_default c =
    let facts = value_facts c.args.program.now in let nodes = c.args.nodes.now in
    let types = c.args.types.now in let i = c.loop-ty.ty-index in let at = c.loop-ty.at in (
      λ t. absurd cc,
      λ h.
          let (node, is, fits, rest) = subst (NodesFit facts nodes at) (next_type types i none c.loop-ty-test.true) (c.loop-ty.invariant.0 h) in
          let within = slice_get_within nodes at node is in let past = c.in_default.ensures.lookup.3 in absurd (omega (arith, within, past)),
    )

pub returns-then-not-node_fits : goal.returns-then-not-node_fits
returns-then-not-node_fits c =
    let facts = value_facts c.args.program.now in let nodes = c.args.nodes.now in
    let types = c.args.types.now in let i = c.loop-ty.ty-index in let at = c.loop-ty.at in
    let here : slice_get nodes at ≡ Some c.in-Some.node.now =
    slice_get-get_or nodes at c.in-Some.node.now c.in-Some.ensures.lookup.3.0 ∙ ap Some (sym c.in-Some.ensures.lookup.1) in (
      λ t. absurd cc,
      λ h.
          let (node, is, fits, rest) = subst (NodesFit facts nodes at) (next_type types i none c.loop-ty-test.true) (c.loop-ty.invariant.0 h) in
          let one : node ≡ c.in-Some.node.now = same_Some node c.in-Some.node.now (sym is ∙ here) in
          let yes = c.node_fits.ensures.1 (subst (λ n. NodeFits facts n (get_or types i none).0) one fits) in
          let not = c.if-not-node_fits.true in absurd cc,
    )

pub loop-ty-preserved : goal.loop-ty-preserved
loop-ty-preserved c =
    let facts = value_facts c.args.program.now in let nodes = c.args.nodes.now in
    let types = c.args.types.now in let i = c.loop-ty.ty-index in let at = c.loop-ty.at in
    let node = c.in-Some.node.now in let next = c.saturating_add-at.result in
    let rest = drop (i + 1) (map number_of types) in
    let here : slice_get nodes at ≡ Some node =
    slice_get-get_or nodes at node c.in-Some.ensures.lookup.3.0 ∙ ap Some (sym c.in-Some.ensures.lookup.1) in
    let fits : NodeFits facts node (get_or types i none).0 = c.node_fits.ensures.0 (let yes = c.if-not-node_fits.false in cc) in
    let small : length nodes < 18446744073709551615 = omega arith in
    let same : (at + 1 + nodes_below node ≡ next) ⊎ ((length nodes ≤ at + 1 + nodes_below node) × (length nodes ≤ next)) =
    (let b = c.below.ensures in let s = c.saturating_add.ensures in let t = c.saturating_add-at.ensures in
    elim (cases_lt (at + 1 + nodes_below node) 18446744073709551615) [
      | inl less ↦ inl (omega (arith, b, s, t, less))
      | inr more ↦ inr (omega (arith, small, more), omega (arith, b, s, t, more, small))
    ]) in
    let back : (next ≡ at + 1 + nodes_below node) ⊎ ((length nodes ≤ next) × (length nodes ≤ at + 1 + nodes_below node)) =
    elim same [ inl e ↦ inl (sym e) | inr (p, q) ↦ inr (q, p) ] in (
      λ h.
          let (other, is, also, more) = subst (NodesFit facts nodes at) (next_type types i none c.loop-ty-test.true) (c.loop-ty.invariant.0 h) in
          let one : other ≡ node = same_Some other node (sym is ∙ here) in
          same_fit facts nodes (at + 1 + nodes_below node) next rest same (subst (λ n. NodesFit facts nodes (at + 1 + nodes_below n) rest) one more),
      λ h. c.loop-ty.invariant.1 (subst (NodesFit facts nodes at) (sym (next_type types i none c.loop-ty-test.true))
          (node, here, fits, same_fit facts nodes next (at + 1 + nodes_below node) rest back h)),
    )
