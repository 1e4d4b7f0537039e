use Rattle.std.proofs.Common.{rules, arith, sym, ◌∙◌, ◌≡◌, ◌<◌, ◌≤◌, ◌+◌, ◌-◌, length, subst, List, ℕ, set, ap, slice_get, Some, refl}
use Rattle.std.proofs.lemmas.Option.{slice_get_read}
use Rattle.isle_blocks.specs.Inside.Trees.Ends.{node_end}
use Rattle.isle_blocks.proofs.Trees.Ending.{AreEndsFrom, ends_none, ends_more, ends_all}
use Rattle.isle_blocks.proofs.serializer.block.ends_of.Goals as goal

pub nodes-init : goal.nodes-init
nodes-init c = record {
  ends = ends_none c.args.nodes.now c.in_ok-ends.ends.items (search rules);
  within = omega arith;
}

pub nodes-preserved : goal.nodes-preserved
nodes-preserved c =
    let nodes = c.args.nodes.now in
    let at : ℕ = c.nodes.at - 1 in
    let within = c.nodes.invariant.within in
    let positive : 0 < c.nodes.at = c.nodes-test.true in
    let below : at < length nodes = omega arith in
    let node = c.index-nodes-at.result in
    let there : slice_get nodes at ≡ Some node = slice_get_read nodes (length nodes) at node refl below c.index-nodes-at.is in
    let next : c.nodes.at ≡ at + 1 = omega arith in
    let P : ℕ → Type 0 = λ i. AreEndsFrom nodes c.nodes.ends.items i in
    let value : c.node_end-end.result ≡ node_end node at c.nodes.ends.items =
    c.node_end-end.ensures ∙ ap (λ (x : List ℕ). node_end node at x) c.deref.ensures.value in
    let Q : ℕ → Type 0 = λ x. AreEndsFrom nodes (set c.nodes.ends.items at x) at in
    record {
      ends = subst Q (sym value) (ends_more nodes c.nodes.ends.items at node there (subst P next c.nodes.invariant.ends));
      within = omega arith;
    }

pub returns : goal.returns
returns c =
    let z : c.nodes.at ≤ 0 = c.nodes-test.false in
    ends_all c.args.nodes.now c.nodes.ends.items c.nodes.at z c.nodes.invariant.ends
