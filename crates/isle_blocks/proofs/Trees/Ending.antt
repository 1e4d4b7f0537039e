-- Pieces of a block, and where they end.
use Rattle.std.proofs.Common.{◌≡◌, ◌≢◌, inl, inr, ℕ, suc, zero, ◌+◌, ◌<◌, ◌≤◌, List, [], ◌∷◌, Some, length, refl, sym, ◌∙◌, ap, subst, arith}
use Rattle.std.proofs.Common.{set, length-set, slice_get, unwrap_or, add-one}
use Rattle.std.proofs.lemmas.List.{drop_all}
use Rattle.std.proofs.lemmas.Option.{slice_get_past, slice_get_within, slice_get_cases}
use Rattle.isle_trees.proofs.Basics.{eq_or}
use Rattle.isle_blocks.specs.declared.serializer.node.Node.{Node}
use Rattle.isle_blocks.specs.declared.serializer.node.Node.TheVariants as nodes
use Rattle.isle_blocks.specs.Trees.Nodes.{later, read, put}
use Rattle.isle_blocks.specs.Inside.Trees.Ends.{end_in, node_end, AreEnds}
use Rattle.isle_blocks.specs.Trees.Places.{here}

-- past the last node there is no piece
pub here_past : (nodes : List Node) (at : ℕ) → length nodes ≤ at → here nodes at ≡ []
here_past nodes at l = ap (λ (x : List Node). read x []) (drop_all at nodes l)

here_suc : (nodes : List Node) (at : ℕ) (node : Node) → slice_get nodes at ≡ Some node → here nodes at ≡ put node (here nodes (suc at))
here_suc [] at node e = cc
here_suc (x ∷ xs) zero node e = let f : x ≡ node = cc in ap (λ (y : Node). put y (read xs [])) f
here_suc (x ∷ xs) (suc at) node e = here_suc xs at node e

-- a node stands before its parts
pub here_put : (nodes : List Node) (at : ℕ) (node : Node) → slice_get nodes at ≡ Some node → here nodes at ≡ put node (here nodes (at + 1))
here_put nodes at node e = rw add-one (here_suc nodes at node e)

get_set_other : (xs : List ℕ) (at i v : ℕ) → i ≢ at → slice_get (set xs at v) i ≡ slice_get xs i
get_set_other [] at i v n = refl
get_set_other (x ∷ xs) zero zero v n = absurd (n refl)
get_set_other (x ∷ xs) zero (suc i) v n = refl
get_set_other (x ∷ xs) (suc at) zero v n = refl
get_set_other (x ∷ xs) (suc at) (suc i) v n = get_set_other xs at i v (λ e. n (ap suc e))

get_set_here : (xs : List ℕ) (at v : ℕ) → at < length xs → slice_get (set xs at v) at ≡ Some v
get_set_here [] at v l = absurd (omega arith)
get_set_here (x ∷ xs) zero v l = refl
get_set_here (x ∷ xs) (suc at) v l = get_set_here xs at v (omega arith)

end_past : (ends : List ℕ) (at : ℕ) → length ends ≤ at → end_in ends at ≡ at
end_past ends at l = ap (λ o. unwrap_or o at) (slice_get_past ends at l)

end_other : (ends : List ℕ) (at i v : ℕ) → i ≢ at → end_in (set ends at v) i ≡ end_in ends i
end_other ends at i v n = ap (λ o. unwrap_or o i) (get_set_other ends at i v n)

end_here : (ends : List ℕ) (at v : ℕ) → at < length ends → end_in (set ends at v) at ≡ v
end_here ends at v l = ap (λ o. unwrap_or o at) (get_set_here ends at v l)

-- the ends of the nodes from a place on are known
pub record AreEndsFrom (nodes : List Node) (ends : List ℕ) (from : ℕ) : Type 0 where
  pub size : length ends ≡ length nodes
  pub ends_at : (i : ℕ) (node : Node) → from ≤ i → slice_get nodes i ≡ Some node → end_in ends i ≡ node_end node i ends
  pub up : (i : ℕ) → from ≤ i → i ≤ end_in ends i

-- of no nodes
pub ends_none : (nodes : List Node) (ends : List ℕ) → length ends ≡ length nodes → AreEndsFrom nodes ends (length nodes)
ends_none nodes ends e = record {
  size = e;
  ends_at = λ i node l f. let g = slice_get_within nodes i node f in absurd (omega arith);
  up = λ i l. let g = end_past ends i (omega arith) in omega arith;
}

-- a write before does not change where a later piece ends
same_two : (ends : List ℕ) (at i v : ℕ) → at ≤ i → ((j : ℕ) → at + 1 ≤ j → j ≤ end_in ends j)
    → end_in (set ends at v) (end_in (set ends at v) (i + 1)) ≡ end_in ends (end_in ends (i + 1))
same_two ends at i v l up =
    let one : end_in (set ends at v) (i + 1) ≡ end_in ends (i + 1) = end_other ends at (i + 1) v (omega arith) in
    let u = up (i + 1) (omega arith) in
    ap (end_in (set ends at v)) one ∙ end_other ends at (end_in ends (i + 1)) v (omega arith)

same_end : (node : Node) (ends : List ℕ) (at i v : ℕ) → at ≤ i → ((j : ℕ) → at + 1 ≤ j → j ≤ end_in ends j)
    → node_end node i (set ends at v) ≡ node_end node i ends
same_end nodes.End ends at i v l up = refl
same_end nodes.NoArm ends at i v l up = refl
same_end (nodes.Match binds source) ends at i v l up = same_two ends at i v l up
same_end (nodes.Equal binds a b) ends at i v l up = same_two ends at i v l up
same_end (nodes.Loop binds result) ends at i v l up = same_two ends at i v l up
same_end (nodes.Return binds rule pos result) ends at i v l up = end_other ends at (i + 1) v (omega arith)
same_end (nodes.Arm constraint bindings) ends at i v l up = same_two ends at i v l up

two_up : (ends : List ℕ) (i : ℕ) → ((j : ℕ) → i + 1 ≤ j → j ≤ end_in ends j) → i ≤ end_in ends (end_in ends (i + 1))
two_up ends i up = let u = up (i + 1) (omega arith) in let w = up (end_in ends (i + 1)) (omega arith) in omega arith

node_up : (node : Node) (ends : List ℕ) (i : ℕ) → ((j : ℕ) → i + 1 ≤ j → j ≤ end_in ends j) → i ≤ node_end node i ends
node_up nodes.End ends i up = omega arith
node_up nodes.NoArm ends i up = omega arith
node_up (nodes.Match binds source) ends i up = two_up ends i up
node_up (nodes.Equal binds a b) ends i up = two_up ends i up
node_up (nodes.Loop binds result) ends i up = two_up ends i up
node_up (nodes.Return binds rule pos result) ends i up = let u = up (i + 1) (omega arith) in omega arith
node_up (nodes.Arm constraint bindings) ends i up = two_up ends i up

-- the end of the node before, too
pub ends_more : (nodes : List Node) (old : List ℕ) (at : ℕ) (node : Node) → slice_get nodes at ≡ Some node → AreEndsFrom nodes old (at + 1)
    → AreEndsFrom nodes (set old at (node_end node at old)) at
ends_more nodes old at node e h =
    let v = node_end node at old in
    let s = h.size in
    let w : at < length nodes = slice_get_within nodes at node e in
    record {
      size = length-set old at v ∙ s;
      ends_at = λ i m k f. elim (eq_or i at) [
        | inl p ↦
            let F : ℕ → Type 0 = λ y. slice_get nodes y ≡ Some m in
            let g : Some node ≡ Some m = sym e ∙ subst F p f in
            let same : node ≡ m = cc in
            let P : ℕ → Type 0 = λ y. end_in (set old at v) y ≡ node_end m y (set old at v) in
            subst P (sym p) (end_here old at v (omega arith) ∙ ap (λ (x : Node). node_end x at old) same
            ∙ sym (same_end m old at at v (omega arith) h.up))
        | inr d ↦ end_other old at i v d ∙ h.ends_at i m (omega arith) f ∙ sym (same_end m old at i v k h.up)
      ];
      up = λ i k. elim (eq_or i at) [
        | inl p ↦
            let P : ℕ → Type 0 = λ y. y ≤ end_in (set old at v) y in
            let Q : ℕ → Type 0 = λ y. at ≤ y in
            subst P (sym p) (subst Q (sym (end_here old at v (omega arith))) (node_up node old at h.up))
        | inr d ↦ (let Q : ℕ → Type 0 = λ y. i ≤ y in subst Q (sym (end_other old at i v d)) (h.up i (omega arith)))
      ];
    }

-- of all nodes
pub ends_all : (nodes : List Node) (ends : List ℕ) (at : ℕ) → at ≤ 0 → AreEndsFrom nodes ends at → AreEnds nodes ends
ends_all nodes ends at z h = (h.size, λ i node e. h.ends_at i node (omega arith) e)

-- the piece at a place ends where those after it begin
record Lies (nodes : List Node) (ends : List ℕ) (at : ℕ) : Type 0 where
  pub after : here nodes (end_in ends at) ≡ later (here nodes at)
  pub up : at ≤ end_in ends at

lies_one : (nodes : List Node) (ends : List ℕ) (i : ℕ) (node : Node) → slice_get nodes i ≡ Some node → end_in ends i ≡ i + 1
    → later (put node (here nodes (i + 1))) ≡ here nodes (i + 1) → Lies nodes ends i
lies_one nodes ends i node e f g = record {
  after = ap (here nodes) f ∙ sym g ∙ ap later (sym (here_put nodes i node e));
  up = omega arith;
}

lies_two : (nodes : List Node) (ends : List ℕ) (i : ℕ) (node : Node) → slice_get nodes i ≡ Some node
    → end_in ends i ≡ end_in ends (end_in ends (i + 1))
    → later (put node (here nodes (i + 1))) ≡ later (later (here nodes (i + 1)))
    → Lies nodes ends (i + 1) → Lies nodes ends (end_in ends (i + 1)) → Lies nodes ends i
lies_two nodes ends i node e f g one two = record {
  after = ap (here nodes) f ∙ two.after ∙ ap later one.after ∙ sym g ∙ ap later (sym (here_put nodes i node e));
  up = let a = one.up in let b = two.up in omega arith;
}

lies_node : (node : Node) (nodes : List Node) (ends : List ℕ) (i : ℕ) → slice_get nodes i ≡ Some node
    → end_in ends i ≡ node_end node i ends → ((j : ℕ) → i + 1 ≤ j → Lies nodes ends j) → Lies nodes ends i
lies_node nodes.End all ends i e f h = lies_one all ends i nodes.End e f refl
lies_node nodes.NoArm all ends i e f h = lies_one all ends i nodes.NoArm e f refl
lies_node (nodes.Match binds source) all ends i e f h =
    let one = h (i + 1) (omega arith) in
    lies_two all ends i (nodes.Match binds source) e f refl one (h (end_in ends (i + 1)) one.up)
lies_node (nodes.Equal binds a b) all ends i e f h =
    let one = h (i + 1) (omega arith) in
    lies_two all ends i (nodes.Equal binds a b) e f refl one (h (end_in ends (i + 1)) one.up)
lies_node (nodes.Loop binds result) all ends i e f h =
    let one = h (i + 1) (omega arith) in
    lies_two all ends i (nodes.Loop binds result) e f refl one (h (end_in ends (i + 1)) one.up)
lies_node (nodes.Return binds rule pos result) all ends i e f h =
    let one = h (i + 1) (omega arith) in
    record {
      after = ap (here all) f ∙ one.after ∙ ap later (sym (here_put all i (nodes.Return binds rule pos result) e));
      up = let a = one.up in omega arith;
    }
lies_node (nodes.Arm constraint bindings) all ends i e f h =
    let one = h (i + 1) (omega arith) in
    lies_two all ends i (nodes.Arm constraint bindings) e f refl one (h (end_in ends (i + 1)) one.up)

lies_past : (nodes : List Node) (ends : List ℕ) (i : ℕ) → length ends ≡ length nodes → length nodes ≤ i → Lies nodes ends i
lies_past nodes ends i s l =
    let f = end_past ends i (omega arith) in
    record { after = ap (here nodes) f ∙ here_past nodes i l ∙ ap later (sym (here_past nodes i l)); up = omega arith }

lies_from : (d : ℕ) (nodes : List Node) (ends : List ℕ) (i : ℕ) → AreEnds nodes ends → length nodes ≤ i + d → Lies nodes ends i
lies_from zero nodes ends i h l = lies_past nodes ends i h.0 (omega arith)
lies_from (suc d) nodes ends i h l = elim (slice_get_cases nodes i).1 [
  | inl m ↦ lies_node m.0 nodes ends i m.2 (h.1 i m.0 m.2) (λ j k. lies_from d nodes ends j h (omega arith))
  | inr k ↦ lies_past nodes ends i h.0 k.0
]

-- what comes after the piece at a place begins where that piece ends
pub here_end : (nodes : List Node) (ends : List ℕ) (at : ℕ) → AreEnds nodes ends → here nodes (end_in ends at) ≡ later (here nodes at)
here_end nodes ends at h = (lies_from (length nodes) nodes ends at h (omega arith)).after
