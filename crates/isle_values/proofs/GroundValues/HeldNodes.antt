-- Values of which each node can be held can be held.
use Rattle.std.proofs.Common.{◌≡◌, ◌≤◌, ◌<◌, ◌+◌, ◌++◌, ℕ, List, [], ◌∷◌, length, take, get_or, sym, ◌∙◌, ap, subst, append_assoc}
use Rattle.std.proofs.lemmas.List.{append-nil, take_more, take_all}
use Rattle.isle_rules.specs.Values.{ValueTree, ValueTrees, bool_tree, int_tree, big_tree, const_tree, opaque_tree, data_tree, no_trees, more_trees}
use Rattle.isle_values.specs.declared.values.Node.{Node}
use Rattle.isle_values.specs.Values.Held.{IsHeld, AreHeld, IsHeldNode}
use Rattle.isle_values.specs.Values.Nodes.{nodes_of, nodes_all}

abbrev pub EachHeld : List Node → Type 0
EachHeld [] = Unit {0}
EachHeld (node ∷ nodes) = IsHeldNode node × EachHeld nodes

one_more : (nodes : List Node) (node : Node) → EachHeld nodes → IsHeldNode node → EachHeld (nodes ++ node ∷ [])
one_more [] node each held = (held, tt)
one_more (n ∷ nodes) node each held = (each.0, one_more nodes node each.1 held)

-- the next node
pub held_next : (nodes : List Node) (at : ℕ) (node : Node) → at < length nodes → node ≡ get_or nodes at node
    → EachHeld (take at nodes) → IsHeldNode node
    → EachHeld (take (at + 1) nodes)
held_next nodes at node within is each held =
    subst EachHeld (sym (take_more nodes at node within ∙ ap (λ n. take at nodes ++ n ∷ []) (sym is))) (one_more (take at nodes) node each held)

mutual
  held_first : (v : ValueTree) (rest : List Node) → EachHeld (nodes_of v ++ rest) → IsHeld v × EachHeld rest
  held_first (bool_tree b) rest each = each
  held_first (int_tree n) rest each = each
  held_first (big_tree n) rest each = each
  held_first (const_tree name) rest each = each
  held_first (opaque_tree n) rest each = each
  held_first (data_tree name vs) rest each = let (fields, more) = all_first vs rest each.1 in ((each.0, fields), more)

  all_first : (vs : ValueTrees) (rest : List Node) → EachHeld (nodes_all vs ++ rest) → AreHeld vs × EachHeld rest
  all_first no_trees rest each = (tt, each)
  all_first (more_trees v vs) rest each =
      let (first, others) = held_first v (nodes_all vs ++ rest) (subst EachHeld (append_assoc (nodes_of v) (nodes_all vs) rest) each) in
      let (later, more) = all_first vs rest others in ((first, later), more)

pub held_value : (v : ValueTree) (nodes : List Node) (at : ℕ) → nodes ≡ nodes_of v → length nodes ≤ at → EachHeld (take at nodes) → IsHeld v
held_value v nodes at is end each =
    (held_first v [] (subst EachHeld (take_all at nodes end ∙ is ∙ sym (append-nil (nodes_of v))) each)).0
