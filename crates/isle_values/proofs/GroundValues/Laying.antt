-- What a value's nodes stand for.
use Rattle.std.proofs.Common.{◌≡◌, ◌++◌, List, [], refl, sym, ◌∙◌, ap, append_assoc}
use Rattle.std.proofs.lemmas.List.{append-nil}
use Rattle.isle_rules.specs.Values.{ValueTree, ValueTrees, bool_tree, int_tree, big_tree, const_tree, opaque_tree, data_tree, no_trees, more_trees}
use Rattle.isle_values.specs.declared.values.Node.{Node}
use Rattle.isle_values.specs.Values.Nodes.{count_of, joined, nodes_of, nodes_all, first_values, later_values, values_in, value_in, head_value}

pub first_joined : (vs ws : ValueTrees) → first_values (count_of vs) (joined vs ws) ≡ vs
first_joined no_trees ws = refl
first_joined (more_trees v vs) ws = ap (more_trees v) (first_joined vs ws)

pub later_joined : (vs ws : ValueTrees) → later_values (count_of vs) (joined vs ws) ≡ ws
later_joined no_trees ws = refl
later_joined (more_trees v vs) ws = later_joined vs ws

mutual
  -- the nodes of a value stand for it, before what stands behind them
  pub values_before : (v : ValueTree) (nodes : List Node) → values_in (nodes_of v ++ nodes) ≡ more_trees v (values_in nodes)
  values_before (bool_tree b) nodes = refl
  values_before (int_tree n) nodes = refl
  values_before (big_tree n) nodes = refl
  values_before (const_tree name) nodes = refl
  values_before (opaque_tree n) nodes = refl
  values_before (data_tree name vs) nodes =
      let all = all_before vs nodes in
      let first = ap (first_values (count_of vs)) all ∙ first_joined vs (values_in nodes) in
      let later = ap (later_values (count_of vs)) all ∙ later_joined vs (values_in nodes) in
      λ i. more_trees (data_tree name (first i)) (later i)

  pub all_before : (vs : ValueTrees) (nodes : List Node) → values_in (nodes_all vs ++ nodes) ≡ joined vs (values_in nodes)
  all_before no_trees nodes = refl
  all_before (more_trees v vs) nodes =
      ap values_in (append_assoc (nodes_of v) (nodes_all vs) nodes) ∙ values_before v (nodes_all vs ++ nodes) ∙ ap
      (more_trees v) (all_before vs nodes)

-- so they lay out one value
pub value_laid : (v : ValueTree) → value_in (nodes_of v) ≡ v
value_laid v = ap value_in (sym (append-nil (nodes_of v))) ∙ ap head_value (values_before v [])

pub laid_out : (nodes : List Node) (v : ValueTree) → nodes ≡ nodes_of v → nodes ≡ nodes_of (value_in nodes)
laid_out nodes v e = e ∙ ap nodes_of (sym (value_laid v)) ∙ ap (λ l. nodes_of (value_in l)) (sym e)
