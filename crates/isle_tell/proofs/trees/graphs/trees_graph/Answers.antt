use Rattle.std.proofs.Common.{◌++◌, ◌∙◌, ℕ, List, ap, ap₂, codes}
use Rattle.std.specs.Prelude.{string_bytes}
use Rattle.isle_tell.proofs.trees.graphs.trees_graph.Goals as goal

pub returns : goal.returns
returns c = record {
  sets = string_bytes c.in_ok-sets.sets;
  told = c.in_ok-sets.ensures;
  is =
      c.in_ok-push_str-2.ensures.bytes
      ∙ ap (λ (l : List ℕ). l ++ codes "}\n")
      (c.in_ok-push_str.ensures.bytes ∙ ap₂ (λ (l m : List ℕ). l ++ m) c.in_ok-text.ensures.ok c.as_str.ensures.value);
}
