use Rattle.std.proofs.Common.{◌≡◌, [], map, replicate, ℕ, Vec, Global}
use Rattle.isle_terms.proofs.env.graph.Graph.new.Given as goal

abbrev pub invariant-loop-node : goal.invariant-loop-node
invariant-loop-node l = map (λ (row : Vec ℕ Global). row.items) l.rows.items ≡ replicate l._node []
