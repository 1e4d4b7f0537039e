-- A match of an argument with two arms, and a step after it: the nodes, the tree that they stand for, and where their pieces end.
use Rattle.std.proofs.Common.{◌≡◌, ℕ, zero, suc, List, [], ◌∷◌, Some, None, slice_get, refl, ap, ◌∙◌}
use Rattle.isle_ast.specs.declared.pos.Pos.{Pos}
use Rattle.isle_trees.specs.Tree.{Steps, done, «match», equal, loop, give, Arms, no_arm, arm}
use Rattle.isle_blocks.specs.declared.ids.BindingId.{BindingId}
use Rattle.isle_blocks.specs.declared.constraint.Constraint.{Constraint}
use Rattle.isle_blocks.specs.declared.constraint.Constraint.TheVariants as tests
use Rattle.isle_blocks.specs.declared.serializer.node.Node.{Node}
use Rattle.isle_blocks.specs.declared.serializer.node.Node.TheVariants as nodes
use Rattle.isle_blocks.specs.Trees.Nodes.{steps_piece, arms_piece}
use Rattle.isle_blocks.specs.Inside.Trees.Ends.{end_in, node_end, AreEnds}
use Rattle.isle_blocks.specs.Trees.Places.{here}
use Rattle.isle_blocks.specs.Trees.Shown.{Returned, block_of}

abbrev site : ℕ → BindingId
site n = record { 0 = n }

-- the place of a rule
abbrev byte : ℕ → Pos
byte offset = record { file = 0; offset = offset }

-- a variant with so many fields
abbrev variant : ℕ → ℕ → Constraint
variant k fields = tests.Variant (record { 0 = 7 }) (record { 0 = k }) (record { 0 = fields })

-- The rules (rule (f (A x _)) x), (rule (f (B)) 5) and (rule (f y) y), in this order: site 0 is the argument, 1 the first field of A and
-- 2 the number 5.
abbrev written : List Node
written =
    nodes.Match (site 0 ∷ []) (site 0)
    ∷ nodes.Arm (variant 0 2) (Some (site 1) ∷ None ∷ [])
    ∷ nodes.Return (site 1 ∷ []) 0 (byte 10) (site 1)
    ∷ nodes.End
    ∷ nodes.Arm (variant 1 0) []
    ∷ nodes.Return (site 2 ∷ []) 1 (byte 30) (site 2)
    ∷ nodes.End
    ∷ nodes.NoArm
    ∷ nodes.Return [] 2 (byte 50) (site 0)
    ∷ nodes.End
    ∷ []

-- what is behind the first arm's test
abbrev first_body : Steps Constraint
first_body = give (1 ∷ []) 0 done

abbrev second_body : Steps Constraint
second_body = give (2 ∷ []) 1 done

abbrev second_arm : Arms Constraint
second_arm = arm (variant 1 0) [] second_body no_arm

abbrev both_arms : Arms Constraint
both_arms = arm (variant 0 2) (Some 1 ∷ None ∷ []) first_body second_arm

-- the step after the match
abbrev last_step : Steps Constraint
last_step = give [] 2 done

abbrev returned : ℕ → ℕ → ℕ → Returned
returned rule offset result = record { rule = rule; pos = byte offset; result = result }

pub shown_block : block_of written ≡ record {
  tree = «match» (0 ∷ []) 0 both_arms last_step;
  returns = returned 0 10 1 ∷ returned 1 30 2 ∷ returned 2 50 0 ∷ [];
}
shown_block = refl

-- From each node on: its own piece, then what comes after it.
pub shown_match : here written 0 ≡ steps_piece («match» (0 ∷ []) 0 both_arms last_step) ∷ []
shown_match = refl

pub shown_first_arm : here written 1 ≡ arms_piece both_arms ∷ steps_piece last_step ∷ []
shown_first_arm = refl

pub shown_first_body : here written 2 ≡ steps_piece first_body ∷ arms_piece second_arm ∷ steps_piece last_step ∷ []
shown_first_body = refl

pub shown_first_end : here written 3 ≡ steps_piece done ∷ arms_piece second_arm ∷ steps_piece last_step ∷ []
shown_first_end = refl

pub shown_second_arm : here written 4 ≡ arms_piece second_arm ∷ steps_piece last_step ∷ []
shown_second_arm = refl

pub shown_second_body : here written 5 ≡ steps_piece second_body ∷ arms_piece no_arm ∷ steps_piece last_step ∷ []
shown_second_body = refl

pub shown_no_arm : here written 7 ≡ arms_piece no_arm ∷ steps_piece last_step ∷ []
shown_no_arm = refl

pub shown_last_step : here written 8 ≡ steps_piece last_step ∷ []
shown_last_step = refl

pub shown_last_end : here written 9 ≡ steps_piece done ∷ []
shown_last_end = refl

-- the places where the pieces of the ten nodes end
abbrev known_ends : List ℕ
known_ends = 10 ∷ 8 ∷ 4 ∷ 4 ∷ 8 ∷ 7 ∷ 7 ∷ 8 ∷ 10 ∷ 10 ∷ []

-- a node's end, where the node is known
end_at : (at : ℕ) (here_is node : Node) → end_in known_ends at ≡ node_end here_is at known_ends → Some here_is ≡ Some node
    → end_in known_ends at ≡ node_end node at known_ends
end_at at here_is node ends e = let same : here_is ≡ node = cc in ends ∙ ap (λ (n : Node). node_end n at known_ends) same

ends_at : (at : ℕ) (node : Node) → slice_get written at ≡ Some node → end_in known_ends at ≡ node_end node at known_ends
ends_at zero node e = end_at 0 _ node refl e
ends_at (suc zero) node e = end_at 1 _ node refl e
ends_at (suc (suc zero)) node e = end_at 2 _ node refl e
ends_at (suc (suc (suc zero))) node e = end_at 3 _ node refl e
ends_at (suc (suc (suc (suc zero)))) node e = end_at 4 _ node refl e
ends_at (suc (suc (suc (suc (suc zero))))) node e = end_at 5 _ node refl e
ends_at (suc (suc (suc (suc (suc (suc zero)))))) node e = end_at 6 _ node refl e
ends_at (suc (suc (suc (suc (suc (suc (suc zero))))))) node e = end_at 7 _ node refl e
ends_at (suc (suc (suc (suc (suc (suc (suc (suc zero)))))))) node e = end_at 8 _ node refl e
ends_at (suc (suc (suc (suc (suc (suc (suc (suc (suc zero))))))))) node e = end_at 9 _ node refl e
ends_at (suc (suc (suc (suc (suc (suc (suc (suc (suc (suc at)))))))))) node e = cc

pub written_ends : AreEnds written known_ends
written_ends = (refl, ends_at)

-- A loop over a multi call, in which two sites are compared, and then a return: (rule (f x y) (if-let x (g)) (if-let x y) x) before
-- (rule (f x y) y). Site 2 is the call, 3 one value of it.
abbrev nested : List Node
nested =
    nodes.Loop (site 2 ∷ site 3 ∷ []) (site 3)
    ∷ nodes.Equal (site 0 ∷ []) (site 0) (site 3)
    ∷ nodes.Return [] 0 (byte 10) (site 0)
    ∷ nodes.End
    ∷ nodes.End
    ∷ nodes.Return (site 1 ∷ []) 1 (byte 60) (site 1)
    ∷ nodes.End
    ∷ []

pub shown_nested : block_of nested ≡ record {
  tree = loop (2 ∷ 3 ∷ []) 3 (equal (0 ∷ []) 0 3 (give [] 0 done) done) (give (1 ∷ []) 1 done);
  returns = returned 0 10 0 ∷ returned 1 60 1 ∷ [];
}
shown_nested = refl

-- no nodes are no steps
pub shown_nothing : block_of [] ≡ record { tree = done; returns = [] }
shown_nothing = refl
