-- What is still to be drawn of a tree.
use Rattle.std.specs.Prelude.{◌≡◌, ◌<◌, ◌+◌, ℕ, List, [], ◌∷◌, ◌++◌, String, codes, slice_get, string_bytes}
use Rattle.std.specs.Option.{option_map_or}
use Rattle.std.specs.Global.{Global}
use Rattle.isle_ast.specs.Positions.Files.{SourceFile}
use Rattle.isle_blocks.specs.declared.serializer.views.ControlFlow.{ControlFlow}
use Rattle.isle_blocks.specs.declared.serializer.views.ControlFlow.TheVariants as flows
use Rattle.isle_blocks.specs.Trees.Views.{shown_steps, shown_arms}
use Rattle.isle_tell.specs.declared.trees.graph.Branch.{Branch}
use Rattle.isle_tell.specs.declared.trees.graph.Branch.TheVariants as branches
use Rattle.isle_tell.specs.declared.trees.graph.By.TheVariants as ways
use Rattle.isle_tell.specs.declared.trees.graph.Scene.{Scene}
use Rattle.isle_tell.specs.TreeTexts.DotSites.{expression}
use Rattle.isle_tell.specs.TreeTexts.DotSteps.{Drawn, arm_nodes, arms_graph, equal_label, node_line, rule_label, step_nodes, steps_graph, way}
use Rattle.isle_tell.specs.Inside.TreeTexts.Parts.{arm_pieces, step_pieces}

-- what a tree is drawn from, as files and a scene show it
abbrev pub drawn : List SourceFile → Scene → Drawn
drawn files scene = record {
  program = scene.table.program.now;
  files = files;
  term = scene.term;
  rules = scene.rules.now;
  sites = scene.table.sites.now;
  types = scene.table.types.now;
}

-- the label of a check
abbrev pub check_label : Drawn → ControlFlow → List ℕ
check_label d (flows.Match source arms) = expression d.program d.types d.sites source
check_label d (flows.Equal a b body) = equal_label d.program d.types d.sites a b
check_label d (flows.Loop result body) = expression d.program d.types d.sites result
check_label d (flows.Return rule pos result) = option_map_or (rule_label d.program d.files) (slice_get d.rules rule) []

-- the shape of a node, a box where a rule returns
abbrev pub shape_words : ControlFlow → List ℕ
shape_words (flows.Match source arms) = []
shape_words (flows.Equal a b body) = []
shape_words (flows.Loop result body) = []
shape_words (flows.Return rule pos result) = codes "shape=box, "

-- the node of a check
abbrev pub check_node : Drawn → (number : ℕ) → ControlFlow → List ℕ
check_node d number check = node_line d.term number (shape_words check) (check_label d check)

-- what is drawn behind the check of a node, with nodes from a number on
abbrev pub behind_graph : Drawn → (from number : ℕ) → ControlFlow → List ℕ
behind_graph d from number (flows.Match source arms) = arms_graph d from number (shown_arms arms).arms
behind_graph d from number (flows.Equal a b body) = steps_graph d (way from ways.Equal) number (shown_steps body).tree
behind_graph d from number (flows.Loop result body) = steps_graph d (way from ways.Value) number (shown_steps body).tree
behind_graph d from number (flows.Return rule pos result) = []

-- how many nodes are behind a check
abbrev pub nodes_behind : ControlFlow → ℕ
nodes_behind (flows.Match source arms) = arm_nodes (shown_arms arms).arms
nodes_behind (flows.Equal a b body) = step_nodes (shown_steps body).tree
nodes_behind (flows.Loop result body) = step_nodes (shown_steps body).tree
nodes_behind (flows.Return rule pos result) = 0

-- what is drawn of a branch, with nodes from a number on
abbrev pub branch_graph : Drawn → (number : ℕ) → Branch → List ℕ
branch_graph d number (branches.Steps by steps) = steps_graph d by number (shown_steps steps).tree
branch_graph d number (branches.Arms from arms) = arms_graph d from number (shown_arms arms).arms

-- how many nodes a branch has
abbrev pub branch_nodes : Branch → ℕ
branch_nodes (branches.Steps by steps) = step_nodes (shown_steps steps).tree
branch_nodes (branches.Arms from arms) = arm_nodes (shown_arms arms).arms

-- how many pieces a branch has, with the end of each list
abbrev pub branch_pieces : Branch → ℕ
branch_pieces (branches.Steps by steps) = step_pieces (shown_steps steps).tree
branch_pieces (branches.Arms from arms) = arm_pieces (shown_arms arms).arms

-- how many nodes are left
abbrev pub left_nodes : List Branch → ℕ
left_nodes [] = 0
left_nodes (branch ∷ others) = branch_nodes branch + left_nodes others

-- how many pieces are left
abbrev pub left_pieces : List Branch → ℕ
left_pieces [] = 0
left_pieces (branch ∷ others) = branch_pieces branch + left_pieces others

-- what is drawn of branches, the last one first, with nodes from a number on
abbrev pub left_graph : Drawn → (number : ℕ) → List Branch → List ℕ
left_graph d number [] = []
left_graph d number (branch ∷ others) = left_graph d number others ++ branch_graph d (number + left_nodes others) branch

-- A piece of a branch is drawn: what is drawn and what is left are together what they were, and less is left.
pub record DrawsPiece (d : Drawn) (branch : Branch) (old new : List Branch) (written rest : String Global) (number next : ℕ) : Type 0 where
  pub text : string_bytes rest ++ left_graph d next new
      ≡ string_bytes written ++ (branch_graph d number branch ++ left_graph d (number + branch_nodes branch) old)
  pub fewer : left_pieces new < branch_pieces branch + left_pieces old
