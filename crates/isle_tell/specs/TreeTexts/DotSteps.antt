-- What is drawn of a tree: a node a step, and an edge for each way to one.
use Rattle.std.specs.Prelude.{ℕ, ◌+◌, List, [], ◌++◌, Option, None, Some, codes, slice_get}
use Rattle.std.specs.Fmt.{decimal, signed_decimal}
use Rattle.std.specs.Option.{option_map_or}
use Rattle.isle_ast.specs.Positions.Files.{SourceFile}
use Rattle.isle_trees.specs.Tree.{Steps, Arms, done, «match», equal, loop, give, no_arm, arm}
use Rattle.isle_types.specs.declared.ids.Sym.{Sym}
use Rattle.isle_types.specs.declared.ids.TypeId.{TypeId}
use Rattle.isle_blocks.specs.declared.binding.Binding.{Binding}
use Rattle.isle_blocks.specs.declared.constraint.Constraint.{Constraint}
use Rattle.isle_blocks.specs.declared.constraint.Constraint.TheVariants as tests
use Rattle.isle_blocks.specs.declared.ids.BindingId.{BindingId}
use Rattle.isle_blocks.specs.declared.rule.Rule.{Rule}
use Rattle.isle_program.specs.declared.program.Program.{Program}
use Rattle.isle_tell.specs.declared.trees.graph.By.{By}
use Rattle.isle_tell.specs.declared.trees.graph.By.TheVariants as ways
use Rattle.isle_tell.specs.declared.trees.graph.Way.{Way}
use Rattle.isle_tell.specs.TreeTexts.DotLabels.{quoted}
use Rattle.isle_tell.specs.TreeTexts.DotSites.{expression}
use Rattle.isle_tell.specs.TreeTexts.Names.{bool_text, pos_text, symbol_name, type_name_of, variant_name}

-- What a tree is drawn from: its program, its files, the number of its term, and the rules, the sites and the known types of these.
pub record Drawn : Type 0 where
  pub program : Program
  pub files : List SourceFile
  pub term : ℕ
  pub rules : List Rule
  pub sites : List Binding
  pub types : List (Option TypeId)

-- what an arm's test asks for
abbrev pub test_words : Program → Constraint → List ℕ
test_words program (tests.Variant ty variant fields) = variant_name program ty variant
test_words program (tests.Struct ty fields) = type_name_of program ty
test_words program (tests.ConstBool val ty) = bool_text val
test_words program (tests.ConstInt val ty) = signed_decimal val
test_words program (tests.ConstPrim val) = codes "$" ++ symbol_name program val
test_words program tests.Some = codes "some"

-- how an edge is drawn: the first one bare, that of an arm with its test, and dashed that to the step after another
abbrev pub by_words : Program → By → List ℕ
by_words program ways.Start = []
by_words program (ways.Test test) = codes " [label=" ++ (quoted (test_words program test) ++ codes "]")
by_words program ways.Equal = codes " [label=\"yes\"]"
by_words program ways.Value = codes " [label=\"each\"]"
by_words program ways.Else = codes " [style=dashed]"

-- the line of an edge
abbrev pub edge_line : Program → (term : ℕ) → Way → (to : ℕ) → List ℕ
edge_line program term way to = codes "  t" ++ (decimal term ++ (codes "_" ++ (decimal way.from ++ (codes " -> t" ++ (decimal term
    ++ (codes "_" ++ (decimal to ++ (by_words program way.by ++ codes ";\n"))))))))

-- the place and the name of a rule
abbrev pub place_and_name : List ℕ → Program → Option Sym → List ℕ
place_and_name place program None = place
place_and_name place program (Some sym) = place ++ (codes " " ++ symbol_name program sym)

-- the label of a step that returns
abbrev pub rule_label : Program → List SourceFile → Rule → List ℕ
rule_label program files rule = place_and_name (pos_text files rule.pos) program rule.name

-- two sites that are compared
abbrev pub equal_label : Program → List (Option TypeId) → List Binding → BindingId → BindingId → List ℕ
equal_label program types sites a b = expression program types sites a ++ (codes " = " ++ expression program types sites b)

-- the line of a node, with its shape and its label
abbrev pub node_line : (term number : ℕ) → (shape label : List ℕ) → List ℕ
node_line term number shape label = codes "  t" ++ (decimal term ++ (codes "_" ++ (decimal number ++ (codes " [" ++ (shape
    ++ (codes "label=" ++ (quoted label ++ codes "];\n")))))))

-- the site of a number
abbrev pub site : ℕ → BindingId
site number = record { 0 = number }

-- the edge to a node
abbrev pub way_line : Drawn → Way → (number : ℕ) → List ℕ
way_line d way number = edge_line d.program d.term way number

-- the node of a match: the site that is tested
abbrev pub match_node : Drawn → (number source : ℕ) → List ℕ
match_node d number source = node_line d.term number [] (expression d.program d.types d.sites (site source))

-- the node of a comparison
abbrev pub equal_node : Drawn → (number a b : ℕ) → List ℕ
equal_node d number a b = node_line d.term number [] (equal_label d.program d.types d.sites (site a) (site b))

-- the node of a loop: the value that is taken
abbrev pub loop_node : Drawn → (number value : ℕ) → List ℕ
loop_node d number value = node_line d.term number [] (expression d.program d.types d.sites (site value))

-- the node of a return: a box with its rule
abbrev pub return_node : Drawn → (number rule : ℕ) → List ℕ
return_node d number rule = node_line d.term number (codes "shape=box, ") (option_map_or (rule_label d.program d.files) (slice_get d.rules rule) [])

-- the way to the first step
abbrev pub start : Way
start = record { from = 0; by = ways.Start }

-- the way from a node
abbrev pub way : ℕ → By → Way
way from by = record { from = from; by = by }

abbrev mutual
  -- how many nodes steps have
  pub step_nodes : Steps Constraint → ℕ
  step_nodes done = 0
  step_nodes («match» binds source arms next) = 1 + (arm_nodes arms + step_nodes next)
  step_nodes (equal binds a b body next) = 1 + (step_nodes body + step_nodes next)
  step_nodes (loop binds value body next) = 1 + (step_nodes body + step_nodes next)
  step_nodes (give binds rule next) = 1 + step_nodes next

  pub arm_nodes : Arms Constraint → ℕ
  arm_nodes no_arm = 0
  arm_nodes (arm test fields body next) = step_nodes body + arm_nodes next

abbrev mutual
  -- steps to which a way leads, with nodes from a number on: the node of each and the edge to it, what is behind it, and the steps after it
  pub steps_graph : Drawn → Way → (number : ℕ) → Steps Constraint → List ℕ
  steps_graph d by number done = []
  steps_graph d by number («match» binds source arms next) = (match_node d number source ++ way_line d by number)
      ++ (arms_graph d number (number + 1) arms ++ steps_graph d (way number ways.Else) (number + 1 + arm_nodes arms) next)
  steps_graph d by number (equal binds a b body next) = (equal_node d number a b ++ way_line d by number)
      ++ (steps_graph d (way number ways.Equal) (number + 1) body ++ steps_graph d (way number ways.Else) (number + 1 + step_nodes body) next)
  steps_graph d by number (loop binds value body next) = (loop_node d number value ++ way_line d by number)
      ++ (steps_graph d (way number ways.Value) (number + 1) body ++ steps_graph d (way number ways.Else) (number + 1 + step_nodes body) next)
  steps_graph d by number (give binds rule next) = (return_node d number rule ++ way_line d by number)
      ++ steps_graph d (way number ways.Else) (number + 1) next

  -- the arms of a node, with nodes from a number on
  pub arms_graph : Drawn → (from number : ℕ) → Arms Constraint → List ℕ
  arms_graph d from number no_arm = []
  arms_graph d from number (arm test fields body next) =
      steps_graph d (way from (ways.Test test)) number body ++ arms_graph d from (number + step_nodes body) next
