-- What is drawn of what is left of a tree.
use Rattle.std.proofs.Common.{◌≡◌, ◌<◌, ◌+◌, ◌++◌, ◌∙◌, ◌∷◌, [], ℕ, List, Option, Some, None, String, refl, sym, ap, arith, append_assoc}
use Rattle.std.specs.Global.{Global}
use Rattle.std.specs.Prelude.{string_bytes}
use Rattle.std.proofs.lemmas.List.{append-nil}
use Rattle.std.specs.Option.{option_map_or}
use Rattle.isle_trees.specs.Tree.{Steps as StepTree}
use Rattle.isle_blocks.specs.declared.constraint.Constraint.{Constraint}
use Rattle.isle_blocks.specs.declared.serializer.views.ControlFlow.{ControlFlow}
use Rattle.isle_blocks.specs.declared.serializer.views.ControlFlow.TheVariants as flows
use Rattle.isle_blocks.specs.declared.serializer.views.Arms.{Arms}
use Rattle.isle_blocks.specs.declared.serializer.views.EvalStep.{EvalStep}
use Rattle.isle_blocks.specs.declared.serializer.views.MatchArm.{MatchArm}
use Rattle.isle_blocks.specs.declared.serializer.views.Steps.{Steps}
use Rattle.isle_blocks.specs.Rows.{numbers_of}
use Rattle.isle_blocks.specs.Trees.Views.{arm_before, check_before, shown_arms, shown_steps, step_before}
use Rattle.isle_tell.specs.declared.trees.graph.Branch.{Branch}
use Rattle.isle_tell.specs.declared.trees.graph.Branch.TheVariants as branches
use Rattle.isle_tell.specs.declared.trees.graph.By.TheVariants as ways
use Rattle.isle_tell.specs.declared.trees.graph.Way.{Way}
use Rattle.isle_tell.specs.Inside.TreeTexts.DotParts.{DrawsPiece, behind_graph, branch_graph, branch_nodes, branch_pieces, check_node, left_graph, left_nodes, left_pieces, nodes_behind}
use Rattle.isle_tell.specs.TreeTexts.DotSteps.{Drawn, arm_nodes, arms_graph, step_nodes, steps_graph, way, way_line}
use Rattle.isle_tell.specs.Inside.TreeTexts.Parts.{arm_pieces, pieces_behind, step_pieces}
use Rattle.isle_tell.proofs.TreeTexts.Left.{line_first, step_has}

-- one more branch
pub nodes_more : (left : List Branch) (branch : Branch) → left_nodes (left ++ branch ∷ []) ≡ branch_nodes branch + left_nodes left
nodes_more [] branch = refl
nodes_more (first ∷ left) branch = ap (λ n. branch_nodes first + n) (nodes_more left branch) ∙ omega arith

pub pieces_more : (left : List Branch) (branch : Branch) → left_pieces (left ++ branch ∷ []) ≡ branch_pieces branch + left_pieces left
pieces_more [] branch = refl
pieces_more (first ∷ left) branch = ap (λ n. branch_pieces first + n) (pieces_more left branch) ∙ omega arith

-- the nodes of a step: its own, those behind its check, and those of the steps after it
pub step_counts : (check : ControlFlow) (binds : List ℕ) (next : StepTree Constraint)
    → step_nodes (check_before check binds next) ≡ 1 + (nodes_behind check + step_nodes next)
step_counts (flows.Match source arms) binds next = refl
step_counts (flows.Equal a b body) binds next = refl
step_counts (flows.Loop result body) binds next = refl
step_counts (flows.Return rule pos result) binds next = omega arith

module _ (d : Drawn) where
  -- the branch that was left last is drawn first
  pub left_more : (number : ℕ) (left : List Branch) (branch : Branch)
      → left_graph d number (left ++ branch ∷ []) ≡ branch_graph d number branch ++ left_graph d (number + branch_nodes branch) left
  left_more number [] branch =
      let same : number + 0 ≡ number = omega arith in
      ap (λ (n : ℕ). branch_graph d n branch) same ∙ sym (append-nil (branch_graph d number branch))
  left_more number (first ∷ left) branch =
      let count = nodes_more left branch in
      let same : number + left_nodes (left ++ branch ∷ []) ≡ (number + branch_nodes branch) + left_nodes left = omega (arith, count) in
      ap (λ (l : List ℕ). l ++ branch_graph d (number + left_nodes (left ++ branch ∷ [])) first) (left_more number left branch)
      ∙ ap (λ (n : ℕ). (branch_graph d number branch ++ left_graph d (number + branch_nodes branch) left) ++ branch_graph d n first) same
      ∙ append_assoc (branch_graph d number branch) (left_graph d (number + branch_nodes branch) left)
      (branch_graph d ((number + branch_nodes branch) + left_nodes left) first)

  -- the lines of a step, what is behind its check, and the steps after it
  pub step_is : (by : Way) (number : ℕ) (check : ControlFlow) (binds : List ℕ) (next : StepTree Constraint)
      → steps_graph d by number (check_before check binds next)
      ≡ (check_node d number check ++ way_line d by number) ++ (behind_graph d number (number + 1) check
      ++ steps_graph d (way number ways.Else) (number + 1 + nodes_behind check) next)
  step_is by number (flows.Match source arms) binds next = refl
  step_is by number (flows.Equal a b body) binds next = refl
  step_is by number (flows.Loop result body) binds next = refl
  step_is by number (flows.Return rule pos result) binds next =
      let same : number + 1 ≡ number + 1 + 0 = omega arith in
      ap (λ (n : ℕ). (check_node d number (flows.Return rule pos result) ++ way_line d by number)
      ++ steps_graph d (way number ways.Else) n next) same

  -- one goes on to the first of arms: its steps are left, and the arms after it
  pub arm_drawn : (a : MatchArm) (from : ℕ) (arms rest : Arms) (given one two : List Branch) (text : String Global) (number : ℕ)
      → (shown_arms arms).arms ≡ arm_before a (shown_arms rest).arms → one ≡ given ++ branches.Arms from rest ∷ []
      → two ≡ one ++ branches.Steps (way from (ways.Test a.constraint)) a.body ∷ []
      → DrawsPiece d (branches.Arms from arms) given two text text number number
  arm_drawn a from arms rest given one two text number shown is_one is_two =
      let body = branches.Steps (way from (ways.Test a.constraint)) a.body in let after = branches.Arms from rest in
      let below : ℕ = branch_nodes body in let behind : ℕ = branch_nodes after in
      let was : branch_graph d number (branches.Arms from arms) ≡ branch_graph d number body ++ branch_graph d (number + below) after =
      ap (arms_graph d from number) shown in
      let count : branch_nodes (branches.Arms from arms) ≡ below + behind = ap arm_nodes shown in
      let far : (number + below) + behind ≡ number + branch_nodes (branches.Arms from arms) = omega (arith, count) in
      let all : left_graph d number two ≡ branch_graph d number (branches.Arms from arms) ++ left_graph d
      (number + branch_nodes (branches.Arms from arms)) given =
      ap (left_graph d number) is_two ∙ left_more number one body
      ∙ ap (λ (l : List ℕ). branch_graph d number body ++ l) (ap (left_graph d (number + below)) is_one ∙ left_more (number + below) given after)
      ∙ sym (append_assoc (branch_graph d number body) (branch_graph d (number + below) after) (left_graph d ((number + below) + behind) given))
      ∙ ap (λ (l : List ℕ). l ++ left_graph d ((number + below) + behind) given) (sym was)
      ∙ ap (λ (n : ℕ). branch_graph d number (branches.Arms from arms) ++ left_graph d n given) far in
      let pieces : left_pieces two ≡ step_pieces (shown_steps a.body).tree + (arm_pieces (shown_arms rest).arms + left_pieces given) =
      ap left_pieces is_two ∙ pieces_more one body ∙ ap (λ n. step_pieces (shown_steps a.body).tree + n)
      (ap left_pieces is_one ∙ pieces_more given after) in
      let held : arm_pieces (shown_arms arms).arms ≡ step_pieces (shown_steps a.body).tree + arm_pieces (shown_arms rest).arms + 1 =
      ap arm_pieces shown in
      record {
        text = ap (λ (l : List ℕ). string_bytes text ++ l) all;
        fewer = omega (arith, pieces, held);
      }

  module _ (by : Way) (number next : ℕ) (old new : String Global) (step : EvalStep) (steps rest : Steps) (given one : List Branch)
      (shown : (shown_steps steps).tree ≡ step_before step (shown_steps rest).tree) (one_more : next ≡ number + 1)
      (is_one : one ≡ given ++ branches.Steps (way number ways.Else) rest ∷ [])
      (written : string_bytes new ≡ string_bytes old ++ (check_node d number step.check ++ way_line d by number)) where
    -- the node of a step and the edge to it
    abbrev lines : List ℕ
    lines = check_node d number step.check ++ way_line d by number

    -- what is left of the steps
    abbrev after : Branch
    after = branches.Steps (way number ways.Else) rest

    abbrev whole : Branch
    whole = branches.Steps by steps

    was : lines ++ (behind_graph d number next step.check ++ branch_graph d (next + nodes_behind step.check) after) ≡ branch_graph d number whole
    was = ap (λ (k : ℕ). lines ++ (behind_graph d number k step.check ++ branch_graph d (k + nodes_behind step.check) after)) one_more
        ∙ sym (step_is by number step.check (numbers_of step.bind_order.now) (shown_steps rest).tree)
        ∙ ap (steps_graph d by number) (sym shown)

    rest_left : (k : ℕ) → left_graph d k one ≡ branch_graph d k after ++ left_graph d (k + branch_nodes after) given
    rest_left k = ap (left_graph d k) is_one ∙ left_more k given after

    count : branch_nodes whole ≡ 1 + (nodes_behind step.check + branch_nodes after)
    count = ap step_nodes shown ∙ step_counts step.check (numbers_of step.bind_order.now) (shown_steps rest).tree

    far : (next + nodes_behind step.check) + branch_nodes after ≡ number + branch_nodes whole
    far = let c = count in let n = one_more in omega (arith, c, n)

    held : branch_pieces whole ≡ pieces_behind step.check + branch_pieces after + 1
    held = ap step_pieces shown ∙ step_has step.check (numbers_of step.bind_order.now) (shown_steps rest).tree

    pieces : left_pieces one ≡ branch_pieces after + left_pieces given
    pieces = ap left_pieces is_one ∙ pieces_more given after

    drawn : (two : List Branch)
        → left_graph d next two ≡ behind_graph d number next step.check ++ left_graph d (next + nodes_behind step.check) one
        → left_pieces two ≡ pieces_behind step.check + left_pieces one → DrawsPiece d whole given two old new number next
    drawn two all more =
        let behind = behind_graph d number next step.check in
        let k : ℕ = next + nodes_behind step.check in
        let left = left_graph d (k + branch_nodes after) given in
        record {
          text = ap (λ (l : List ℕ). l ++ left_graph d next two) written
              ∙ ap (λ (l : List ℕ). (string_bytes old ++ lines) ++ l) (all ∙ ap (λ (l : List ℕ). behind ++ l) (rest_left k))
              ∙ line_first (string_bytes old) lines behind (branch_graph d k after) left
              ∙ ap (λ (l : List ℕ). string_bytes old ++ (l ++ left)) was
              ∙ ap (λ (n : ℕ). string_bytes old ++ (branch_graph d number whole ++ left_graph d n given)) far;
          fewer = let h = held in let p = pieces in omega (arith, more, h, p);
        }

    -- the first of steps is drawn, behind whose check something is left
    pub step_drawn : (two : List Branch) (behind : Option Branch) (branch : Branch) → behind ≡ Some branch → two ≡ one ++ branch ∷ []
        → option_map_or (branch_graph d next) behind [] ≡ behind_graph d number next step.check
        → option_map_or branch_nodes behind 0 ≡ nodes_behind step.check
        → option_map_or branch_pieces behind 0 ≡ pieces_behind step.check → DrawsPiece d whole given two old new number next
    step_drawn two behind branch is is_two graph nodes some =
        let counted : branch_nodes branch ≡ nodes_behind step.check = ap (λ (o : Option Branch). option_map_or branch_nodes o 0) (sym is) ∙ nodes in
        drawn two
        (ap (left_graph d next) is_two ∙ left_more next one branch
        ∙ ap (λ (l : List ℕ). l ++ left_graph d (next + branch_nodes branch) one)
        (ap (λ (o : Option Branch). option_map_or (branch_graph d next) o []) (sym is) ∙ graph)
        ∙ ap (λ (n : ℕ). behind_graph d number next step.check ++ left_graph d (next + n) one) counted)
        (ap left_pieces is_two ∙ pieces_more one branch
        ∙ ap (λ n. n + left_pieces one) (ap (λ (o : Option Branch). option_map_or branch_pieces o 0) (sym is) ∙ some))

    -- the first of steps is drawn, behind whose check nothing is left
    pub last_drawn : (behind : Option Branch) → behind ≡ None
        → option_map_or (branch_graph d next) behind [] ≡ behind_graph d number next step.check
        → option_map_or branch_nodes behind 0 ≡ nodes_behind step.check
        → option_map_or branch_pieces behind 0 ≡ pieces_behind step.check → DrawsPiece d whole given one old new number next
    last_drawn behind is graph nodes some =
        let counted : 0 ≡ nodes_behind step.check = ap (λ (o : Option Branch). option_map_or branch_nodes o 0) (sym is) ∙ nodes in
        let same : next ≡ next + nodes_behind step.check = omega (arith, counted) in
        drawn one
        (ap (λ (n : ℕ). left_graph d n one) same
        ∙ ap (λ (l : List ℕ). l ++ left_graph d (next + nodes_behind step.check) one)
        (ap (λ (o : Option Branch). option_map_or (branch_graph d next) o []) (sym is) ∙ graph))
        (let none : 0 ≡ pieces_behind step.check = ap (λ (o : Option Branch). option_map_or branch_pieces o 0) (sym is) ∙ some in omega (arith, none))

  -- a piece of the branch that was left last is drawn
  pub turned : (whole : List ℕ) (branch : Branch) (given old new : List Branch) (written rest : String Global) (number next : ℕ)
      → given ≡ old ++ branch ∷ [] → DrawsPiece d branch old new written rest number next
      → string_bytes written ++ left_graph d number given ≡ whole → string_bytes rest ++ left_graph d next new ≡ whole
  turned whole branch given old new written rest number next is draws so_far =
      draws.text ∙ ap (λ (l : List ℕ). string_bytes written ++ l) (sym (ap (left_graph d number) is ∙ left_more number old branch)) ∙ so_far

  pub turned_fewer : (branch : Branch) (given old new : List Branch) (written rest : String Global) (number next : ℕ)
      → given ≡ old ++ branch ∷ [] → DrawsPiece d branch old new written rest number next → left_pieces new < left_pieces given
  turned_fewer branch given old new written rest number next is draws =
      let more = ap left_pieces is ∙ pieces_more old branch in let few = draws.fewer in omega (arith, more, few)
