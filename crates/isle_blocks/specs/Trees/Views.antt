-- Steps and arms of blocks: what they show, and what a step and an arm put before the rest.
use Rattle.std.specs.Prelude.{◌≡◌, ℕ, ◌+◌, List, Contains, Option, None, Some}
use Rattle.isle_trees.specs.Tree.{Steps as StepTree, done, «match», equal, loop, give, Arms as ArmTree, no_arm, arm}
use Rattle.isle_blocks.specs.declared.constraint.Constraint.{Constraint}
use Rattle.isle_blocks.specs.declared.serializer.views.Steps.{Steps}
use Rattle.isle_blocks.specs.declared.serializer.views.Arms.{Arms}
use Rattle.isle_blocks.specs.declared.serializer.views.EvalStep.{EvalStep}
use Rattle.isle_blocks.specs.declared.serializer.views.MatchArm.{MatchArm}
use Rattle.isle_blocks.specs.declared.serializer.views.ControlFlow.{ControlFlow}
use Rattle.isle_blocks.specs.declared.serializer.views.ControlFlow.TheVariants as flows
use Rattle.isle_blocks.specs.Rows.{numbers_of}
use Rattle.isle_blocks.specs.Trees.Nodes.{fields_of}
use Rattle.isle_blocks.specs.Trees.Shown.{Returned, BlockShown, ArmsShown}
use Rattle.isle_blocks.specs.Trees.Places.{steps_at, arms_at}

-- the tree that steps are, and the returns of their block
unfoldable pub shown_steps : Steps → BlockShown
shown_steps s = steps_at s.place

-- the arms of a tree that arms are, and the returns of their block
unfoldable pub shown_arms : Arms → ArmsShown
shown_arms s = arms_at s.place

-- a check, behind the sites that are bound first, before the next steps
abbrev pub check_before : ControlFlow → List ℕ → StepTree Constraint → StepTree Constraint
check_before (flows.Match source arms) binds next = «match» binds source.0 (shown_arms arms).arms next
check_before (flows.Equal a b body) binds next = equal binds a.0 b.0 (shown_steps body).tree next
check_before (flows.Loop result body) binds next = loop binds result.0 (shown_steps body).tree next
check_before (flows.Return rule pos result) binds next = give binds rule next

-- a step before the next steps
abbrev pub step_before : EvalStep → StepTree Constraint → StepTree Constraint
step_before step next = check_before step.check (numbers_of step.bind_order.now) next

-- an arm before the next arms
abbrev pub arm_before : MatchArm → ArmTree Constraint → ArmTree Constraint
arm_before a next = arm a.constraint (fields_of a.bindings.now) (shown_steps a.body).tree next

-- what is behind a check is in a block with these returns
abbrev pub HasPartsOf : List Returned → ControlFlow → Type 0
HasPartsOf returns (flows.Match source arms) = (shown_arms arms).returns ≡ returns
HasPartsOf returns (flows.Equal a b body) = (shown_steps body).returns ≡ returns
HasPartsOf returns (flows.Loop result body) = (shown_steps body).returns ≡ returns
HasPartsOf returns (flows.Return rule pos result) = Unit {0}

-- a check that returns is one of these returns
abbrev pub ReturnsOneOf : List Returned → ControlFlow → Type 0
ReturnsOneOf returns (flows.Match source arms) = Unit {0}
ReturnsOneOf returns (flows.Equal a b body) = Unit {0}
ReturnsOneOf returns (flows.Loop result body) = Unit {0}
ReturnsOneOf returns (flows.Return rule pos result) = Contains returns (record { rule = rule; pos = pos; result = result.0 })

-- how many steps stand one after another
abbrev pub step_count : StepTree Constraint → ℕ
step_count done = 0
step_count («match» binds source arms next) = step_count next + 1
step_count (equal binds a b body next) = step_count next + 1
step_count (loop binds value body next) = step_count next + 1
step_count (give binds rule next) = step_count next + 1

-- how many arms stand one after another
abbrev pub arm_count : ArmTree Constraint → ℕ
arm_count no_arm = 0
arm_count (arm test bindings body next) = arm_count next + 1

-- an iterator gives the first step and goes on with those after it, or it has none and stays as it was
abbrev pub GivesStep : Steps → Option EvalStep → Steps → Type 0
GivesStep old None new = ((shown_steps old).tree ≡ done) × (shown_steps new ≡ shown_steps old)
GivesStep old (Some step) new = record {
  first : (shown_steps old).tree ≡ step_before step (shown_steps new).tree;
  rest : (shown_steps new).returns ≡ (shown_steps old).returns;
  parts : HasPartsOf (shown_steps old).returns step.check;
  returned : ReturnsOneOf (shown_steps old).returns step.check;
}

-- the same of arms
abbrev pub GivesArm : Arms → Option MatchArm → Arms → Type 0
GivesArm old None new = ((shown_arms old).arms ≡ no_arm) × (shown_arms new ≡ shown_arms old)
GivesArm old (Some a) new = record {
  first : (shown_arms old).arms ≡ arm_before a (shown_arms new).arms;
  rest : (shown_arms new).returns ≡ (shown_arms old).returns;
  body : (shown_steps a.body).returns ≡ (shown_arms old).returns;
}
