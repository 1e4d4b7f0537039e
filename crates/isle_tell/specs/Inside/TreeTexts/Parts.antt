-- What is still to be printed of a tree, and what stands between two sites of a list.
use Rattle.std.specs.Prelude.{◌≡◌, ◌<◌, ◌+◌, ℕ, List, [], ◌∷◌, ◌++◌, Option, String, codes, string_bytes}
use Rattle.std.specs.Fmt.{decimal}
use Rattle.std.specs.Option.{option_map}
use Rattle.std.specs.Global.{Global}
use Rattle.isle_ast.specs.Positions.Files.{SourceFile}
use Rattle.isle_trees.specs.Tree.{Steps, Arms, done, «match», equal, loop, give, no_arm, arm}
use Rattle.isle_blocks.specs.declared.constraint.Constraint.{Constraint}
use Rattle.isle_blocks.specs.declared.ids.BindingId.{BindingId}
use Rattle.isle_blocks.specs.declared.rule.Rule.{Rule}
use Rattle.isle_blocks.specs.declared.serializer.views.ControlFlow.{ControlFlow}
use Rattle.isle_blocks.specs.declared.serializer.views.ControlFlow.TheVariants as flows
use Rattle.isle_blocks.specs.Trees.Views.{shown_steps, shown_arms}
use Rattle.isle_program.specs.declared.program.Program.{Program}
use Rattle.isle_tell.specs.declared.trees.steps.Part.{Part}
use Rattle.isle_tell.specs.declared.trees.steps.Part.TheVariants as parts
use Rattle.isle_tell.specs.TreeTexts.Names.{field_text}
use Rattle.isle_tell.specs.TreeTexts.Steps.{arms_text, equal_line, loop_line, match_line, return_line, steps_text}

-- the number of a site behind a space
abbrev pub behind_space : BindingId → List ℕ
behind_space id = codes " " ++ decimal id.0

-- a field of an arm
abbrev pub field_shown : Option BindingId → List ℕ
field_shown field = field_text (option_map (λ (id : BindingId). id.0) field)

-- a field behind a space
abbrev pub field_behind_space : Option BindingId → List ℕ
field_behind_space field = codes " " ++ field_shown field

-- the line of a check
abbrev pub check_line : List SourceFile → List Rule → (level : ℕ) → ControlFlow → List ℕ
check_line files rules level (flows.Match source arms) = match_line level source.0
check_line files rules level (flows.Equal a b body) = equal_line level a.0 b.0
check_line files rules level (flows.Loop result body) = loop_line level result.0
check_line files rules level (flows.Return rule pos result) = return_line files rules level rule

-- what is printed behind a check
abbrev pub behind_text : Program → List SourceFile → List Rule → (level : ℕ) → ControlFlow → List ℕ
behind_text program files rules level (flows.Match source arms) = arms_text program files rules level (shown_arms arms).arms
behind_text program files rules level (flows.Equal a b body) = steps_text program files rules level (shown_steps body).tree
behind_text program files rules level (flows.Loop result body) = steps_text program files rules level (shown_steps body).tree
behind_text program files rules level (flows.Return rule pos result) = []

-- what is printed of a part
abbrev pub part_text : Program → List SourceFile → List Rule → Part → List ℕ
part_text program files rules (parts.Steps level steps) = steps_text program files rules level (shown_steps steps).tree
part_text program files rules (parts.Arms level arms) = arms_text program files rules level (shown_arms arms).arms

-- what is printed of parts, the last one first
abbrev pub left_text : Program → List SourceFile → List Rule → List Part → List ℕ
left_text program files rules [] = []
left_text program files rules (part ∷ others) = left_text program files rules others ++ part_text program files rules part

abbrev mutual
  -- how many pieces steps have, with the end of each list
  pub step_pieces : Steps Constraint → ℕ
  step_pieces done = 1
  step_pieces («match» binds source arms next) = arm_pieces arms + step_pieces next + 1
  step_pieces (equal binds a b body next) = step_pieces body + step_pieces next + 1
  step_pieces (loop binds value body next) = step_pieces body + step_pieces next + 1
  step_pieces (give binds rule next) = step_pieces next + 1

  pub arm_pieces : Arms Constraint → ℕ
  arm_pieces no_arm = 1
  arm_pieces (arm test fields body next) = step_pieces body + arm_pieces next + 1

-- how many pieces a part has
abbrev pub part_pieces : Part → ℕ
part_pieces (parts.Steps level steps) = step_pieces (shown_steps steps).tree
part_pieces (parts.Arms level arms) = arm_pieces (shown_arms arms).arms

-- how many pieces are behind a check
abbrev pub pieces_behind : ControlFlow → ℕ
pieces_behind (flows.Match source arms) = arm_pieces (shown_arms arms).arms
pieces_behind (flows.Equal a b body) = step_pieces (shown_steps body).tree
pieces_behind (flows.Loop result body) = step_pieces (shown_steps body).tree
pieces_behind (flows.Return rule pos result) = 0

-- how many pieces are left
abbrev pub pieces_left : List Part → ℕ
pieces_left [] = 0
pieces_left (part ∷ others) = part_pieces part + pieces_left others

-- A piece of a part is printed: what is printed and what is left are together what they were, and less is left.
pub record PrintsPiece (program : Program) (files : List SourceFile) (rules : List Rule) (part : Part) (old new : List Part)
    (written rest : String Global)
    : Type 0 where
  pub text : string_bytes rest ++ left_text program files rules new
      ≡ string_bytes written ++ (part_text program files rules part ++ left_text program files rules old)
  pub fewer : pieces_left new < part_pieces part + pieces_left old
