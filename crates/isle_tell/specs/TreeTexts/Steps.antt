-- What is printed of steps and arms, each line at its level.
use Rattle.std.specs.Prelude.{ℕ, ◌+◌, List, [], ◌++◌, Option, codes, slice_get}
use Rattle.std.specs.Fmt.{decimal}
use Rattle.std.specs.Option.{option_map_or}
use Rattle.isle_ast.specs.Positions.Files.{SourceFile}
use Rattle.isle_trees.specs.Tree.{Steps, Arms, done, «match», equal, loop, give, no_arm, arm}
use Rattle.isle_blocks.specs.declared.constraint.Constraint.{Constraint}
use Rattle.isle_blocks.specs.declared.rule.Rule.{Rule}
use Rattle.isle_program.specs.declared.program.Program.{Program}
use Rattle.isle_tell.specs.TreeTexts.Names.{fields_text, indent, numbers_text, pos_text}
use Rattle.isle_tell.specs.TreeTexts.Sites.{test_text}

-- the line of the sites that a step binds
abbrev pub bind_line : (level : ℕ) → List ℕ → List ℕ
bind_line level binds = indent level ++ (codes "step bind [" ++ (numbers_text binds ++ codes "]\n"))

-- the line of a match
abbrev pub match_line : (level : ℕ) → (source : ℕ) → List ℕ
match_line level source = indent level ++ (codes "match " ++ (decimal source ++ codes "\n"))

-- the line of a comparison
abbrev pub equal_line : (level a b : ℕ) → List ℕ
equal_line level a b = indent level ++ (codes "equal " ++ (decimal a ++ (codes " " ++ (decimal b ++ codes "\n"))))

-- the line of a loop
abbrev pub loop_line : (level value : ℕ) → List ℕ
loop_line level value = indent level ++ (codes "loop " ++ (decimal value ++ codes "\n"))

-- the result and the place of a rule
abbrev pub result_text : List SourceFile → Rule → List ℕ
result_text files rule = decimal rule.result.0 ++ (codes " from " ++ pos_text files rule.pos)

-- the line of a return, by the place of its rule
abbrev pub return_line : List SourceFile → List Rule → (level rule : ℕ) → List ℕ
return_line files rules level rule =
    indent level ++ (codes "return " ++ (option_map_or (result_text files) (slice_get rules rule) [] ++ codes "\n"))

-- the line of an arm: its test, and the sites of what passing it makes
abbrev pub arm_line : Program → (level : ℕ) → Constraint → List (Option ℕ) → List ℕ
arm_line program level test fields =
    indent level ++ (codes "arm " ++ (test_text program test ++ (codes " [" ++ (fields_text fields ++ codes "]\n"))))

abbrev mutual
  -- steps at a level: the line of what each binds, at the next level that of its check, and deeper what is behind that
  pub steps_text : Program → List SourceFile → List Rule → (level : ℕ) → Steps Constraint → List ℕ
  steps_text program files rules level done = []
  steps_text program files rules level («match» binds source arms next) = (bind_line level binds ++ match_line (level + 1) source)
      ++ (arms_text program files rules (level + 2) arms ++ steps_text program files rules level next)
  steps_text program files rules level (equal binds a b body next) = (bind_line level binds ++ equal_line (level + 1) a b)
      ++ (steps_text program files rules (level + 2) body ++ steps_text program files rules level next)
  steps_text program files rules level (loop binds value body next) = (bind_line level binds ++ loop_line (level + 1) value)
      ++ (steps_text program files rules (level + 2) body ++ steps_text program files rules level next)
  steps_text program files rules level (give binds rule next) =
      (bind_line level binds ++ return_line files rules (level + 1) rule) ++ steps_text program files rules level next

  -- arms at a level, each with its steps at the next
  pub arms_text : Program → List SourceFile → List Rule → (level : ℕ) → Arms Constraint → List ℕ
  arms_text program files rules level no_arm = []
  arms_text program files rules level (arm test fields body next) = arm_line program level test fields
      ++ (steps_text program files rules (level + 1) body ++ arms_text program files rules level next)
