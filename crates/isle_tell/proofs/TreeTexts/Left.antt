-- What is printed of what is left of a tree.
use Rattle.std.proofs.Common.{◌≡◌, ◌<◌, ◌+◌, ◌++◌, ◌∙◌, ◌∷◌, [], ℕ, List, Option, Some, None, String, refl, sym, ap, arith, append_assoc}
use Rattle.std.specs.Global.{Global}
use Rattle.std.specs.Prelude.{string_bytes}
use Rattle.std.proofs.lemmas.List.{append-nil}
use Rattle.std.specs.Option.{option_map_or}
use Rattle.isle_ast.specs.Positions.Files.{SourceFile}
use Rattle.isle_trees.specs.Tree.{Steps as StepTree}
use Rattle.isle_blocks.specs.declared.constraint.Constraint.{Constraint}
use Rattle.isle_blocks.specs.declared.rule.Rule.{Rule}
use Rattle.isle_blocks.specs.declared.serializer.views.ControlFlow.{ControlFlow}
use Rattle.isle_blocks.specs.declared.serializer.views.ControlFlow.TheVariants as flows
use Rattle.isle_blocks.specs.declared.serializer.views.Arms.{Arms}
use Rattle.isle_blocks.specs.declared.serializer.views.EvalStep.{EvalStep}
use Rattle.isle_blocks.specs.declared.serializer.views.MatchArm.{MatchArm}
use Rattle.isle_blocks.specs.declared.serializer.views.Steps.{Steps}
use Rattle.isle_blocks.specs.Rows.{numbers_of}
use Rattle.isle_blocks.specs.Trees.Nodes.{fields_of}
use Rattle.isle_blocks.specs.Trees.Views.{arm_before, check_before, shown_arms, shown_steps, step_before}
use Rattle.isle_program.specs.declared.program.Program.{Program}
use Rattle.isle_tell.specs.declared.trees.steps.Part.{Part}
use Rattle.isle_tell.specs.declared.trees.steps.Part.TheVariants as parts
use Rattle.isle_tell.specs.Inside.TreeTexts.Parts.{PrintsPiece, arm_pieces, behind_text, check_line, left_text, part_pieces, part_text, pieces_behind, pieces_left, step_pieces}
use Rattle.isle_tell.specs.TreeTexts.Steps.{arm_line, arms_text, bind_line, steps_text}

module _ (program : Program) (files : List SourceFile) (rules : List Rule) where
  -- the part that was left last is printed first
  pub left_more : (parts : List Part) (part : Part) → left_text program files rules (parts ++ part ∷ []) ≡ part_text program files rules part
      ++ left_text program files rules parts
  left_more [] part = sym (append-nil (part_text program files rules part))
  left_more (first ∷ parts) part = ap (λ l. l ++ part_text program files rules first) (left_more parts part)
      ∙ append_assoc (part_text program files rules part) (left_text program files rules parts) (part_text program files rules first)

  -- the lines of a step, what is behind its check, and the steps after it
  pub step_is : (level : ℕ) (check : ControlFlow) (binds : List ℕ) (next : StepTree Constraint)
      → steps_text program files rules level (check_before check binds next)
      ≡ (bind_line level binds ++ check_line files rules (level + 1) check)
      ++ (behind_text program files rules (level + 2) check ++ steps_text program files rules level next)
  step_is level (flows.Match source arms) binds next = refl
  step_is level (flows.Equal a b body) binds next = refl
  step_is level (flows.Loop result body) binds next = refl
  step_is level (flows.Return rule pos result) binds next = refl

-- one more part
pub pieces_more : (parts : List Part) (part : Part) → pieces_left (parts ++ part ∷ []) ≡ part_pieces part + pieces_left parts
pieces_more [] part = refl
pieces_more (first ∷ parts) part = ap (λ n. part_pieces first + n) (pieces_more parts part) ∙ omega arith

-- a step has a piece more than what is behind its check and the steps after it
pub step_has : (check : ControlFlow) (binds : List ℕ) (next : StepTree Constraint)
    → step_pieces (check_before check binds next) ≡ pieces_behind check + step_pieces next + 1
step_has (flows.Match source arms) binds next = refl
step_has (flows.Equal a b body) binds next = refl
step_has (flows.Loop result body) binds next = refl
step_has (flows.Return rule pos result) binds next = omega arith

-- a line, what is behind it and what comes after, before what else is left
pub line_first : (old line behind rest left : List ℕ) → (old ++ line) ++ (behind ++ (rest ++ left)) ≡ old ++ ((line ++ (behind ++ rest)) ++ left)
line_first old line behind rest left =
    append_assoc old line (behind ++ (rest ++ left))
    ∙ ap (λ l. old ++ l) (ap (λ l. line ++ l) (sym (append_assoc behind rest left)) ∙ sym (append_assoc line (behind ++ rest) left))

module _ (program : Program) (files : List SourceFile) (rules : List Rule) (level below : ℕ) (old new : String Global) where
  -- the first of arms is printed: its steps are left, and the arms after it
  pub arm_printed : (a : MatchArm) (arms rest : Arms) (given one two : List Part) → (shown_arms arms).arms ≡ arm_before a (shown_arms rest).arms
      → below ≡ level + 1 → one ≡ given ++ parts.Arms level rest ∷ [] → two ≡ one ++ parts.Steps below a.body ∷ []
      → string_bytes new ≡ string_bytes old ++ arm_line program level a.constraint (fields_of a.bindings.now)
      → PrintsPiece program files rules (parts.Arms level arms) given two old new
  arm_printed a arms rest given one two shown deeper is_one is_two written =
      let line = arm_line program level a.constraint (fields_of a.bindings.now) in
      let body = parts.Steps below a.body in let after = parts.Arms level rest in
      let behind = part_text program files rules body in let more = part_text program files rules after in
      let left = left_text program files rules given in
      let all : left_text program files rules two ≡ behind ++ (more ++ left) =
      ap (left_text program files rules) is_two ∙ left_more program files rules one body
      ∙ ap (λ l. behind ++ l) (ap (left_text program files rules) is_one ∙ left_more program files rules given after) in
      let was : line ++ (behind ++ more) ≡ part_text program files rules (parts.Arms level arms) =
      ap (λ (k : ℕ). line ++ (steps_text program files rules k (shown_steps a.body).tree ++ more)) deeper
      ∙ ap (arms_text program files rules level) (sym shown) in
      let count : pieces_left two ≡ step_pieces (shown_steps a.body).tree + (arm_pieces (shown_arms rest).arms + pieces_left given) =
      ap pieces_left is_two ∙ pieces_more one body ∙ ap (λ n. step_pieces (shown_steps a.body).tree + n)
      (ap pieces_left is_one ∙ pieces_more given after) in
      let held : arm_pieces (shown_arms arms).arms ≡ step_pieces (shown_steps a.body).tree + arm_pieces (shown_arms rest).arms + 1 =
      ap arm_pieces shown in
      record {
        text = ap (λ l. l ++ left_text program files rules two) written ∙ ap (λ l. (string_bytes old ++ line) ++ l) all
            ∙ line_first (string_bytes old) line behind more left ∙ ap (λ l. string_bytes old ++ (l ++ left)) was;
        fewer = omega (arith, count, held);
      }

  module _ (step : EvalStep) (steps rest : Steps) (given one : List Part)
      (shown : (shown_steps steps).tree ≡ step_before step (shown_steps rest).tree)
      (deeper : below ≡ level + 2) (is_one : one ≡ given ++ parts.Steps level rest ∷ [])
      (written : string_bytes new ≡ string_bytes old ++ (bind_line level (numbers_of step.bind_order.now) ++ check_line files rules
      (level + 1) step.check)) where
    -- the two lines of a step
    abbrev lines : List ℕ
    lines = bind_line level (numbers_of step.bind_order.now) ++ check_line files rules (level + 1) step.check

    -- what is left of the steps
    abbrev after : Part
    after = parts.Steps level rest

    was : lines ++ (behind_text program files rules below step.check ++ part_text program files rules after)
        ≡ part_text program files rules (parts.Steps level steps)
    was = ap (λ (k : ℕ). lines ++ (behind_text program files rules k step.check ++ part_text program files rules after)) deeper
        ∙ sym (step_is program files rules level step.check (numbers_of step.bind_order.now) (shown_steps rest).tree)
        ∙ ap (steps_text program files rules level) (sym shown)

    rest_left : left_text program files rules one ≡ part_text program files rules after ++ left_text program files rules given
    rest_left = ap (left_text program files rules) is_one ∙ left_more program files rules given after

    held : step_pieces (shown_steps steps).tree ≡ pieces_behind step.check + step_pieces (shown_steps rest).tree + 1
    held = ap step_pieces shown ∙ step_has step.check (numbers_of step.bind_order.now) (shown_steps rest).tree

    count : pieces_left one ≡ step_pieces (shown_steps rest).tree + pieces_left given
    count = ap pieces_left is_one ∙ pieces_more given after

    printed : (two : List Part) → left_text program files rules two ≡ behind_text program files rules below step.check
        ++ left_text program files rules one
        → pieces_left two ≡ pieces_behind step.check + pieces_left one → PrintsPiece program files rules (parts.Steps level steps) given two old new
    printed two all more =
        let behind = behind_text program files rules below step.check in
        let left = left_text program files rules given in
        record {
          text = ap (λ l. l ++ left_text program files rules two) written
              ∙ ap (λ l. (string_bytes old ++ lines) ++ l) (all ∙ ap (λ l. behind ++ l) rest_left)
              ∙ line_first (string_bytes old) lines behind (part_text program files rules after) left ∙ ap (λ l. string_bytes old ++ (l ++ left)) was;
          fewer = let h = held in let k = count in omega (arith, more, h, k);
        }

    -- the first of steps is printed, behind whose check something is left
    pub step_printed : (two : List Part) (behind : Option Part) (part : Part) → behind ≡ Some part → two ≡ one ++ part ∷ []
        → option_map_or (part_text program files rules) behind [] ≡ behind_text program files rules below step.check
        → option_map_or part_pieces behind 0 ≡ pieces_behind step.check → PrintsPiece program files rules (parts.Steps level steps) given two old new
    step_printed two behind part is is_two text pieces =
        printed two
        (ap (left_text program files rules) is_two ∙ left_more program files rules one part
        ∙ ap (λ l. l ++ left_text program files rules one) (ap (λ (o : Option Part). option_map_or (part_text program files rules) o [])
        (sym is) ∙ text))
        (ap pieces_left is_two ∙ pieces_more one part
        ∙ ap (λ n. n + pieces_left one) (ap (λ (o : Option Part). option_map_or part_pieces o 0) (sym is) ∙ pieces))

    -- the first of steps is printed, behind whose check nothing is left
    pub last_printed : (behind : Option Part) → behind ≡ None
        → option_map_or (part_text program files rules) behind [] ≡ behind_text program files rules below step.check
        → option_map_or part_pieces behind 0 ≡ pieces_behind step.check → PrintsPiece program files rules (parts.Steps level steps) given one old new
    last_printed behind is text pieces =
        printed one
        (ap (λ l. l ++ left_text program files rules one) (ap (λ (o : Option Part). option_map_or (part_text program files rules) o [])
        (sym is) ∙ text))
        (let none : 0 ≡ pieces_behind step.check = ap (λ (o : Option Part). option_map_or part_pieces o 0) (sym is) ∙ pieces in omega (arith, none))

-- a piece of the part that was left last is printed
pub turned : (program : Program) (files : List SourceFile) (rules : List Rule) (whole : List ℕ) (part : Part)
    (given old new : List Part) (written rest : String Global)
    → given ≡ old ++ part ∷ [] → PrintsPiece program files rules part old new written rest
    → string_bytes written ++ left_text program files rules given ≡ whole
    → string_bytes rest ++ left_text program files rules new ≡ whole
turned program files rules whole part given old new written rest is prints so_far =
    prints.text ∙ ap (λ l. string_bytes written ++ l) (sym (ap (left_text program files rules) is ∙ left_more program files rules old part)) ∙ so_far

pub turned_fewer : (program : Program) (files : List SourceFile) (rules : List Rule) (part : Part) (given old new : List Part)
    (written rest : String Global)
    → given ≡ old ++ part ∷ [] → PrintsPiece program files rules part old new written rest → pieces_left new < pieces_left given
turned_fewer program files rules part given old new written rest is prints =
    let more = ap pieces_left is ∙ pieces_more old part in let few = prints.fewer in omega (arith, more, few)
