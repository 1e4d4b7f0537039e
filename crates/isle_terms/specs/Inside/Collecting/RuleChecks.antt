-- What the typing of all rules does.
use Rattle.std.specs.Prelude.{◌≡◌, ℕ, List}
use Rattle.std.specs.List.{AllZip}
use Rattle.isle_ast.specs.declared.ast.Rule.{Rule as RuleTree}
use Rattle.isle_ast.specs.declared.pos.Pos.{Pos}
use Rattle.isle_ast.specs.Trees.PatternTree.{PatternTrees}
use Rattle.isle_types.specs.TypeEnvs.{CountUp}
use Rattle.isle_rules.specs.declared.rules.Rule.{Rule}
use Rattle.isle_rules.specs.TypedRules.{TypedRule}
use Rattle.isle_rules.specs.Signatures.{Flags, Signature, Declared}
use Rattle.isle_rules.specs.Elaboration.{ElaboratesRule}
use Rattle.isle_terms.specs.RuleReaching.{HasRoot, IsIllRule, IsLargeRule}
use Rattle.isle_rules.specs.Definitions.{IsAmong}
use Rattle.isle_rules.specs.Shown.RulesShown.{IsShownRule}

-- a rule is too large, at its position
abbrev pub IsLargeAt : Declared → (levels max : ℕ) → RuleTree → Pos → Type 0
IsLargeAt declared levels max tree at = (at ≡ tree.pos) × IsLargeRule declared levels max tree

-- the root of a rule is a declared term with rules
pub record HasSomeRoot (declared : Declared) (tree : RuleTree) : Type 0 where
  pub term : Signature
  pub flags : Flags
  pub args : PatternTrees
  pub root : HasRoot declared tree term flags args

-- one of some rules is ill typed at a position
abbrev pub IsIllAmong : Declared → (levels : ℕ) → List RuleTree → Pos → Type 0
IsIllAmong declared levels trees at = (tree : RuleTree) × IsAmong trees tree × IsIllRule declared levels tree at

-- one of some rules is too large, at its position
abbrev pub IsLargeAmong : Declared → (levels max : ℕ) → List RuleTree → Pos → Type 0
IsLargeAmong declared levels max trees at = (tree : RuleTree) × IsAmong trees tree × IsLargeAt declared levels max tree at

-- rules stand for typed ones, which these show; their ids are their places
pub record AreTyped (declared : Declared) (levels max : ℕ) (trees : List RuleTree) (names : List (List ℕ)) (made : List Rule) : Type 0 where
  pub typed : List TypedRule
  pub stand : AllZip (ElaboratesRule declared levels max) trees typed
  pub shown : AllZip (IsShownRule names) typed made
  pub numbers : CountUp (λ (rule : Rule). rule.id.0) 0 made
