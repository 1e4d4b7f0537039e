-- Where reading a whole rule comes to a node of some kind; ill-typed and too large rules.
use Rattle.std.specs.Prelude.{◌≡◌, ◌≢◌, ◌⊎◌, ℕ, zero, suc, true, List, [], ◌∷◌, length, None, Some, slice_get}
use Rattle.isle_ast.specs.declared.ast.Ident.{Ident}
use Rattle.isle_ast.specs.declared.ast.IfLet.{IfLet}
use Rattle.isle_ast.specs.declared.ast.Rule.{Rule}
use Rattle.isle_ast.specs.declared.pos.Pos.{Pos}
use Rattle.isle_ast.specs.Trees.PatternTree.{PatternTrees, pattern_term, pattern_pos}
use Rattle.isle_ast.specs.Trees.PatternShape.{pattern_of}
use Rattle.isle_ast.specs.Trees.ExprShape.{expr_of}
use Rattle.isle_rules.specs.TypedRules.{TypedPattern, TypedPatterns, TypedExpr, TypedIfLet, built_at}
use Rattle.isle_rules.specs.Signatures.{Flags, by_rules, declared_form, Signature, Declared, term_named}
use Rattle.isle_rules.specs.Elaboration.{State, start, counted, pattern_count, EachPattern, Elaborates, on_lhs, Builds, Conditions}
use Rattle.isle_terms.specs.Reaching.{PatternKind, ExprKind, SomePattern, ReachesPattern, ReachesExpr, IsTooLarge}
use Rattle.isle_terms.specs.IllTyped.{IsIllPattern, IsIllExpr}

-- a rule's parts and its term: a declared one with rules, with so many arguments
pub record HasRoot (declared : Declared) (tree : Rule) (term : Signature) (flags : Flags) (args : PatternTrees) : Type 0 where
  pub sym : Ident
  pub at : Pos
  pub number : ℕ
  pub shape : pattern_of tree.pattern ≡ pattern_term sym args at
  pub root : term_named declared sym.0 ≡ Some number
  pub known : slice_get declared.terms number ≡ Some term
  pub ruled : (extractor : _) × (term.form ≡ declared_form flags (Some by_rules) extractor)

-- one of some conditions is come to a node in: in its expression, or in its pattern
abbrev pub SomeCondition : Declared → Flags → (caller : PatternKind) → ExprKind → ℕ → List IfLet → State → Type 0
SomeCondition declared caller KP KE levels [] s = ⊥
SomeCondition declared caller KP KE levels (first ∷ others) s =
    ReachesExpr declared caller KE levels (expr_of first.expr) None s
    ⊎ ((value : TypedExpr) × (m : State) × Builds declared caller levels (expr_of first.expr) None s value m
    × (ReachesPattern declared KP levels (pattern_of first.pattern) (built_at value) m
    ⊎ ((pattern : TypedPattern) × (n : State) × Elaborates declared levels (pattern_of first.pattern) (built_at value) m pattern n
    × SomeCondition declared caller KP KE levels others n)))

-- a node of some kind is come to in a rule; in a condition and on the right side its kind may depend on what calls there
pub data ReachesInRule (declared : Declared) (KP : PatternKind) (KE : Flags → ExprKind) (levels : ℕ) (tree : Rule) : Type 0 where
  in_argument : (term : Signature) (flags : Flags) (args : PatternTrees) → HasRoot declared tree term flags args
      → SomePattern (Elaborates declared levels) (ReachesPattern declared KP levels) args term.args start → ReachesInRule declared KP KE levels tree
  in_condition : (term : Signature) (flags : Flags) (args : PatternTrees) (typed : TypedPatterns) (matched : State)
      → HasRoot declared tree term flags args
      → EachPattern (Elaborates declared levels) args term.args start typed matched
      → SomeCondition declared (on_lhs flags) KP (KE (on_lhs flags)) levels tree.iflets matched → ReachesInRule declared KP KE levels tree
  in_right : (term : Signature) (flags : Flags) (args : PatternTrees) (typed : TypedPatterns) (matched : State) (iflets : List TypedIfLet)
      (met : State)
      → HasRoot declared tree term flags args
      → EachPattern (Elaborates declared levels) args term.args start typed matched
      → Conditions declared (on_lhs flags) levels tree.iflets matched iflets met
      → ReachesExpr declared flags (KE flags) levels (expr_of tree.expr) (Some term.ret) met → ReachesInRule declared KP KE levels tree

-- a pattern's node is ill typed at a position
abbrev pub IllPatternAt : Declared → Pos → PatternKind
IllPatternAt declared at zero t ty s = ⊥
IllPatternAt declared at (suc levels) t ty s = IsIllPattern declared (Elaborates declared levels) at t ty (counted s)

-- an expression's node is ill typed at a position
abbrev pub IllExprAt : Declared → Pos → Flags → ExprKind
IllExprAt declared at caller zero e want s = ⊥
IllExprAt declared at caller (suc levels) e want s = IsIllExpr declared caller (Builds declared caller levels) at e want (counted s)

-- a rule whose root is well is ill typed at a position
pub data IsIllRule (declared : Declared) (levels : ℕ) (tree : Rule) : Pos → Type 0 where
  other_number_of_arguments : (term : Signature) (flags : Flags) (args : PatternTrees) → HasRoot declared tree term flags args
      → pattern_count args ≢ length term.args → IsIllRule declared levels tree (pattern_pos (pattern_of tree.pattern))
  priority_of_multi : (term : Signature) (flags : Flags) (args : PatternTrees) → HasRoot declared tree term flags args
      → flags.multi ≡ true → tree.prio ≢ None → IsIllRule declared levels tree tree.pos
  ill_node : (at : Pos) → ReachesInRule declared (IllPatternAt declared at) (IllExprAt declared at) levels tree → IsIllRule declared levels tree at

-- a rule has a node too deep, or one too many, and all before it is well typed
abbrev pub IsLargeRule : Declared → (levels max : ℕ) → Rule → Type 0
IsLargeRule declared levels max tree =
    ReachesInRule declared (λ left t ty s. IsTooLarge max left s) (λ caller left e want s. IsTooLarge max left s) levels tree
