-- Whether a rule of a set matches what its sites hold.
use Rattle.std.specs.Prelude.{◌&&◌, ℕ, Bool, true, List, [], ◌∷◌, slice_get}
use Rattle.std.specs.List.{list_all}
use Rattle.isle_types.specs.declared.ids.Sym.{Sym}
use Rattle.isle_meaning.specs.Held.{Held}
use Rattle.isle_blocks.specs.declared.ids.BindingId.{BindingId}
use Rattle.isle_blocks.specs.declared.constraint.Constraint.{Constraint}
use Rattle.isle_blocks.specs.declared.rule.Rule.{Rule}
use Rattle.isle_blocks.specs.RuleSets.{RulesOverSites}
use Rattle.isle_blocks.specs.Trees.View.{read_or, rules_of}
use Rattle.isle_trees.specs.Answers.{Answers, has_value}
use Rattle.isle_trees.specs.Rules.{Rules, passes_got, alike_got}

module _ (R : Rules Constraint Held) (v : Answers Held) where
  -- the sites of a class hold one value
  abbrev pub are_alike : List BindingId → Bool
  are_alike [] = true
  are_alike (x ∷ xs) = list_all (λ (y : BindingId). alike_got R (v x.0) (v y.0)) xs

  -- each test passes, each multi call has a list, and the sites of each class hold one value
  abbrev pub rule_matches : Rule → Bool
  rule_matches rule =
      list_all (λ (test : BindingId × Constraint). passes_got R test.1 (v test.0.0)) rule.constraints
      && (list_all (λ (id : BindingId). has_value (v id.0)) rule.iterators && list_all are_alike rule.equals)

-- the rule at a place of a set matches
abbrev pub matches_here : (Sym → List ℕ) → RulesOverSites → Answers Held → ℕ → Bool
matches_here name set v i = read_or true (rule_matches (rules_of name set) v) (slice_get set.rules i)
