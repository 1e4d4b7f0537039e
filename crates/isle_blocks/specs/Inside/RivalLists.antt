-- How the faults between rules of all terms are listed.
use Rattle.std.specs.Prelude.{◌≡◌, ℕ, Bool, true, false, List, [], ◌∷◌, ◌++◌, map, slice_get}
use Rattle.std.specs.Option.{option_map_or}
use Rattle.isle_types.specs.declared.ids.TermId.{TermId}
use Rattle.isle_rules.specs.declared.rules.Rule as source
use Rattle.isle_blocks.specs.declared.faults.Fault.{Fault}
use Rattle.isle_blocks.specs.declared.report.RulePlace.{RulePlace}
use Rattle.isle_blocks.specs.declared.rule.Rule.{Rule}
use Rattle.isle_blocks.specs.FaultsBetween.{FaultAt, ListsPairs}
use Rattle.isle_blocks.specs.RuleSets.{RulesOverSites}

-- how faults name a rule
abbrev pub place_of : source.Rule → RulePlace
place_of rule = record { pos = rule.pos; id = rule.id }

-- the number of the rule at a place of a rule set
abbrev pub number_at : List Rule → ℕ → ℕ
number_at rules i = option_map_or (λ (rule : Rule). rule.id.0) (slice_get rules i) 0

-- a pair of places, as numbers of rules
abbrev pub numbered : List Rule → ℕ × ℕ → ℕ × ℕ
numbered rules pair = (number_at rules pair.0, number_at rules pair.1)

-- the pairs of a fault behind others, by the rules' numbers
pub record AddsPairs (rules : List Rule) (fault : Fault) (old new : List (ℕ × ℕ)) : Type 0 where
  pub pairs : List (ℕ × ℕ)
  pub listed : ListsPairs (FaultAt rules fault) pairs
  pub added : new ≡ old ++ map (numbered rules) pairs

-- the pairs of a fault in the rule sets of all terms that give one answer, by the rules' numbers
pub data ListsFaults (multi : ℕ → Bool) (fault : Fault) : List (TermId × RulesOverSites) → List (ℕ × ℕ) → Type 0 where
  no_set_listed : ListsFaults multi fault [] []
  passed_over : {sets : List (TermId × RulesOverSites)} {pairs : List (ℕ × ℕ)} (pair : TermId × RulesOverSites)
      → ListsFaults multi fault sets pairs → multi pair.0.0 ≡ true → ListsFaults multi fault (sets ++ pair ∷ []) pairs
  one_set_listed : {sets : List (TermId × RulesOverSites)} {old : List (ℕ × ℕ)} (new : List (ℕ × ℕ)) (pair : TermId × RulesOverSites)
      → ListsFaults multi fault sets old → multi pair.0.0 ≡ false → AddsPairs pair.1.rules fault old new
      → ListsFaults multi fault (sets ++ pair ∷ []) new
