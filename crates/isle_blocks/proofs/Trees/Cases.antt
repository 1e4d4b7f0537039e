-- Worked cases: answers to one rule's impure calls don't keep to another's.
use Rattle.std.proofs.Common.{◌==◌, ℕ, false, List, [], ◌∷◌, None, refl}
use Rattle.isle_types.specs.declared.ids.Sym.{Sym}
use Rattle.isle_meaning.specs.Values.{no_values}
use Rattle.isle_meaning.specs.Facts.{TermFacts, declared_shape}
use Rattle.isle_meaning.specs.Answers.{Completion}
use Rattle.isle_blocks.specs.declared.binding.Binding.TheVariants as sites
use Rattle.isle_blocks.specs.RuleSets.{RulesOverSites}
use Rattle.isle_trees.specs.Premises.{Respects}
use Rattle.isle_blocks.specs.Trees.View.{rules_of}
use Rattle.isle_blocks.specs.Trees.SiteTrees.{held_by}

-- impure terms of which the first alone may fail
abbrev facts : TermFacts
facts = record {
  shape = λ t. declared_shape;
  pure = λ t. false;
  partial = λ t. t == 1;
  multi = λ t. false;
  infallible = λ t. false;
  inputs = λ t. [];
  type_of = λ t. 0;
  variant_fields = λ ty k. [];
  struct_fields = λ ty. [];
  constant_type = λ n. 0;
}

-- the sites of (rule 1 (t 1) (first)) and (rule 0 (t _) (second)): the first impure call of each
abbrev two : RulesOverSites
two = record {
  rules = [];
  sites = sites.Constructor (record { 0 = 1 }) [] 1 ∷ sites.Constructor (record { 0 = 2 }) [] 1 ∷ [];
}

-- where the first's call was answered none, the second's site fails, though its term never does
others_answers : (name : Sym → List ℕ) (c : Completion) → Respects (rules_of name two) (held_by name two.sites facts c no_values (None ∷ [])) → ⊥
others_answers name c h = h.whole 1 refl (λ p m. absurd m) refl
