-- Worked case: (rule (t (each x)) x) and (rule (t (each 5)) 7), where the multi extractor `each` gives 5 and 6.
use Rattle.std.proofs.Common.{◌≡◌, ℕ, pos, true, false, List, [], ◌∷◌, refl}
use Rattle.isle_types.specs.declared.ids.Sym.{Sym}
use Rattle.isle_meaning.specs.Got.{fails, gives}
use Rattle.isle_meaning.specs.Values.{Value, int_value, no_values, more_values}
use Rattle.isle_meaning.specs.Facts.{TermFacts, declared_shape}
use Rattle.isle_meaning.specs.Answers.{Completion}
use Rattle.isle_meaning.specs.Held.{Held, held_value}
use Rattle.isle_blocks.specs.declared.ids.BindingId.{BindingId}
use Rattle.isle_blocks.specs.declared.binding.Binding.TheVariants as sites
use Rattle.isle_blocks.specs.declared.constraint.Constraint.{Constraint}
use Rattle.isle_blocks.specs.declared.constraint.Constraint.TheVariants as tests
use Rattle.isle_blocks.specs.declared.rule.Rule.{Rule}
use Rattle.isle_blocks.specs.RuleSets.{RulesOverSites}
use Rattle.isle_blocks.specs.Trees.Bags.{bag_of}
use Rattle.isle_blocks.specs.Trees.Functions.{functions_model}
use Rattle.isle_blocks.specs.Trees.View.{rules_of}
use Rattle.isle_trees.specs.Bag.{Picks, pick, Model, gave, walk_all}
use Rattle.isle_trees.specs.Tree.{Steps, done, «match», loop, give, no_arm, arm}

-- the terms are `multi`, and of one argument
abbrev facts : TermFacts
facts = record {
  shape = λ t. declared_shape;
  pure = λ t. true;
  partial = λ t. false;
  multi = λ t. true;
  infallible = λ t. true;
  inputs = λ t. 1 ∷ [];
  type_of = λ t. 1;
  variant_fields = λ ty k. [];
  struct_fields = λ ty. [];
  constant_type = λ n. 1;
}

-- an integer
abbrev number : ℕ → Value
number n = int_value (pos n)

-- `each` gives 5 and 6 of any value
abbrev answers : Completion
answers = record {
  construct = λ t vs. fails;
  extract = λ t v. fails;
  constructs = λ t vs. gives [];
  extracts = λ t v. gives (more_values (number 5) no_values ∷ more_values (number 6) no_values ∷ []);
  place = λ s. 0;
}

-- a site by its number
abbrev id : ℕ → BindingId
id n = record { 0 = n }

-- the two rules over the argument, the call, one value of it, and 7
abbrev set : Rule → RulesOverSites
set r = record {
  rules = record r { constraints = []; equals = []; iterators = id 1 ∷ []; impure = []; result = id 2 }
      ∷ record r {
        constraints = (id 2, tests.ConstInt (pos 5) (record { 0 = 1 })) ∷ [];
        equals = [];
        iterators = id 1 ∷ [];
        impure = [];
        result = id 3;
      } ∷ [];
  sites = sites.Argument (record { 0 = 0 }) ∷ sites.Extractor (record { 0 = 1 }) (id 0) ∷ sites.Iterator (id 1)
      ∷ sites.ConstInt (pos 7) (record { 0 = 1 }) ∷ [];
}

-- what the sites are of an argument
abbrev model : (Sym → List ℕ) → Rule → Value → Model Held
model name r v = functions_model name (set r) facts answers (more_values v no_values)

-- for each value the first rule returns it, and the second 7 where it is 5
abbrev tree : Steps Constraint
tree = loop (1 ∷ []) 2 (give [] 0 («match» [] 2 (arm (tests.ConstInt (pos 5) (record { 0 = 1 })) [] (give [] 1 done) no_arm) done)) done

-- one of the values is taken
abbrev taking : ℕ → Picks Held → Picks Held
taking n p = pick p 1 (held_value (number n))

-- the bag has two answers of the first rule and one of the second
bag_is : (name : Sym → List ℕ) (r : Rule) (v : Value) (p : Picks Held)
    → bag_of name (set r) (model name r v) p ≡ gave 0 (taking 5 p) ∷ gave 0 (taking 6 p) ∷ gave 1 (taking 5 p) ∷ []
bag_is name r v p = refl

-- the walk has the same in another order
walk_is : (name : Sym → List ℕ) (r : Rule) (v : Value) (p : Picks Held)
    → walk_all (rules_of name (set r)) (model name r v) tree p ≡ gave 0 (taking 5 p) ∷ gave 1 (taking 5 p) ∷ gave 0 (taking 6 p) ∷ []
walk_is name r v p = refl
