-- What a set's sites are where calls are functions into finite lists, and one item is taken of the list of each multi call.
use Rattle.std.specs.Prelude.{◌≡◌, ℕ, List, [], map, true, Option, Some, None}
use Rattle.isle_types.specs.declared.ids.Sym.{Sym}
use Rattle.isle_meaning.specs.Got.{Got, unknown, fails, gives}
use Rattle.isle_meaning.specs.Values.{Value, Values, nth_of}
use Rattle.isle_meaning.specs.Facts.{TermFacts}
use Rattle.isle_meaning.specs.Answers.{Completion}
use Rattle.isle_meaning.specs.Held.{Held, held_value, held_outputs, held_none, held_some, held_answers, outputs_of, value}
use Rattle.isle_meaning.specs.AboutSites.Functions.{as_pure}
use Rattle.isle_meaning.specs.AboutSites.Making.{made_of_parts}
use Rattle.isle_meaning.specs.Numbered.{At}
use Rattle.isle_meaning.specs.Sites.{Site, iterator}
use Rattle.isle_meaning.specs.Subtrees.{IsSubtree}
use Rattle.isle_blocks.specs.Rows.{rows_of}
use Rattle.isle_blocks.specs.declared.constraint.Constraint.{Constraint}
use Rattle.isle_blocks.specs.RuleSets.{RulesOverSites}
use Rattle.isle_blocks.specs.Trees.View.{rules_of}
use Rattle.isle_blocks.specs.Trees.SiteTrees.{tree_of}
use Rattle.isle_trees.specs.Bag.{Picks, Model}
use Rattle.isle_trees.specs.Calls.{Lists, model_of}
use Rattle.isle_trees.specs.Machine.{Makes}
use Rattle.isle_trees.specs.Rules.{Source}

-- Only what a test makes may fail: where its parts are of other kinds than it takes, any other site holds nothing.
abbrev pub settled : Option (Source Constraint) → Got Held → Got Held
settled made (gives h) = gives h
settled None unknown = gives held_none
settled None fails = gives held_none
settled (Some m) unknown = fails
settled (Some m) fails = fails

-- the items of a multi call
abbrev pub items_of : Got Held → List Held
items_of unknown = []
items_of fails = []
items_of (gives (held_value v)) = []
items_of (gives (held_outputs vs)) = []
items_of (gives held_none) = []
items_of (gives (held_some h)) = []
items_of (gives (held_answers l)) = map outputs_of l

module _ (name : Sym → List ℕ) (set : RulesOverSites) (facts : TermFacts) (c : Completion) (args : Values) where
  -- what a site is, where its parts hold these: a call's answer, made data, a field, a constant
  abbrev pub functions_of : Makes Held
  functions_of s hs = settled ((rules_of name set).made s) (made_of_parts facts c args [] (as_pure (tree_of name set.sites s)) hs)

  -- the items of a multi call then
  abbrev pub lists_of : Lists Held
  lists_of s hs = items_of (made_of_parts facts c args [] (as_pure (tree_of name set.sites s)) hs)

  -- what sites are and multi calls list, whatever items are taken
  abbrev pub functions_model : Model Held
  functions_model = model_of (rules_of name set) functions_of lists_of (λ p. true)

-- a list is held, and this is its item at a place
abbrev pub HasItem : Got Held → ℕ → Held → Type 0
HasItem g n x = (l : List Values) × (vs : Values) × (g ≡ gives (held_answers l)) × (nth_of l n ≡ gives vs) × (x ≡ outputs_of vs)

-- of each multi call of which the site takes an item, the one at its place is taken
abbrev pub TakesItsPlaces : (Sym → List ℕ) → RulesOverSites → TermFacts → Completion → Values → List (Option Value) → Picks Held → Site → Type 0
TakesItsPlaces name set facts c args done p s = (u : Site) (k : ℕ) → IsSubtree (iterator u) s → At (rows_of name set.sites) u k
    → HasItem (value facts c args done u) (c.place u) (p k)
