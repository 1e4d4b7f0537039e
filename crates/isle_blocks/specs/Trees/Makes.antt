-- What a site of a table is, where its parts hold these.
use Rattle.std.specs.Prelude.{◌≡◌, ℕ, suc, true, List, Option, Some, None, slice_get}
use Rattle.isle_types.specs.declared.ids.Sym.{Sym}
use Rattle.isle_meaning.specs.Values.{Value, Values}
use Rattle.isle_meaning.specs.Facts.{TermFacts}
use Rattle.isle_meaning.specs.Answers.{Completion}
use Rattle.isle_meaning.specs.Sites.{Sites, constructor_call}
use Rattle.isle_meaning.specs.Held.{Held}
use Rattle.isle_meaning.specs.AboutSites.Making.{made_of_parts}
use Rattle.isle_meaning.specs.Numbered.{At}
use Rattle.isle_trees.specs.Machine.{Makes}
use Rattle.isle_blocks.specs.declared.binding.Binding.{Binding}
use Rattle.isle_blocks.specs.Rows.{rows_of}
use Rattle.isle_blocks.specs.Trees.SiteTrees.{tree_of}

-- a call's answer, made data, a field, a constant; a constant too where there is no site
abbrev pub makes_of : (Sym → List ℕ) → List Binding → TermFacts → Completion → Values → List (Option Value) → Makes Held
makes_of name table facts c args done s hs = made_of_parts facts c args done (tree_of name table s) hs

-- An impure call of the table that was answered none is of a term that may fail. That holds of no answers, and of those to one rule's
-- calls where the table's impure calls are that rule's.
abbrev pub AllowsDone : (Sym → List ℕ) → List Binding → TermFacts → List (Option Value) → Type 0
AllowsDone name table facts done =
    (s f n : ℕ) (ss : Sites) → At (rows_of name table) (constructor_call f ss (suc n)) s → slice_get done n ≡ Some None → facts.partial f ≡ true
