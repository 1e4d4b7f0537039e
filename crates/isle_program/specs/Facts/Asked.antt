-- What is asked of a program at any time and without memory, made as it is compiled.
use Rattle.std.specs.Prelude.{◌≡◌, ◌↔◌, ◌<◌, ◌==◌, ℕ, IsTrue, List, map, length, slice_index_or}
use Rattle.std.specs.List.{list_any}
use Rattle.isle_types.specs.declared.ids.TermId.{TermId}
use Rattle.isle_types.specs.TypeTables.{TypeTables}
use Rattle.isle_rules.specs.Shown.TermTables.{TermTables}
use Rattle.isle_blocks.specs.Inside.Building.Contents.{Marked}
use Rattle.isle_blocks.specs.RuleSets.{RulesOverSites}
use Rattle.isle_program.specs.declared.facts.Numbers.{Numbers}
use Rattle.isle_program.specs.Facts.Inhabited.{AreAllInhabited}
use Rattle.isle_program.specs.Facts.Reach.{is_root, IsBarred}
use Rattle.isle_program.specs.Facts.Steps.{steps_in}
use Rattle.isle_program.specs.Trees.{place_of_set}

-- the number of a term
abbrev pub term_number : TermId → ℕ
term_number term = term.0

-- these are the terms with rules, each once, ascending
pub record AreRoots (env : TermTables) (terms : List TermId) : Type 0 where
  pub listed : (n : ℕ) → list_any (λ number. number == n) (map term_number terms) ≡ is_root env n
  pub ascending : (k l d : ℕ) → k < l → l < length (map term_number terms)
      → slice_index_or (map term_number terms) k d < slice_index_or (map term_number terms) l d

-- the numbers of tables and rule sets
pub record AreNumbersOf (tyenv : TypeTables) (env : TermTables) (sets : List (TermId × RulesOverSites)) (numbers : Numbers) : Type 0 where
  pub with_rules : AreRoots env numbers.with_rules.items
  pub steps : (n : ℕ) → slice_index_or numbers.steps.items n 0 ≡ steps_in sets n
  pub places : (n : ℕ) → slice_index_or numbers.places.items n (length sets) ≡ place_of_set sets n
  pub inhabited : IsTrue numbers.inhabited ↔ AreAllInhabited tyenv.types
  pub barred : (n : ℕ) → Marked numbers.barred.items n ↔ IsBarred tyenv env n
