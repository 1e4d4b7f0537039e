-- The symbols at which a table finds the numbers of terms.
use Rattle.std.specs.Prelude.{◌≡◌, List, IsSome}
use Rattle.isle_types.specs.declared.ids.Sym.{Sym}
use Rattle.isle_types.specs.declared.ids.TermId.{TermId}
use Rattle.isle_containers.specs.StableMaps.{value_at}
use Rattle.isle_rules.specs.declared.terms.Term.{Term}
use Rattle.isle_rules.specs.Definitions.{IsAmong}
use Rattle.isle_rules.specs.Shown.TermTables.{same_sym}

-- each symbol at which a table finds a number is that of the name of one of some terms
abbrev pub HasSymbolsOf : List Term → List (Sym × TermId) → Type 0
HasSymbolsOf terms numbers = (symbol : Sym) → IsSome (value_at same_sym numbers symbol) → (term : Term) × IsAmong terms term × (term.name ≡ symbol)
