use Rattle.std.proofs.Common.{◌≡◌, ℕ, List, take}
use Rattle.std.specs.List.{AllZip}
use Rattle.std.specs.Option.{option_map}
use Rattle.isle_types.specs.Names.{AreDistinct, position_of}
use Rattle.isle_types.specs.TypeEnvs.{CountUp}
use Rattle.isle_rules.specs.declared.terms.Term.{Term}
use Rattle.isle_rules.specs.Signatures.{Signature}
use Rattle.isle_rules.specs.Definitions.{names_of_terms}
use Rattle.isle_rules.specs.Shown.ShownTerms.{term_at}
use Rattle.isle_terms.specs.Inside.Collecting.DeclaredTerms.{IsShownTerm, number_named}
use Rattle.isle_terms.specs.Inside.Collecting.TermSymbols.{HasSymbolsOf}
use Rattle.isle_terms.proofs.env.term_numbers.numbers.Given as goal

abbrev pub invariant-loop-term : goal.invariant-loop-term
invariant-loop-term l = record {
  numbered : (names : List (List ℕ)) (signatures : List Signature) → AllZip (IsShownTerm names) signatures l.terms → AreDistinct names
      → AreDistinct (names_of_terms signatures) → CountUp (λ (term : Term). term.id.0) 0 l.terms
      → (name : List ℕ) → number_named names l.numbers name ≡ option_map term_at (position_of (names_of_terms (take l.term-index signatures)) name);
  known : HasSymbolsOf l.terms l.numbers;
}
