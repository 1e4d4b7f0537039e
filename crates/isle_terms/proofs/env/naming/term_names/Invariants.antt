use Rattle.std.proofs.Common.{◌≡◌, List, map, take}
use Rattle.std.specs.List.{AllZip}
use Rattle.isle_rules.specs.Signatures.{Signature}
use Rattle.isle_terms.specs.Inside.Collecting.DeclaredTerms.{IsShownTerm}
use Rattle.isle_terms.specs.Inside.Collecting.NamedItems.{named_shown, named_term}
use Rattle.isle_terms.proofs.env.naming.term_names.Given as goal

abbrev pub invariant-loop-term : goal.invariant-loop-term
invariant-loop-term l = (signatures : List Signature) → AllZip (IsShownTerm l.tyenv.names) signatures l.terms
    → map named_shown l.all.items ≡ map named_term (take l.term-index signatures)
