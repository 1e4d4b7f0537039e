use Rattle.std.proofs.Common.{◌≡◌, ℕ, List, map, take, false}
use Rattle.std.specs.List.{All}
use Rattle.isle_terms.specs.Inside.Collecting.DefinitionLists.{host_constructor_shown}
use Rattle.isle_terms.specs.Inside.Collecting.Checks.{Checks, IsIllAt}
use Rattle.isle_terms.specs.Inside.Collecting.NameTables.{IsTableOf}
use Rattle.isle_terms.specs.Inside.Collecting.DefinitionChecks.{is_ill_host}
use Rattle.isle_terms.proofs.env.checks.check_host_constructors.Given as goal

abbrev pub invariant-loop-host : goal.invariant-loop-host
invariant-loop-host l = (names : List (List ℕ)) → (ruled : List (List ℕ)) → IsTableOf names l.declared → IsTableOf ruled l.roots
    → Checks (IsIllAt (map host_constructor_shown l.hosts) (is_ill_host names ruled) (λ host. host.0.1))
    (All (λ x. is_ill_host names ruled x ≡ false) (take l.host-index (map host_constructor_shown l.hosts))) l.initial.errors.items l.errors.items
