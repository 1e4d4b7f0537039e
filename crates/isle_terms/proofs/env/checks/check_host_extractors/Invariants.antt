use Rattle.std.proofs.Common.{◌≡◌, ℕ, List, map, take, false}
use Rattle.std.specs.List.{All}
use Rattle.isle_rules.specs.Definitions.{ExternalExtractor}
use Rattle.isle_terms.specs.Inside.Collecting.DefinitionLists.{host_extractor_shown}
use Rattle.isle_terms.specs.Inside.Collecting.Checks.{Checks, IsIllAt}
use Rattle.isle_terms.specs.Inside.Collecting.NameTables.{IsTableOf}
use Rattle.isle_terms.specs.Inside.Collecting.DefinitionChecks.{is_ill_name}
use Rattle.isle_terms.proofs.env.checks.check_host_extractors.Given as goal

abbrev pub invariant-loop-host : goal.invariant-loop-host
invariant-loop-host l = (names : List (List ℕ)) → IsTableOf names l.declared
    → Checks (IsIllAt (map host_extractor_shown l.hosts) (is_ill_name names) (λ (host : ExternalExtractor). host.pos))
    (All (λ x. is_ill_name names x ≡ false) (take l.host-index (map host_extractor_shown l.hosts))) l.initial.errors.items l.errors.items
