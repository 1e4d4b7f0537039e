use Rattle.std.proofs.Common.{map, take}
use Rattle.std.specs.List.{All}
use Rattle.isle_types.specs.TypeEnvs.{HasMoreNames}
use Rattle.isle_rules.specs.Signatures.{Declared}
use Rattle.isle_rules.specs.Shown.ShownTerms.{ShowsDeclared}
use Rattle.isle_terms.specs.Inside.Shown.TermLimits.{HasKnownSymbols}
use Rattle.isle_terms.specs.Inside.Collecting.Checks.{Checks}
use Rattle.isle_terms.specs.Inside.Collecting.RuleChecks.{HasSomeRoot, IsIllAmong, AreTyped}
use Rattle.isle_terms.proofs.env.rules.collect_rules.Given as goal

abbrev pub invariant-loop-rule : goal.invariant-loop-rule
invariant-loop-rule l = record {
  checked : (declared : Declared) → ShowsDeclared l.initial.tyenv l.termenv declared → HasKnownSymbols l.initial.tyenv.names l.termenv
      → All (HasSomeRoot declared) (map (λ rule. rule.now) l.rules)
      → Checks (IsIllAmong declared l.levels (map (λ rule. rule.now) l.rules))
      (AreTyped declared l.levels l.max_nodes (take l.rule-index (map (λ rule. rule.now) l.rules)) l.tyenv.names l.all.items)
      l.initial.errors.items l.errors.items;
  same : HasMoreNames l.initial.tyenv l.tyenv;
}
