use Rattle.isle_terms.specs.RuleReaching.{IsIllRule}
use Rattle.isle_terms.specs.Inside.Collecting.RuleChecks.{IsLargeAt}
use Rattle.isle_terms.specs.Inside.Shown.RootsShown.{rule_read}
use Rattle.isle_terms.proofs.Collections.RuleChecks.{rule_stands, rule_refused, rule_met}
use Rattle.isle_terms.proofs.env.rules.typed_rule.Goals as goal

pub returns-in-Err-clause-fault : goal.returns-in-Err-clause-fault
returns-in-Err-clause-fault c = λ declared shows root.
    let levels = c.args.levels in
    let max = c.args.max_nodes in
    let tree = c.args.tree.now in
    rule_met (IsIllRule declared levels tree) (IsLargeAt declared levels max tree) c.in-Err.refusal c.met.result c.met.ensures
    (rule_refused c.args.tyenv.now c.args.termenv.now declared max levels tree c.in-Err.refusal shows root c.in-Err.ensures.err)

pub returns-clause-typed : goal.returns-clause-typed
returns-clause-typed c = λ declared shows root.
    let typed = rule_read c.args.tyenv.now.names c.args.tree.now c.in-Ok.read in (
      typed,
      rule_stands c.args.tyenv.now c.args.termenv.now declared c.args.max_nodes c.args.levels c.args.tree.now typed c.in-Ok.read.bindings shows
          root c.in-Ok.ensures.ok,
      c.in_ok-make_rule.ensures.shown,
    )
