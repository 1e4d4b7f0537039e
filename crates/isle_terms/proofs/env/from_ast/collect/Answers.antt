use Rattle.std.proofs.Common.{◌∙◌, ap, subst, map, Bor}
use Rattle.isle_ast.specs.declared.ast.Rule.{Rule as RuleTree}
use Rattle.isle_ast.specs.Errors.{IfFault}
use Rattle.isle_terms.specs.declared.env.from_ast.TheConstants.{MAX_LEVELS, MAX_NODES}
use Rattle.isle_terms.specs.TypingFaults.{AreTypingFaults}
use Rattle.isle_terms.specs.Inside.Collecting.NamedItems.{name_shown}
use Rattle.isle_types.specs.TypeEnvs.{HasMoreNames}
use Rattle.isle_types.specs.TypeTables.{TypeTables}
use Rattle.isle_terms.proofs.env.from_ast.collect.Goals as goal

-- names that are added, and then more of them
more_names : (old middle new : TypeTables) → HasMoreNames old middle → HasMoreNames middle new → HasMoreNames old new
more_names old middle new first then = record {
  kept = λ place name at. then.kept place name (first.kept place name at);
  same = then.same ∙ ap (λ (env : TypeTables). record env { names = new.names }) first.same;
}

pub returns-in-Err-clause-faults : goal.returns-in-Err-clause-faults
returns-in-Err-clause-faults c = λ types shows.
    let trees = ap (map (λ (rule : Bor RuleTree). rule.now)) c.as_slice.ensures.value ∙ c.in_ok-parts.ensures.rules in
    let names = ap (map name_shown) c.as_slice-names.ensures.value ∙ c.in_ok-rule_names.ensures c.args.defs.now trees in
    c.in-Err.ensures.faults types MAX_LEVELS MAX_NODES c.args.defs.now shows c.in_ok-parts.ensures names

pub returns-clause-faults : goal.returns-clause-faults
returns-clause-faults c = λ types shows.
    let trees = ap (map (λ (rule : Bor RuleTree). rule.now)) c.as_slice.ensures.value ∙ c.in_ok-parts.ensures.rules in
    let names = ap (map name_shown) c.as_slice-names.ensures.value ∙ c.in_ok-rule_names.ensures c.args.defs.now trees in
    subst (λ expands. IfFault c.in-Err-typed_rules.refusal (λ errors. AreTypingFaults types expands MAX_LEVELS MAX_NODES c.args.defs.now
    errors.items)) c.in-Ok.ensures.expands
    (c.in-Err-typed_rules.ensures.faults types c.args.defs.now c.in_ok-parts.ensures
    (c.in-Ok.ensures.made types c.args.defs.now shows c.in_ok-parts.ensures names))

pub returns-in-Ok-typed_rules-clause-more : goal.returns-in-Ok-typed_rules-clause-more
returns-in-Ok-typed_rules-clause-more c = more_names _ _ _ c.declare.ensures.more c.typed_rules.ensures.more

pub returns-clause-more : goal.returns-clause-more
returns-clause-more c = more_names _ _ _ c.declare.ensures.more c.typed_rules.ensures.more
