use Rattle.std.proofs.Common.{sym, ◌∙◌}
use Rattle.isle_blocks.specs.Inside.Trees.Builder.{rules_in, scope_of}
use Rattle.isle_blocks.proofs.Trees.Fields.{bound_made}
use Rattle.isle_blocks.proofs.rule_set.RuleSet.bind_made.Goals as goal

pub returns-in_ok-set_emitted-clause-scope : goal.returns-in_ok-set_emitted-clause-scope
returns-in_ok-set_emitted-clause-scope c w e =
    let set = c.args.self.now in
    bound_made (rules_in set) c.args.source.0 w (scope_of set c.args.known.now) (scope_of set c.set_emitted.new.self) c.args.site.0
    (sym (c.makes.ensures w e) ∙ c.if-makes.true) (c.in_ok-set_emitted.ensures.scope set)
