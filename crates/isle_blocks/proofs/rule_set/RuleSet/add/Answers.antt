use Rattle.std.proofs.Common.{◌≡◌, ◌++◌, ◌∷◌, [], ◌∙◌, ap, subst}
use Rattle.std.specs.Prelude.{IfSome}
use Rattle.std.proofs.lemmas.Result.{err_from_is_err_and}
use Rattle.isle_blocks.specs.declared.rule.Rule.{Rule}
use Rattle.isle_blocks.specs.RuleSets.{RulesOverSites}
use Rattle.isle_blocks.specs.RuleSets.{IsToldOf}
use Rattle.isle_blocks.specs.AddedRules.{IsAdded, IsAddedRule, LacksRoomFor, name_in, facts_in}
use Rattle.isle_blocks.proofs.rule_set.RuleSet.add.Goals as goal

pub returns-in_default-clause-adds : goal.returns-in_default-clause-adds
returns-in_default-clause-adds c = λ d.
    let env = c.args.termenv.now in let rule = c.args.source.now in
    let h = subst (λ made. IsAdded (name_in env rule d) (facts_in env rule d) c.args.partial d.typed c.self.inside.sites c.add_defined.new.table made)
    c.in_default.is (c.in_ok-made.ensures.added d) in
    (h.0, h.1, ap (λ sites. record { rules = c.self.inside.rules.items; sites = sites }) h.2 ∙ c.self.view_is)

pub returns-clause-adds : goal.returns-clause-adds
returns-clause-adds c = λ d.
    let env = c.args.termenv.now in let source = c.args.source.now in
    let name = name_in env source d in let facts = facts_in env source d in let table = c.add_defined.new.table in
    let h = subst (λ made. IsAdded name facts c.args.partial d.typed c.self.inside.sites table made) c.in-Some.is (c.in_ok-made.ensures.added d) in
    let told = subst (λ made. IfSome made (λ rule. IsToldOf source rule)) c.in-Some.is c.in_ok-made.ensures.told in
    subst (λ (old : RulesOverSites). (x : Rule) × IsAddedRule name facts c.args.partial d.typed old.sites table x
    × IsToldOf source x × (c.push.new.self.items ≡ old.rules ++ x ∷ []))
    c.self.view_is (c.in-Some.rule, h, told, c.in_ok-push.ensures.items)

pub returns-in_err-made-clause-full : goal.returns-in_err-made-clause-full
returns-in_err-made-clause-full c =
    let p = err_from_is_err_and c.from_residual.result c.from_residual.ensures.1 in
    rw (p.1, p.2) (λ size. subst (λ (set : RulesOverSites). LacksRoomFor c.args.termenv.now c.args.source.now c.args.partial set.sites) c.self.view_is
    (c.in_err-made.ensures.full size))
