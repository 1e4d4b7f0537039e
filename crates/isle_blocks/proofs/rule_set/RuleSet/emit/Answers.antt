use Rattle.std.proofs.Common.{arith, ◌<◌, ℕ, List, subst, sym, ◌∙◌}
use Rattle.isle_trees.specs.Rules.{Elem}
use Rattle.isle_trees.proofs.Building.Emission.{emits_one, one_new}
use Rattle.isle_blocks.proofs.rule_set.RuleSet.emit.Goals as goal

pub emit_each-requires-clause-below : goal.emit_each-requires-clause-below
emit_each-requires-clause-below c x m =
    let P : List ℕ → Type 0 = λ l. Elem x l in
    let l : x < c.args.site.0 = c.requires.lower c.args.site.0 x (subst P c.parts.ensures m) in
    let s = c.requires.site in
    omega (arith, l, s)

pub returns-clause-emits : goal.returns-clause-emits
returns-clause-emits c =
    emits_one _ _ _ _ c.args.site.0 _ _ _ _ (c.requires.lower) c.parts.ensures (sym c.is_emitted.ensures ∙ c.if-is_emitted.false)
    (c.in_ok-emit_each.ensures.emits) (c.in_ok-push_own.ensures) (c.in_ok-set_emitted.ensures.scope c.args.self.now)

pub returns-clause-one : goal.returns-clause-one
returns-clause-one c =
    one_new _ _ _ _ c.args.site.0 _ _ _ _ c.parts.ensures (sym c.is_emitted.ensures ∙ c.if-is_emitted.false)
    (c.in_ok-emit_each.ensures.emits) (c.in_ok-push_own.ensures) (c.in_ok-set_emitted.ensures.scope c.args.self.now)
