use Rattle.std.proofs.Common.{ℕ, List, subst, ap, ◌∙◌}
use Rattle.isle_trees.specs.Rules.{Elem}
use Rattle.isle_trees.proofs.Building.Emission.{each_from}
use Rattle.isle_blocks.specs.Rows.{numbers_of}
use Rattle.isle_blocks.proofs.rule_set.RuleSet.return_order.Goals as goal

pub emit_rights-requires-clause-below : goal.emit_rights-requires-clause-below
emit_rights-requires-clause-below c x m =
    let P : List ℕ → Type 0 = λ l. Elem x l in
    c.requires.below x (subst P (ap numbers_of c.deref.ensures.value ∙ c.in_ok-rights.ensures) m)

pub returns-clause-each : goal.returns-clause-each
returns-clause-each c =
    each_from _ _ _ _ _ _ _ (ap numbers_of c.deref.ensures.value
    ∙ c.in_ok-rights.ensures) (ap numbers_of c.new-order.ensures.items) c.in_ok-emit_rights.ensures.each
