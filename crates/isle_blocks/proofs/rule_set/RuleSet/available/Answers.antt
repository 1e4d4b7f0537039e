use Rattle.std.proofs.Common.{sym, subst, List, ℕ, get_or, length}
use Rattle.isle_trees.specs.Rules.{Elem, Asked}
use Rattle.isle_trees.specs.Search.{ArePartsFirst}
use Rattle.isle_trees.proofs.Building.Marks.{group_more}
use Rattle.isle_blocks.specs.Rows.{numbers_of}
use Rattle.isle_blocks.specs.Inside.Trees.Builder.{rules_in, scope_of}
use Rattle.isle_blocks.proofs.rule_set.RuleSet.available.Goals as goal

pub mark-requires-clause-below : goal.mark-requires-clause-below
mark-requires-clause-below c x m =
    let P : List ℕ → Type 0 = λ l. Elem x l in
    c.requires.index.is.within (get_or c.args.left.now c.loop-rule.rule-index 0) x (subst P c.asked.ensures m)

pub mark-requires-clause-first : goal.mark-requires-clause-first
mark-requires-clause-first c =
    let P : List ℕ → Type 0 = λ l. ArePartsFirst (rules_in c.args.self.now) l in
    subst P (sym c.asked.ensures) (c.requires.index.is.first (get_or c.args.left.now c.loop-rule.rule-index 0))

pub loop-rule-preserved : goal.loop-rule-preserved
loop-rule-preserved c =
    let i = get_or c.args.left.now c.loop-rule.rule-index 0 in
    let all : (s : ℕ) → Asked (rules_in c.args.self.now) i s → Elem s (numbers_of c.asked.result.now) = λ s a.
    let P : List ℕ → Type 0 = λ l. Elem s l in subst P (sym c.asked.ensures) (c.requires.index.is.full i s a) in
    group_more (rules_in c.args.self.now) (scope_of c.args.self.now c.args.known.now) c.args.left.now c.loop-rule.rule-index
    (length c.args.self.now.sites)
    (numbers_of c.asked.result.now) c.loop-rule.marks c.mark.new.marks
    c.loop-rule-test.true c.loop-rule.invariant all c.in_ok-mark.ensures.sound c.in_ok-mark.ensures.full c.in_ok-mark.ensures.kept
    c.in_ok-mark.ensures.size
