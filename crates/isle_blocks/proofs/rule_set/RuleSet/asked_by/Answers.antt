use Rattle.std.proofs.Common.{arith, ℕ, List, length, subst, ap, sym, ◌∙◌}
use Rattle.isle_trees.specs.Rules.{Elem}
use Rattle.isle_trees.proofs.Building.Gathering.{closure_first, closure_full}
use Rattle.isle_blocks.specs.Rows.{numbers_of}
use Rattle.isle_blocks.specs.Inside.Trees.Builder.{rules_in}
use Rattle.isle_blocks.proofs.rule_set.RuleSet.asked_by.Goals as goal

pub closure-requires-clause-below : goal.closure-requires-clause-below
closure-requires-clause-below c x m =
    let P : List ℕ → Type 0 = λ l. Elem x l in
    c.requires.below c.in_ok-sites.ensures.low x (subst P (ap numbers_of c.deref.ensures.value ∙ c.in_ok-sites.ensures.sites) m)

pub unmark-requires-clause-below : goal.unmark-requires-clause-below
unmark-requires-clause-below c x m =
    let P : List ℕ → Type 0 = λ l. Elem x l in
    let l = c.in_ok-list.ensures.below x (subst P (ap numbers_of c.deref-2.ensures.value) m) in
    let e = c.in_ok-list.ensures.size in
    omega (arith, l, e)

pub unmark-requires-clause-marked : goal.unmark-requires-clause-marked
unmark-requires-clause-marked c x e =
    let P : List ℕ → Type 0 = λ l. Elem x l in
    subst P (sym (ap numbers_of c.deref-2.ensures.value))
    (closure_full (rules_in c.args.self.now) (length c.args.self.now.sites) (numbers_of c.deref.result.now) c.args.marks.now c.closure.new.marks
    (numbers_of c.in_ok-list.list.items) c.requires.clean c.in_ok-list.ensures x e)

pub returns-clause-below : goal.returns-clause-below
returns-clause-below c x m = let l = c.in_ok-list.ensures.below x m in let e = c.requires.clean.size in omega (arith, l, e)

pub returns-clause-first : goal.returns-clause-first
returns-clause-first c =
    closure_first (rules_in c.args.self.now) (length c.args.self.now.sites) (numbers_of c.deref.result.now) c.args.marks.now c.closure.new.marks
    (numbers_of c.in_ok-list.list.items) c.requires.lower c.requires.clean c.in_ok-list.ensures

pub returns-clause-full : goal.returns-clause-full
returns-clause-full c x m =
    let P : List ℕ → Type 0 = λ l. Elem x l in
    closure_full (rules_in c.args.self.now) (length c.args.self.now.sites) (numbers_of c.deref.result.now) c.args.marks.now c.closure.new.marks
    (numbers_of c.in_ok-list.list.items) c.requires.clean c.in_ok-list.ensures x
    (c.in_ok-list.ensures.bound x (subst P (sym (ap numbers_of c.deref.ensures.value ∙ c.in_ok-sites.ensures.sites)) m))
