use Rattle.std.proofs.Common.{arith, refl, sym, ◌∙◌, ap, ◌≡◌, ◌≤◌, ◌+◌, ℕ, [], Some, List, length, slice_get, subst}
use Rattle.std.proofs.lemmas.List.{length_push}
use Rattle.isle_trees.specs.Search.{IsAskedBy}
use Rattle.isle_trees.proofs.Building.Asked.{asked_listed, nothing_asked}
use Rattle.isle_blocks.specs.declared.ids.BindingId.{BindingId}
use Rattle.isle_blocks.specs.Rows.{numbers_of}
use Rattle.isle_blocks.specs.Inside.Trees.Builder.{AreClasses, AreMembers, rules_in}
use Rattle.isle_blocks.proofs.Trees.Indexed.{rule_there, tested_few, tested_listed, never_tested, list_more, list_all}
use Rattle.isle_blocks.proofs.rule_set.RuleSet.asked_lists.Goals as goal

pub asked_by-requires-clause-below : goal.asked_by-requires-clause-below
asked_by-requires-clause-below c =
    let set = c.args.self.now in
    let at = c.loop-rule.rule in
    let rule = c.index-rules-rule.result in
    let there : slice_get set.rules at ≡ Some rule =
    rule_there set.rules c.rules.result.now c.rules-rule-end.result.now at rule c.rules.ensures c.rules-rule-end.ensures c.loop-rule-test.true
    c.index-rules-rule.is in
    let P : List (List BindingId) → Type 0 = λ l. AreMembers set at l in
    tested_few set at rule there c.classes_of.result.now c.requires.set.within (subst P (sym c.classes_of.ensures) (c.requires.members at))

pub loop-rule-preserved : goal.loop-rule-preserved
loop-rule-preserved c =
    let set = c.args.self.now in
    let n = length set.sites in
    let at = c.loop-rule.rule in
    let rule = c.index-rules-rule.result in
    let list = c.in_ok-list.list in
    let lists = c.loop-rule.lists.items in
    let size = c.loop-rule.invariant.size in
    let pushed = c.in_ok-push.ensures.items in
    let there : slice_get set.rules at ≡ Some rule =
    rule_there set.rules c.rules.result.now c.rules-rule-end.result.now at rule c.rules.ensures c.rules-rule-end.ensures c.loop-rule-test.true
    c.index-rules-rule.is in
    let P : List (List BindingId) → Type 0 = λ l. AreClasses set at l in
    let classes : AreClasses set at c.classes_of.result.now = subst P (sym c.classes_of.ensures) (c.requires.classes at) in
    record {
      clean = c.in_ok-list.ensures.clean;
      size = ap length pushed ∙ length_push lists list ∙ ap (λ (x : ℕ). x + 1) size;
      each = list_more (λ i l. IsAskedBy (rules_in set) n i (numbers_of l)) lists c.push.new.self.items list at size pushed c.loop-rule.invariant.each
          (asked_listed (rules_in set) n at (numbers_of list.items) c.in_ok-list.ensures.below c.in_ok-list.ensures.first
          (λ s t. c.in_ok-list.ensures.full s (tested_listed set at rule there c.classes_of.result.now classes s t)));
    }

pub returns : goal.returns
returns c =
    let set = c.args.self.now in
    let n = length set.sites in
    let end : length set.rules ≤ c.loop-rule.rule =
    let e = ap length c.rules-rule-end.ensures in let l = c.loop-rule-test.false in omega (arith, e, l) in
    list_all (λ i l. IsAskedBy (rules_in set) n i (numbers_of l)) c.loop-rule.lists.items c.loop-rule.rule c.loop-rule.invariant.size
    c.loop-rule.invariant.each (λ i l. nothing_asked (rules_in set) n i [] refl (λ s t. never_tested set i s (omega arith) t))
