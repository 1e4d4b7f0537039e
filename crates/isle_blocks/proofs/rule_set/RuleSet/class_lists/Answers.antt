use Rattle.std.proofs.Common.{◌≡◌, ◌≤◌, ◌+◌, ℕ, Some, length, slice_get, ap, ◌∙◌, arith}
use Rattle.std.proofs.lemmas.List.{length_push}
use Rattle.isle_blocks.specs.Inside.Trees.Builder.{AreClasses, AreMembers}
use Rattle.isle_blocks.proofs.Trees.Indexed.{rule_there, classes_are, members_are, list_more, list_all, no_classes}
use Rattle.isle_blocks.proofs.rule_set.RuleSet.class_lists.Goals as goal

pub loop-rule-preserved : goal.loop-rule-preserved
loop-rule-preserved c =
    let set = c.args.self.now in
    let at = c.loop-rule.rule-index in
    let rule = c.rule-item.result in
    let sets = c.in_ok-equal_sites.field-0 in
    let lists = c.loop-rule.lists.items in
    let pushed = c.in_ok-push.ensures.items in
    let there : slice_get set.rules at ≡ Some rule =
    rule_there set.rules c.rules-rule-items.result.now c.rules-rule-items.result.now at rule c.rules-rule-items.ensures c.rules-rule-items.ensures
    c.loop-rule-test.true c.rule-item.is in
    let size = c.loop-rule.invariant.size in
    record {
      size = ap length pushed ∙ length_push lists sets ∙ ap (λ (x : ℕ). x + 1) size;
      classes = list_more (AreClasses set) lists c.push.new.self.items sets at size pushed c.loop-rule.invariant.classes
          (classes_are set at rule there sets.items c.requires.set.within c.requires.few c.in_ok-equal_sites.ensures);
      members = list_more (AreMembers set) lists c.push.new.self.items sets at size pushed c.loop-rule.invariant.members
          (members_are set at rule there sets.items c.in_ok-equal_sites.ensures);
    }

pub returns : goal.returns
returns c =
    let set = c.args.self.now in
    let end : length set.rules ≤ c.loop-rule.rule-index =
    let e = ap length c.rules-rule-items.ensures in let l = c.loop-rule-test.false in omega (arith, e, l) in
    record {
      classes = list_all (AreClasses set) c.loop-rule.lists.items c.loop-rule.rule-index c.loop-rule.invariant.size c.loop-rule.invariant.classes
          (λ i l. no_classes set i (omega arith));
      members = list_all (AreMembers set) c.loop-rule.lists.items c.loop-rule.rule-index c.loop-rule.invariant.size c.loop-rule.invariant.members
          (λ i l x low m. absurd m);
    }
