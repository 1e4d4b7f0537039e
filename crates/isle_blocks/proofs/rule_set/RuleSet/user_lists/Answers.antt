use Rattle.std.proofs.Common.{arith, sym, ◌∙◌, ap, ◌≡◌, ◌<◌, ◌≤◌, ℕ, Some, List, length, slice_get, subst}
use Rattle.isle_trees.specs.Rules.{Elem}
use Rattle.isle_trees.specs.Search.{first_of}
use Rattle.isle_trees.proofs.Building.Asked.{has_tested}
use Rattle.isle_trees.proofs.Building.Bound.{users_all, users_step}
use Rattle.isle_blocks.specs.declared.ids.BindingId.{BindingId}
use Rattle.isle_blocks.specs.Rows.{numbers_of}
use Rattle.isle_blocks.specs.Inside.Trees.Builder.{AreClasses, AreMembers, items_at, rules_in}
use Rattle.isle_blocks.specs.Inside.Trees.Work.{AddsOnly}
use Rattle.isle_blocks.proofs.Trees.Indexed.{rule_there, tested_few, tested_listed, never_has, kept_still, low_still, rising_still}
use Rattle.isle_blocks.proofs.rule_set.RuleSet.user_lists.Goals as goal

pub add_each-requires : goal.add_each-requires
add_each-requires c =
    let set = c.args.self.now in
    let at = c.loop-rule.rule in
    let rule = c.index-rules-rule.result in
    let there : slice_get set.rules at ≡ Some rule =
    rule_there set.rules c.rules.result.now c.rules-rule-end.result.now at rule c.rules.ensures c.rules-rule-end.ensures c.loop-rule-test.true
    c.index-rules-rule.is in
    let P : List (List BindingId) → Type 0 = λ l. AreMembers set at l in
    let members : AreMembers set at c.classes_of.result.now = subst P (sym c.classes_of.ensures) (c.requires.members at) in
    record {
      below = λ x m.
          let Q : List ℕ → Type 0 = λ l. Elem x l in
          let l : x < length set.sites =
          tested_few set at rule there c.classes_of.result.now c.requires.set.within members c.in_ok-sites.ensures.low x
          (subst Q (ap numbers_of c.deref.ensures.value ∙ c.in_ok-sites.ensures.sites) m) in
          let k = c.loop-rule.invariant.size in omega (arith, l, k);
    }

pub loop-rule-preserved : goal.loop-rule-preserved
loop-rule-preserved c =
    let set = c.args.self.now in
    let at = c.loop-rule.rule in
    let rule = c.index-rules-rule.result in
    let there : slice_get set.rules at ≡ Some rule =
    rule_there set.rules c.rules.result.now c.rules-rule-end.result.now at rule c.rules.ensures c.rules-rule-end.ensures c.loop-rule-test.true
    c.index-rules-rule.is in
    let P : List (List BindingId) → Type 0 = λ l. AreClasses set at l in
    let classes : AreClasses set at c.classes_of.result.now = subst P (sym c.classes_of.ensures) (c.requires.classes at) in
    let old = c.loop-rule.lists.items in
    let new = c.add_each.new.lists.items in
    let adds : (s : ℕ) → AddsOnly at (items_at old s) (items_at new s) = c.in_ok-add_each.ensures.added in
    let low : (s x : ℕ) → Elem x (items_at old s) → x ≤ at = λ s x m. let l = c.loop-rule.invariant.low s x m in omega (arith, l) in
    record {
      size = c.in_ok-add_each.ensures.size ∙ c.loop-rule.invariant.size;
      users = users_step (rules_in set) at (items_at old) (items_at new) (λ s x m. kept_still at (items_at old s) (items_at new s) (adds s) x m)
          (λ t e.
          let Q : List ℕ → Type 0 = λ l. Elem (first_of t) l in
          c.in_ok-add_each.ensures.here (first_of t) (subst Q (sym (ap numbers_of c.deref.ensures.value ∙ c.in_ok-sites.ensures.sites))
          (tested_listed set at rule there c.classes_of.result.now classes (first_of t) (has_tested (rules_in set) at t e))))
          c.loop-rule.invariant.users;
      rising = λ s. rising_still at (items_at old s) (items_at new s) (low s) (adds s) (c.loop-rule.invariant.rising s);
      low = λ s x m. let l : x ≤ at = low_still at (items_at old s) (items_at new s) (low s) (adds s) x m in omega (arith, l);
    }

pub returns-clause-users : goal.returns-clause-users
returns-clause-users c =
    let set = c.args.self.now in
    let end : length set.rules ≤ c.loop-rule.rule =
    let e = ap length c.rules-rule-end.ensures in let l = c.loop-rule-test.false in omega (arith, e, l) in
    users_all (rules_in set) (length set.rules) c.loop-rule.rule (items_at c.loop-rule.lists.items) (never_has set) end
    c.loop-rule.invariant.users
