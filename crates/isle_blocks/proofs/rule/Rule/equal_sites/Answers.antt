use Rattle.std.proofs.Common.{◌+◌, ◌++◌, ◌∷◌, [], inl, inr, List, sym, ap, subst, ◌∙◌, arith}
use Rattle.std.proofs.lemmas.Bool.{eqb-true, eqb-false}
use Rattle.isle_blocks.specs.declared.ids.BindingId.{BindingId}
use Rattle.isle_blocks.proofs.Sets.ListedSets.{AreListedBelow, Takes, none_listed, nothing_taken, one_taken, all_listed}
use Rattle.isle_blocks.proofs.rule.Rule.equal_sites.Goals.{then-not-is_empty+in_ok-push, else-not-is_empty}
use Rattle.isle_blocks.proofs.rule.Rule.equal_sites.Goals.{else-loop-number-test, then-loop-number-test+then-is_empty}
use Rattle.isle_blocks.proofs.rule.Rule.equal_sites.Goals as goal

pub loop-number-init : goal.loop-number-init
loop-number-init c =
    let equals = c.args.self.now.equals in let left = c.in_ok-left.left in
    subst (λ (sets : List (List BindingId)). AreListedBelow equals left sets 0) (sym c.new-sets.ensures.items)
    (none_listed equals left c.in_ok-left.ensures.cases)

pub loop-number-preserved : goal.loop-number-preserved
loop-number-preserved c =
    let equals = c.args.self.now.equals in let left = c.loop-number.left in let rest = c.remove_set_of.new.self in
    let sets = c.loop-number.sets.items in let set = c.in_ok-set.set.items in let n = c.loop-number.number in
    let takes : Takes left (record { 0 = n }) set rest = record {
      moved = c.in_ok-set.ensures.members;
      sorted = c.in_ok-set.ensures.ascending;
      parted = c.in_ok-set.ensures.parted;
      joined = c.in_ok-set.ensures.joined;
    } in
    elim c.if-not-is_empty.branch [
      | then-not-is_empty+in_ok-push w ↦
          let apart = eqb-false c.in_ok-set.set.len 0 (sym c.is_empty-in-loop-number.ensures ∙ w.if-not-is_empty.true) in
          subst (λ (l : List (List BindingId)). AreListedBelow equals rest l (n + 1)) (sym (ap (λ v. v.items) w.sets-is ∙ w.in_ok-push.ensures.items
          ∙ ap (λ (l : List BindingId). sets ++ l ∷ []) w.new.ensures))
          (one_taken equals left sets n c.loop-number.invariant c.sets_are_disjoint.ensures set rest takes (omega (arith, c.in_ok-set.set.ok.0)))
      | else-not-is_empty w ↦
          let none = eqb-true c.in_ok-set.set.len 0 (sym c.is_empty-in-loop-number.ensures ∙ w.if-not-is_empty.false) in
          subst (λ (l : List (List BindingId)). AreListedBelow equals rest l (n + 1)) (sym (ap (λ v. v.items) w.sets-is))
          (nothing_taken equals left sets n c.loop-number.invariant c.sets_are_disjoint.ensures set rest takes (omega (arith, c.in_ok-set.set.ok.0)))
    ]

pub returns : goal.returns
returns c =
    let equals = c.args.self.now.equals in let left = c.loop-number.left in let sets = c.loop-number.sets.items in let n = c.loop-number.number in
    elim c.loop-number-test.branch [
      | else-loop-number-test w ↦ all_listed equals left sets n c.loop-number.invariant (inr w.loop-number-test.false)
      | then-loop-number-test+then-is_empty w ↦ all_listed equals left sets n c.loop-number.invariant (inl (w.is_empty.ensures.0 w.if-is_empty.true))
    ]
