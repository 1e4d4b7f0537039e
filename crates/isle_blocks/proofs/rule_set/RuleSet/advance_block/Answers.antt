use Rattle.std.proofs.Common.{List, ℕ, Option, MatchOption, ap, subst, ◌∙◌}
use Rattle.isle_trees.specs.Builds.{HasNoTest, IsBest}
use Rattle.isle_trees.specs.Scopes.{counted, others}
use Rattle.isle_blocks.specs.declared.serializer.known.Test.{Test as CodeTest}
use Rattle.isle_blocks.specs.Inside.Trees.Builder.{rules_in, scope_of, test_shown}
use Rattle.isle_blocks.proofs.Trees.Moving.{moved_returns}
use Rattle.isle_blocks.proofs.rule_set.RuleSet.advance_block.Goals as goal

pub step-requires-clause-split : goal.step-requires-clause-split
step-requires-clause-split c =
    let set = c.args.self.now in
    let R = rules_in set in
    let sc = scope_of set c.args.place.known in
    let t = test_shown c.in-Some.test in
    let P : Option CodeTest → Type 0 = λ x. MatchOption x (HasNoTest R c.deref.result.now sc) (λ y. IsBest R c.deref.result.now sc (test_shown y)) in
    record {
      open_is = c.requires.place;
      best = subst (λ (l : List ℕ). IsBest R l sc t) c.deref.ensures.value (subst P c.in-Some.is c.best.ensures);
      chosen_is = c.in_ok-chosen-in-Some.ensures.counted ∙ ap (λ (l : List ℕ). counted R t l) c.deref-in-Some.ensures.value;
      rest_is = c.in_ok-chosen-in-Some.ensures.others ∙ ap (λ (l : List ℕ). others R t l) c.deref-in-Some.ensures.value;
    }

pub returns-in_ok-finish-in-None : goal.returns-in_ok-finish-in-None
returns-in_ok-finish-in-None c =
    let set = c.args.self.now in
    let R = rules_in set in
    let sc = scope_of set c.args.place.known in
    let P : Option CodeTest → Type 0 = λ x. MatchOption x (HasNoTest R c.deref.result.now sc) (λ y. IsBest R c.deref.result.now sc (test_shown y)) in
    moved_returns set c.args.place c.args.work.now.items c.args.nodes.now.items c.finish.new.nodes.items c.requires.place
    (subst (λ (l : List ℕ). HasNoTest R l sc) c.deref.ensures.value (subst P c.in-None.is c.best.ensures)) c.in_ok-finish-in-None.ensures
