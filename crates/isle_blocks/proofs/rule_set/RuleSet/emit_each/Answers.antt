use Rattle.std.proofs.Common.{refl, ap, ◌∙◌, ◌++◌, List}
use Rattle.std.specs.List.{filter}
use Rattle.isle_trees.proofs.Building.Gathering.{emits_closure}
use Rattle.isle_blocks.specs.declared.ids.BindingId.{BindingId}
use Rattle.isle_blocks.specs.declared.serializer.known.Known.{Known}
use Rattle.isle_blocks.specs.Rows.{numbers_of}
use Rattle.isle_blocks.specs.Inside.Trees.Builder.{rules_in, scope_of}
use Rattle.isle_blocks.proofs.rule_set.RuleSet.emit_each.Goals as goal

pub returns-clause-emits : goal.returns-clause-emits
returns-clause-emits c =
    let set = c.args.self.now in
    let R = rules_in set in
    let old = c.args.known.now in
    let order = numbers_of c.args.order.now.items in
    let new : Known = record { passed = old.passed; labels = old.labels; emitted = c.closure.new.marks } in
    emits_closure R (numbers_of c.args.sites.now) (scope_of set old) (scope_of set new) old.emitted c.closure.new.marks
    (numbers_of c.in_ok-list.list.items) order (numbers_of c.push_each.new.order.items)
    c.requires.lower c.in_ok-list.ensures (λ s. refl) (λ s. refl) (record { passed = λ s. refl; label = λ s. refl })
    (c.in_ok-push_each.ensures ∙ ap (λ (l : List BindingId). order ++ filter R.stands (numbers_of l)) c.deref.ensures.value)
