use Rattle.std.proofs.Common.{List, ◌∷◌, [], ◌++◌, ◌≡◌, ◌+◌, ◌∙◌, ap, map, take, sym}
use Rattle.std.proofs.lemmas.List.{take_all, take_more}
use Rattle.isle_trees.specs.Rules.{has}
use Rattle.isle_blocks.specs.declared.binding.Binding.{Binding}
use Rattle.isle_blocks.specs.Trees.View.{field_of}
use Rattle.isle_blocks.proofs.Trees.Fields.{fields_more, found_below}
use Rattle.isle_blocks.proofs.rule_set.RuleSet.fields.Goals as goal

pub keep_made-requires-clause-found : goal.keep_made-requires-clause-found
keep_made-requires-clause-found c x e =
    found_below c.args.self.now.sites c.binding-item.result c.find_binding-found.result c.find_binding-found.ensures x e

pub loop-binding-preserved : goal.loop-binding-preserved
loop-binding-preserved c =
    let items = c.as_slice-binding-items.result.now in
    let i = c.loop-binding.binding-index in
    let b = c.binding-item.result in
    let more : take (i + 1) items ≡ take i items ++ b ∷ [] =
    take_more items i b c.loop-binding-test.true ∙ ap (λ (x : Binding). take i items ++ x ∷ []) (sym c.binding-item.is) in
    rw more (fields_more c.args.self.now c.args.site.0 c.args.test (take i items) b c.loop-binding.all.items c.push.new.self.items
    c.find_binding-found.result c.keep_made.result c.site_count-count.ensures.once c.find_binding-found.ensures
    (c.keep_made.ensures (has c.args.test) c.requires.wants) c.in_ok-push.ensures.items c.loop-binding.invariant)

pub returns : goal.returns
returns c =
    c.loop-binding.invariant
    ∙ ap (λ (l : List Binding). map (field_of (λ s. []) c.args.self.now c.args.site.0 c.args.test) l)
    (take_all c.loop-binding.binding-index c.as_slice-binding-items.result.now c.loop-binding-test.false ∙ c.as_slice-binding-items.ensures
    ∙ c.in_ok-bindings.ensures)
