use Rattle.std.proofs.Common.{◌++◌, ◌∙◌, [], ap, arith, subst, sym}
use Rattle.std.specs.Prelude.{string_bytes}
use Rattle.isle_tell.specs.TreeTexts.Sets.{IsEntryText}
use Rattle.isle_tell.specs.TreeTexts.Names.{AreTexts, no_texts}
use Rattle.isle_tell.proofs.TreeTexts.KeptTrees.{as_many, entries_all, entry_next, tree_at}
use Rattle.isle_tell.proofs.trees.trees_text.Goals as goal

pub loop-place-init : goal.loop-place-init
loop-place-init c = subst (AreTexts (IsEntryText c.args.program.now c.args.files.now c.args.asked.now) []) (sym c.new-text.ensures.bytes) no_texts

pub bounds-trees-place : goal.bounds-trees-place
bounds-trees-place c =
    let many = as_many c.args.files.now c.args.program.now c.requires c.rule_sets-sets.result.now c.trees-trees.result.now
    c.rule_sets-sets.ensures c.trees-trees.ensures in
    let low = c.loop-place-test.true in omega (arith, many, low)

pub entry_text-requires : goal.entry_text-requires
entry_text-requires c =
    tree_at c.args.files.now c.args.program.now c.requires c.rule_sets-sets.result.now c.trees-trees.result.now c.rule_sets-sets.ensures
    c.trees-trees.ensures c.loop-place.place c.index-sets-place.result c.index-trees-place.result (omega (arith, c.loop-place-test.true))
    c.index-sets-place.is c.index-trees-place.is

pub loop-place-preserved : goal.loop-place-preserved
loop-place-preserved c =
    entry_next c.args.files.now c.args.program.now c.requires c.rule_sets-sets.result.now c.trees-trees.result.now c.rule_sets-sets.ensures
    c.trees-trees.ensures (IsEntryText c.args.program.now c.args.files.now c.args.asked.now) c.loop-place.place c.index-sets-place.result
    c.index-trees-place.result (omega (arith, c.loop-place-test.true)) c.index-sets-place.is c.index-trees-place.is
    (string_bytes c.loop-place.text) (string_bytes c.in_ok-one.one) (string_bytes c.push_str.new.self) c.loop-place.invariant c.in_ok-one.ensures
    (c.in_ok-push_str.ensures.bytes ∙ ap (λ l. string_bytes c.loop-place.text ++ l) c.as_str.ensures.value)

pub returns : goal.returns
returns c =
    entries_all c.args.files.now c.args.program.now c.requires c.rule_sets-sets.result.now c.trees-trees.result.now c.rule_sets-sets.ensures
    c.trees-trees.ensures (IsEntryText c.args.program.now c.args.files.now c.args.asked.now) c.loop-place.place
    (omega (arith, c.loop-place-test.false))
    (string_bytes c.loop-place.text) c.loop-place.invariant
