use Rattle.std.proofs.Common.{◌≡◌, ◌++◌, ◌∙◌, ℕ, List, Option, ap, ap₂}
use Rattle.std.proofs.lemmas.Result.{IfOk-weaker}
use Rattle.isle_types.specs.declared.ids.TypeId.{TypeId}
use Rattle.isle_blocks.specs.declared.binding.Binding.{Binding}
use Rattle.isle_blocks.specs.declared.rule.Rule.{Rule}
use Rattle.isle_blocks.specs.Trees.Shown.{BlockShown}
use Rattle.isle_blocks.specs.Trees.Views.{shown_steps}
use Rattle.isle_tell.specs.TreeTexts.DotSets.{drawn_of}
use Rattle.isle_tell.specs.TreeTexts.DotSteps.{Drawn, start, steps_graph}
use Rattle.isle_tell.specs.TreeTexts.DotTypes.{types_told}
use Rattle.isle_tell.proofs.TreeTexts.DotScenes.{made_of, same_drawn}
use Rattle.isle_tell.proofs.trees.graphs.set_graph.Goals as goal

pub returns : goal.returns
returns c =
    let program = c.args.program.now in let files = c.args.files.now in let set = c.args.set.now in
    let tree : BlockShown = c.args.tree.now in
    let rules : List Rule = c.rules-rules.result.now in
    let sites : List Binding = c.bindings-sites.result.now in
    let types : List (Option TypeId) = c.as_slice.result.now in
    let told : types ≡ types_told set.sites set.rules =
    c.as_slice.ensures.value ∙ c.in_ok-types.ensures
    ∙ ap₂ (λ (s : List Binding) (r : List Rule). types_told s r) c.bindings-sites.ensures c.rules-rules.ensures in
    let same : made_of program files c.index-term.result rules sites types ≡ drawn_of program files c.args.term set =
    same_drawn program files c.index-term.result c.args.term.0 rules set.rules sites set.sites types (types_told set.sites set.rules)
    c.index-term.ensures c.rules-rules.ensures c.bindings-sites.ensures told in
    let steps : steps_graph (made_of program files c.index-term.result rules sites types) start 1 (shown_steps c.steps.result).tree
    ≡ steps_graph (drawn_of program files c.args.term set) start 1 tree.tree =
    ap (λ (d : Drawn). steps_graph d start 1 (shown_steps c.steps.result).tree) same
    ∙ ap (λ (b : BlockShown). steps_graph (drawn_of program files c.args.term set) start 1 b.tree) c.steps.ensures in
    IfOk-weaker c.format.result _ _
    (λ text is. record {
      built = c.requires;
      is = is ∙ ap₂ (λ (l m : List ℕ). l ++ m) c.in_ok-line.ensures (c.in_ok-steps.ensures ∙ steps);
    })
    c.format.ensures.ok
