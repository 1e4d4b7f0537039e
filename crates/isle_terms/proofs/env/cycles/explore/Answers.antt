use Rattle.std.proofs.Common.{◌∷◌, inl, set, sym, ◌∙◌, ap, subst, refl, List}
use Rattle.isle_terms.specs.declared.env.cycles.Mark.TheVariants.{Unseen, Open}
use Rattle.isle_terms.specs.declared.env.cycles.Step.{Step}
use Rattle.isle_terms.specs.Inside.Collecting.Graphs.{IsSearching}
use Rattle.isle_terms.proofs.Collections.Cycles.{search_begin, goes_open}
use Rattle.isle_rules.proofs.SetLists.{set_here}
use Rattle.isle_terms.proofs.env.cycles.explore.Goals as goal

pub loop-last-init : goal.loop-last-init
loop-last-init c =
    let first : Step = record { node = c.args.root; place = 0 } in
    let marks = c.args.marks.now.items in
    let pushed = c.in_ok-push.ensures ∙ ap (λ (path : List Step). first ∷ path) c.new-path.ensures in
    record {
      searching = subst (IsSearching c.args.graph.now (set marks c.args.root Open)) (sym pushed)
          (search_begin c.args.graph.now marks first c.requires.searching c.requires.unseen refl);
      goes = goes_open marks c.args.root c.requires.unseen;
      root = inl (set_here marks c.args.root Open Unseen c.requires.unseen);
    }
