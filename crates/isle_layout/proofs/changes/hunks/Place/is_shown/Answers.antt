use Rattle.std.proofs.Common.{◌∙◌, ap, map, sym, take}
use Rattle.std.specs.Prelude.{◌||◌}
use Rattle.std.specs.List.{list_any}
use Rattle.std.proofs.lemmas.Bool.{le-ltb}
use Rattle.isle_layout.specs.Changes.Hunks.{is_change}
use Rattle.isle_layout.specs.Inside.Changes.{edit_of}
use Rattle.isle_layout.proofs.ChangesLemmas.Shown.{shown_by_near}
use Rattle.isle_layout.proofs.changes.hunks.Place.is_shown.Goals as goal

pub returns-else-self-gt0 : goal.returns-else-self-gt0
returns-else-self-gt0 c =
    let steps = c.args.steps.now in
    c.any_change.ensures ∙ ap (λ n. list_any is_change (map edit_of (take n steps))) c.min.ensures ∙ shown_by_near steps
    ∙ ap (λ b. b || list_any is_change (take 4 (map edit_of steps))) (sym (le-ltb 0 c.args.self.left c.if-self-gt0.false))
