use Rattle.std.proofs.Common.{subst, sym, ap, ◌∙◌, true, ◌≡◌, Bool, ◌↔◌}
use Rattle.std.specs.List.{list_all}
use Rattle.isle_program.specs.Facts.Inhabited.{AreAllInhabited}
use Rattle.isle_program.proofs.ProgramFacts.InhabitedMarks.{all_inhabited}
use Rattle.isle_program.proofs.facts.inhabited.are_inhabited.Goals as goal

pub returns : goal.returns
returns c =
    let types = c.args.types.now in let marks = c.mark_types.new.marks.items in
    let last = c.mark_types.ensures in
    let is = c.are_set.ensures ∙ ap (list_all (λ mark. mark)) c.as_slice.ensures.value in
    subst (λ (b : Bool). (b ≡ true) ↔ AreAllInhabited types) (sym is)
    (all_inhabited types marks (last.fits ∙ c.rounds.invariant.0) (last.sound c.rounds.invariant.1) (last.closed c.rounds-test.false))
