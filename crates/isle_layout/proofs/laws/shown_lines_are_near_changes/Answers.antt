use Rattle.isle_layout.proofs.ChangesLemmas.Near.{shown_near}
use Rattle.isle_layout.proofs.laws.shown_lines_are_near_changes.Goals as goal

pub returns : goal.returns
returns c = shown_near
