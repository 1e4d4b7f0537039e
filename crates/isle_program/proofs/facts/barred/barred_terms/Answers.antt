use Rattle.std.proofs.Common.{List, [], length, Vec, ℕ, sym, ap, ◌∙◌, subst}
use Rattle.std.specs.Global.{Global}
use Rattle.isle_program.specs.Inside.Facts.Spreading.{IsSpread}
use Rattle.isle_program.proofs.ProgramFacts.Reaching.{spread_marks}
use Rattle.isle_program.proofs.facts.barred.barred_terms.Goals as goal

pub spread-requires : goal.spread-requires
spread-requires c = ap (λ (l : List (Vec ℕ Global)). length l) c.as_slice.ensures.value ∙ (c.in_ok-lists.ensures []).fits
    ∙ sym c.in_ok-marks.ensures.fits

pub returns : goal.returns
returns c =
    let tyenv = c.args.tyenv.now in let env = c.args.termenv.now in
    spread_marks tyenv env c.requires c.in_ok-marks.marks.items c.in_ok-marks.ensures.fits c.in_ok-marks.ensures.marks c.in_ok-lists.lists.items
    (c.in_ok-lists.ensures tyenv.names) c.spread.new.marks.items
    (subst (λ (l : List (Vec ℕ Global)). IsSpread l c.in_ok-marks.marks.items c.spread.new.marks.items) c.as_slice.ensures.value
    c.in_ok-spread.ensures)
