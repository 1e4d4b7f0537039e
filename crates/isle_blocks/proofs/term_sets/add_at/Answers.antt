use Rattle.std.proofs.Common.{length, get_or, inl, inr, refl, ◌∙◌, ap}
use Rattle.std.proofs.lemmas.Option.{slice_get_read}
use Rattle.isle_types.proofs.Reading.{fault_weaker}
use Rattle.isle_blocks.proofs.RuleFaults.SizeFaults.{one_size_fault}
use Rattle.isle_blocks.proofs.Sets.GatheredRules.{defined_at, term_within, gather_next, lost_next}
use Rattle.isle_blocks.proofs.term_sets.add_at.Goals.{then-not-added, else-not-added}
use Rattle.isle_blocks.proofs.term_sets.add_at.Goals as goal

pub add-requires-clause-defined : goal.add-requires-clause-defined
add-requires-clause-defined c =
    let env = c.args.termenv.now in let rule = c.index-rules-place.result in
    defined_at env c.requires.defined c.args.place rule
    (slice_get_read env.rules (length env.rules) c.args.place rule refl c.requires.within
    (c.index-rules-place.is ∙ ap (λ rules. get_or rules c.args.place rule) c.rules.ensures))

pub returns-clause-gathered : goal.returns-clause-gathered
returns-clause-gathered c = λ d before gathered.
    let env = c.args.termenv.now in let rule = c.index-rules-place.result in
    let at = slice_get_read env.rules (length env.rules) c.args.place rule refl c.requires.within
    (c.index-rules-place.is ∙ ap (λ rules. get_or rules c.args.place rule) c.rules.ensures) in
    gather_next env d before c.args.place rule c.args.set.now c.add.new.self c.is_partial-partial.result c.in-Ok.added gathered at
    (c.is_partial-partial.ensures d (term_within env d c.args.place rule at)) c.in-Ok.ensures.adds

pub returns-clause-lost : goal.returns-clause-lost
returns-clause-lost c = λ d.
    let env = c.args.termenv.now in let rule = c.index-rules-place.result in
    let at = slice_get_read env.rules (length env.rules) c.args.place rule refl c.requires.within
    (c.index-rules-place.is ∙ ap (λ rules. get_or rules c.args.place rule) c.rules.ensures) in
    lost_next env d c.args.place rule c.args.set.now c.add.new.self c.is_partial-partial.result c.in-Ok.added at c.in-Ok.ensures.adds
    c.args.lost.now.items c.if-not-added.lost.items c.requires.lost_fits
    (elim c.if-not-added.branch [
      | then-not-added w ↦ inr (w.if-not-added.true, ap (λ v. v.items) w.lost-is ∙ w.set_mark.ensures)
      | else-not-added w ↦ inl (w.if-not-added.false, ap (λ v. v.items) w.lost-is)
    ])

pub returns-in-Err-clause-full : goal.returns-in-Err-clause-full
returns-in-Err-clause-full c =
    let env = c.args.termenv.now in let rule = c.index-rules-place.result in
    let at = slice_get_read env.rules (length env.rules) c.args.place rule refl c.requires.within
    (c.index-rules-place.is ∙ ap (λ rules. get_or rules c.args.place rule) c.rules.ensures) in
    fault_weaker _ _ c.site_error.result
    (λ errors (size, alone) d before term gathered up lesser.
    one_size_fault env d term before c.args.place rule c.args.set.now c.is_partial-partial.result errors.items at
    (c.is_partial-partial.ensures d (term_within env d c.args.place rule at)) (c.in-Err.ensures.full size) alone gathered c.requires.fits up lesser)
    c.site_error.ensures
