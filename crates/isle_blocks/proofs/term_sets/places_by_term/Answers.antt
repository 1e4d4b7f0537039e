use Rattle.std.proofs.Common.{◌≡◌, ◌<◌, ℕ, Some, length, slice_get, refl, sym, ap, subst, ◌∙◌, arith}
use Rattle.std.proofs.lemmas.List.{length-set}
use Rattle.std.proofs.lemmas.Option.{slice_get_read, slice_get_within, same_Some}
use Rattle.isle_types.proofs.Zipped.{all_at}
use Rattle.isle_rules.specs.declared.rules.Rule.{Rule}
use Rattle.isle_blocks.specs.DefinedSets.{ListsNumbers}
use Rattle.isle_blocks.specs.Inside.GatheredSets.{IsOfTerm}
use Rattle.isle_blocks.proofs.Sets.ListedNumbers.{rows_next, numbers_all, Below}
use Rattle.isle_blocks.proofs.term_sets.places_by_term.Goals as goal

pub loop-place-preserved : goal.loop-place-preserved
loop-place-preserved c =
    let rules = c.args.rules.now in
    let n = c.loop-place.place in
    let rule = c.index-rules-place.result in
    let rows = c.loop-place.places.items in
    let home = c.index-term.result in
    let old = c.index_mut.result.now in
    let at : slice_get rules n ≡ Some rule = slice_get_read rules (length rules) n rule refl (omega arith) c.index-rules-place.is in
    let root : home ≡ rule.root_term.0 = c.index-term.ensures ∙ ap (λ (r : Rule). r.root_term.0) (sym c.index-rules-place.is) in
    let below : rule.root_term.0 < c.args.terms = all_at (λ (r : Rule). r.root_term.0 < c.args.terms) rules c.requires.rooted n rule at in
    let within : home < length rows =
    subst (λ (m : ℕ). m < length rows) (sym root) (subst (λ (m : ℕ). rule.root_term.0 < m) (sym c.loop-place.invariant.0) below) in (
      length-set rows home c.push.new.self ∙ c.loop-place.invariant.0,
      rows_next (IsOfTerm rules) n rows home old c.push.new.self
          (slice_get_read rows (length rows) home old refl within c.index_mut.ensures.value) c.in_ok-push.ensures.items
          (record { rule = rule; at = at; of_term = sym root })
          (λ place is. sym is.of_term ∙ ap (λ (r : Rule). r.root_term.0) (same_Some is.rule rule (sym is.at ∙ at)) ∙ sym root)
          c.loop-place.invariant.1,
    )

pub returns-clause-places : goal.returns-clause-places
returns-clause-places c = λ term own at.
    let rules = c.args.rules.now in
    let done : c.loop-place.place ≡ length rules = omega arith in
    numbers_all (IsOfTerm rules term) (length rules) own.items (λ i is. slice_get_within rules i is.rule is.at)
    (subst (λ (n : ℕ). ListsNumbers (Below (IsOfTerm rules term) n) own.items) done (c.loop-place.invariant.1 term own at))
