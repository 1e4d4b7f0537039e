use Rattle.std.proofs.Common.{ℕ, List, length, inl, inr, slice_get, subst, sym, ap, ◌∙◌, arith}
use Rattle.std.specs.List.{filter}
use Rattle.std.proofs.lemmas.Bool.{cases_lt}
use Rattle.std.proofs.lemmas.List.{take_all}
use Rattle.std.proofs.lemmas.Option.{slice_get_past}
use Rattle.isle_rules.specs.declared.rules.Rule.{Rule}
use Rattle.isle_program.specs.Plain.LaidOut.Rules.{is_of_term, AreByPriority, AreTried, listed_in}
use Rattle.isle_program.proofs.Plain.LaidOut.Lists.{tried_of_term, tried_beyond}
use Rattle.isle_program.proofs.program.rules_by_term.Goals as goal

pub returns : goal.returns
returns c = λ t.
    let rules = c.args.termenv.now.rules in
    let count = length c.args.termenv.now.terms in
    let lists = c.loop-place.lists.items in
    let places = c.in_ok-places.places.items in
    let items : List ℕ = c.deref-place-items.result.now in
    let of_term = λ (i : ℕ). is_of_term t (slice_get rules i) in
    let known : AreByPriority rules places =
    subst (λ (all : List Rule). AreByPriority all places) c.rules.ensures c.in_ok-places.ensures in
    let fits = c.loop-place.invariant.fits in
    elim (cases_lt t count) [
      | inl within ↦
          subst (λ (own : List ℕ). AreTried rules t own)
          (sym (c.loop-place.invariant.lists t within
          ∙ ap (filter of_term) (take_all c.loop-place.place-index items (omega arith) ∙ c.deref-place-items.ensures.value)))
          (tried_of_term rules places t known)
      | inr beyond ↦
          subst (λ (own : List ℕ). AreTried rules t own) (sym (ap listed_in (slice_get_past lists t (omega (arith, fits, beyond)))))
          (tried_beyond rules count t c.requires beyond)
    ]
