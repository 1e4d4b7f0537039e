use Rattle.std.proofs.Common.{◌≡◌, ◌<◌, ◌+◌, ◌-◌, ◌∷◌, [], ℕ, List, length, drop, get_or, drop_of_length-le, sym, ap, ◌∙◌, subst, arith}
use Rattle.std.specs.List.{sum_by}
use Rattle.std.proofs.lemmas.List.{length-set, length-replicate}
use Rattle.isle_types.specs.declared.ids.TermId.{TermId}
use Rattle.isle_rules.proofs.Visiting.VisitRuns.{cut}
use Rattle.isle_blocks.specs.RuleSets.{RulesOverSites}
use Rattle.isle_program.specs.Facts.Steps.{rule_steps, steps_in}
use Rattle.isle_program.proofs.ProgramFacts.Steps.{steps_next, no_steps}
use Rattle.isle_program.proofs.facts.steps.steps_by_term.Goals as goal

pub loop-place-init : goal.loop-place-init
loop-place-init c =
    let fresh = c.in_ok-steps.ensures.items_if_clones_equal (λ y q. q) in
    let past : drop (length c.args.sets.now) c.args.sets.now ≡ [] = drop_of_length-le c.args.sets.now {i = length c.args.sets.now} (omega arith) in (
      ap (λ (l : List ℕ). length l) fresh ∙ length-replicate c.args.terms 0,
      λ n. ap (λ (l : List ℕ). get_or l n 0) fresh ∙ no_steps c.args.terms n ∙ ap (λ (l : List (TermId × RulesOverSites)). steps_in l n) (sym past),
    )

pub loop-place-preserved : goal.loop-place-preserved
loop-place-preserved c =
    let sets = c.args.sets.now in let i = c.loop-place.place - 1 in let own = c.index-sets-place.result in let now = c.loop-place.steps.items in
    let low : i < length sets = (let some = c.loop-place-test.true in let most = c.loop-place.auto.place in omega (arith, some, most)) in
    let next : i + 1 ≡ c.loop-place.place = (let some = c.loop-place-test.true in omega (arith, some)) in
    let front : drop i sets ≡ own ∷ drop c.loop-place.place sets =
    cut sets i own low c.index-sets-place.is ∙ ap (λ (k : ℕ). own ∷ drop k sets) next in
    let inside : own.0.0 < length now =
    (let within = subst (λ (s : TermId × RulesOverSites). s.0.0 < c.args.terms) (sym c.index-sets-place.is) (c.requires i own low) in
    let fits = c.loop-place.invariant.0 in omega (arith, within, fits)) in
    let steps = c.steps_of_rules.ensures ∙ ap (sum_by rule_steps) c.rules.ensures in (
      ap (λ (l : List ℕ). length l) c.set_number.ensures ∙ length-set now own.0.0 c.steps_of_rules.result ∙ c.loop-place.invariant.0,
      λ n. ap (λ (l : List ℕ). get_or l n 0) c.set_number.ensures
          ∙ steps_next now own (drop c.loop-place.place sets) c.steps_of_rules.result inside steps c.loop-place.invariant.1 n
          ∙ ap (λ (l : List (TermId × RulesOverSites)). steps_in l n) (sym front),
    )

pub returns : goal.returns
returns c = λ n.
    let none : c.loop-place.place ≡ 0 = (let past = c.loop-place-test.false in omega (arith, past)) in
    c.loop-place.invariant.1 n ∙ ap (λ (k : ℕ). steps_in (drop k c.args.sets.now) n) none
