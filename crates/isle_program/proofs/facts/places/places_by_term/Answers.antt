use Rattle.std.proofs.Common.{◌≡◌, ◌<◌, ◌+◌, ◌-◌, ◌∷◌, [], ℕ, suc, List, length, drop, get_or, drop_of_length-le, sym, ap, ◌∙◌, subst, arith}
use Rattle.std.proofs.lemmas.List.{length-set, length-replicate}
use Rattle.isle_types.specs.declared.ids.TermId.{TermId}
use Rattle.isle_rules.proofs.Visiting.VisitRuns.{cut}
use Rattle.isle_blocks.specs.RuleSets.{RulesOverSites}
use Rattle.isle_program.specs.Trees.{place_of_set}
use Rattle.isle_program.proofs.ProgramFacts.Places.{places_next, no_places}
use Rattle.isle_program.proofs.facts.places.places_by_term.Goals as goal

pub loop-place-init : goal.loop-place-init
loop-place-init c =
    let sets = c.args.sets.now in
    let fresh = c.in_ok-places.ensures.items_if_clones_equal (λ y q. q) in
    let past : drop (length sets) sets ≡ [] = drop_of_length-le sets {i = length sets} (omega arith) in
    let none : length sets ≡ length sets + 0 = omega arith in (
      ap (λ (l : List ℕ). length l) fresh ∙ length-replicate c.args.terms (length sets),
      λ n. ap (λ (l : List ℕ). get_or l n (length sets)) fresh ∙ no_places c.args.terms (length sets) n ∙ none
          ∙ ap (λ (l : List (TermId × RulesOverSites)). length sets + place_of_set l n) (sym past),
    )

pub loop-place-preserved : goal.loop-place-preserved
loop-place-preserved c =
    let sets = c.args.sets.now in let i = c.loop-place.place - 1 in let own = c.index-sets-place.result in let now = c.loop-place.places.items in
    let low : i < length sets = (let some = c.loop-place-test.true in let most = c.loop-place.auto.place in omega (arith, some, most)) in
    let next : i + 1 ≡ c.loop-place.place = (let some = c.loop-place-test.true in omega (arith, some)) in
    let above : c.loop-place.place ≡ suc i = omega (arith, next) in
    let front : drop i sets ≡ own ∷ drop c.loop-place.place sets =
    cut sets i own low c.index-sets-place.is ∙ ap (λ (k : ℕ). own ∷ drop k sets) next in
    let inside : own.0.0 < length now =
    (let within = subst (λ (s : TermId × RulesOverSites). s.0.0 < c.args.terms) (sym c.index-sets-place.is) (c.requires i own low) in
    let fits = c.loop-place.invariant.0 in omega (arith, within, fits)) in
    let before = λ (n : ℕ). c.loop-place.invariant.1 n ∙ ap (λ (k : ℕ). k + place_of_set (drop c.loop-place.place sets) n) above in (
      ap (λ (l : List ℕ). length l) c.set_place.ensures ∙ length-set now own.0.0 i ∙ c.loop-place.invariant.0,
      λ n. ap (λ (l : List ℕ). get_or l n (length sets)) c.set_place.ensures
          ∙ places_next now own (drop c.loop-place.place sets) i (length sets) inside before n
          ∙ ap (λ (l : List (TermId × RulesOverSites)). i + place_of_set l n) (sym front),
    )

pub returns : goal.returns
returns c = λ n.
    let none : c.loop-place.place ≡ 0 = (let past = c.loop-place-test.false in omega (arith, past)) in
    let all : 0 + place_of_set c.args.sets.now n ≡ place_of_set c.args.sets.now n = omega arith in
    c.loop-place.invariant.1 n ∙ ap (λ (k : ℕ). k + place_of_set (drop k c.args.sets.now) n) none ∙ all
