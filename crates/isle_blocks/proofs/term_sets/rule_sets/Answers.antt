use Rattle.std.proofs.Common.{◌≡◌, ◌<◌, ◌+◌, ℕ, List, Vec, Some, length, get_or, slice_get, refl, sym, subst, ◌∙◌, arith}
use Rattle.std.specs.Global.{Global}
use Rattle.std.proofs.lemmas.Result.{err_from_is_err_and}
use Rattle.std.proofs.lemmas.Bool.{eqb-true, eqb-false}
use Rattle.std.proofs.lemmas.Option.{slice_get_read, slice_get_within}
use Rattle.isle_types.proofs.Reading.{fault_weaker}
use Rattle.isle_types.specs.declared.ids.TermId.{TermId}
use Rattle.isle_rules.specs.declared.rules.Rule.{Rule}
use Rattle.isle_blocks.specs.RuleSets.{RulesOverSites}
use Rattle.isle_blocks.specs.DefinedSets.{ListsNumbers, facts_by, rules_by}
use Rattle.isle_blocks.specs.Inside.GatheredSets.{AreSetsBelow, MarksThose, IsLostBelow, IsOfTerm}
use Rattle.isle_blocks.proofs.Sets.DefinedSets.{set_is}
use Rattle.isle_blocks.proofs.Sets.SetsOfTerms.{all_listed, has_rules, has_no_rules, sets_none, sets_skip, sets_push, lost_none, lost_skip, lost_next_term}
use Rattle.isle_blocks.proofs.RuleFaults.SizeFaults.{none_within, within_next, all_within}
use Rattle.isle_blocks.proofs.term_sets.rule_sets.Goals as goal

-- what is said of the list at a place is said of its slice
listed_at : (rules : List Rule) (places : List (Vec ℕ Global)) (term : ℕ) (own : Vec ℕ Global) (slice : List ℕ)
    → ((term : ℕ) (own : Vec ℕ Global) → slice_get places term ≡ Some own → ListsNumbers (IsOfTerm rules term) own.items)
    → term < length places → own ≡ get_or places term own → slice ≡ own.items → ListsNumbers (IsOfTerm rules term) slice
listed_at rules places term own slice each within is same =
    subst (λ (l : List ℕ). ListsNumbers (IsOfTerm rules term) l) (sym same)
    (each term own (slice_get_read places (length places) term own refl within is))

pub loop-term-init : goal.loop-term-init
loop-term-init c = (
  c.requires.lost_fits,
  λ d. (
    subst (λ (sets : List (TermId × RulesOverSites)). AreSetsBelow c.args.termenv.now d 0 sets) (sym c.new-sets.ensures.items)
        (sets_none c.args.termenv.now d),
    lost_none c.args.termenv.now d c.args.lost.now.items,
    λ lesser less. absurd (omega arith),
  ),
)

pub rule_set_of-requires-clause-within : goal.rule_set_of-requires-clause-within
rule_set_of-requires-clause-within c =
    let rules = c.args.termenv.now.rules in let places = c.args.places.now in let term = c.loop-term.term in
    let slice = c.as_slice-own.result.now in
    let listed = listed_at rules places term c.index-places-term.result slice c.requires.listed (omega arith) c.index-places-term.is
    c.as_slice-own.ensures.value in
    all_listed (IsOfTerm rules term) (λ place. place < length rules) slice listed
    (λ place is. slice_get_within rules place is.rule is.at)

pub loop-term-preserved-then-is_empty : goal.loop-term-preserved-then-is_empty
loop-term-preserved-then-is_empty c =
    let env = c.args.termenv.now in let places = c.args.places.now in let term = c.loop-term.term in
    let slice = c.as_slice-own.result.now in
    let listed = listed_at env.rules places term c.index-places-term.result slice c.requires.listed (omega arith) c.index-places-term.is
    c.as_slice-own.ensures.value in
    let none = eqb-true (length slice) 0 (sym c.is_empty.ensures ∙ c.if-is_empty.true) in
    let (fits, all) = c.loop-term.invariant in (
      fits,
      λ d. (
        sets_skip env d term c.loop-term.sets.items (all d).0 (has_no_rules env d term slice listed none),
        lost_skip env d term slice c.args.lost.now.items c.loop-term.lost.items listed none (all d).1,
        within_next (facts_by env d) (rules_by env d) term (all d).2
            (none_within (facts_by env d) (rules_by env d) term (has_no_rules env d term slice listed none)),
      ),
    )

pub loop-term-preserved : goal.loop-term-preserved
loop-term-preserved c =
    let env = c.args.termenv.now in let places = c.args.places.now in let term = c.loop-term.term in
    let slice = c.as_slice-own.result.now in
    let listed = listed_at env.rules places term c.index-places-term.result slice c.requires.listed (omega arith) c.index-places-term.is
    c.as_slice-own.ensures.value in
    let apart = eqb-false (length slice) 0 (sym c.is_empty.ensures ∙ c.if-is_empty.false) in
    let some : 0 < length slice = omega arith in
    let is = c.in_ok-set.ensures in
    let set = c.in_ok-set.set in
    let (fits, all) = c.loop-term.invariant in (
      (is.lost c.requires.defined).fits ∙ fits,
      λ d. (
        subst (λ (sets : List (TermId × RulesOverSites)). AreSetsBelow env d (term + 1) sets) (sym c.in_ok-push.ensures.items)
            (sets_push env d term set c.loop-term.sets.items (all d).0
            (has_rules env d term slice listed some, set_is env d term slice set listed (is.gathered d) is.table is.few)),
        lost_next_term env d term slice c.args.lost.now.items c.loop-term.lost.items c.rule_set_of.new.lost.items listed (all d).1 (is.lost d),
        within_next (facts_by env d) (rules_by env d) term (all d).2 (all_within env d term slice set (is.gathered d) is.few listed),
      ),
    )

pub returns-clause-sets : goal.returns-clause-sets
returns-clause-sets c = λ d.
    let done : c.loop-term.term ≡ length c.args.places.now = omega arith in
    subst (λ (n : ℕ). AreSetsBelow c.args.termenv.now d n c.loop-term.sets.items) done (c.loop-term.invariant.1 d).0

pub returns-clause-lost : goal.returns-clause-lost
returns-clause-lost c = λ d.
    let done : c.loop-term.term ≡ length c.args.places.now = omega arith in
    subst (λ (n : ℕ). MarksThose (IsLostBelow c.args.termenv.now d n) c.args.lost.now.items c.loop-term.lost.items) done (c.loop-term.invariant.1 d).1

pub returns-clause-within : goal.returns-clause-within
returns-clause-within c = λ d lesser less. (c.loop-term.invariant.1 d).2 lesser (omega arith)

pub returns-in_err-set-clause-full : goal.returns-in_err-set-clause-full
returns-in_err-set-clause-full c =
    let rules = c.args.termenv.now.rules in let places = c.args.places.now in let term = c.loop-term.term in
    let slice = c.as_slice-own.result.now in
    let listed = listed_at rules places term c.index-places-term.result slice c.requires.listed (omega arith) c.index-places-term.is
    c.as_slice-own.ensures.value in
    let p = err_from_is_err_and c.from_residual.result c.from_residual.ensures.1 in
    rw (p.1, p.2) (fault_weaker _ _ c.in_err-set.field-0.0
    (λ errors is d. is d term listed (c.loop-term.invariant.1 d).2)
    c.in_err-set.ensures.full)
