use Rattle.std.proofs.Common.{◌≡◌, ◌≤◌, ◌+◌, ℕ, add-one, take_all, List, [], ◌∷◌, ◌++◌, length, take, get_or, arith, sym, ap, subst, ◌∙◌}
use Rattle.std.proofs.lemmas.Result.{err_from_is_err_and}
use Rattle.std.proofs.lemmas.List.{get_or_default}
use Rattle.std.proofs.lemmas.List.Elements.{Contains-get_or}
use Rattle.std.proofs.Math.Seq.{take-suc}
use Rattle.isle_types.proofs.Reading.{fault_weaker}
use Rattle.isle_blocks.specs.RuleSets.{RulesOverSites}
use Rattle.isle_blocks.specs.Tables.{IsTable}
use Rattle.isle_blocks.specs.Inside.GatheredSets.{GathersRules, none_gathered, MarksThose, AreLost, IsOfTerm}
use Rattle.isle_blocks.proofs.Sets.GatheredRules.{no_lost, lost_more, empty_table}
use Rattle.isle_blocks.proofs.Sets.ListedNumbers.{listed_before}
use Rattle.isle_blocks.proofs.term_sets.rule_set_of.Goals as goal

pub loop-place-init : goal.loop-place-init
loop-place-init c =
    let empty = sym c.new-set.ensures in (
      c.requires.lost_fits,
      subst (λ (set : RulesOverSites). IsTable set.sites) empty empty_table,
      subst (λ (set : RulesOverSites). length set.sites ≤ 65536) empty (omega arith),
      λ d. (
        subst (λ (set : RulesOverSites). GathersRules c.args.termenv.now d [] set) empty none_gathered,
        no_lost c.args.termenv.now d c.args.lost.now.items,
      ),
    )

pub loop-place-preserved : goal.loop-place-preserved
loop-place-preserved c =
    let env = c.args.termenv.now in
    let places = c.args.places.now in
    let k = c.loop-place.place-index in
    let place = get_or places k 0 in
    let more : take (k + 1) places ≡ take k places ++ place ∷ [] = ap (λ n. take n places) (add-one k) ∙ take-suc places k 0 (omega arith) in
    let (fits, table, few, all) = c.loop-place.invariant in (
      (c.in_ok-add_at.ensures.lost c.requires.defined).fits ∙ fits,
      c.in_ok-add_at.ensures.kept,
      c.in_ok-add_at.ensures.few,
      λ d.
          let (gathered, lost) = all d in (
            subst (λ (ps : List ℕ). GathersRules env d ps c.add_at.new.set) (sym more) (c.in_ok-add_at.ensures.gathered d (take k places) gathered),
            subst (λ (ps : List ℕ). MarksThose (AreLost env d ps) c.args.lost.now.items c.add_at.new.lost.items) (sym more)
                (lost_more env d (take k places) place c.args.lost.now.items c.loop-place.lost.items c.add_at.new.lost.items lost
                (c.in_ok-add_at.ensures.lost d)),
          ),
    )

pub returns-clause-gathered : goal.returns-clause-gathered
returns-clause-gathered c = λ d.
    let (fits, table, few, all) = c.loop-place.invariant in
    subst (λ (ps : List ℕ). GathersRules c.args.termenv.now d ps c.loop-place.set)
    (take_all c.loop-place.place-index c.args.places.now (omega arith)) (all d).0

pub returns-clause-lost : goal.returns-clause-lost
returns-clause-lost c = λ d.
    let (fits, table, few, all) = c.loop-place.invariant in
    subst (λ (ps : List ℕ). MarksThose (AreLost c.args.termenv.now d ps) c.args.lost.now.items c.loop-place.lost.items)
    (take_all c.loop-place.place-index c.args.places.now (omega arith)) (all d).1

pub returns-in_err-add_at-clause-full : goal.returns-in_err-add_at-clause-full
returns-in_err-add_at-clause-full c =
    let env = c.args.termenv.now in
    let places = c.args.places.now in
    let k = c.loop-place.place-index in
    let place = get_or places k 0 in
    let (fits, table, few, all) = c.loop-place.invariant in
    let p = err_from_is_err_and c.from_residual.result c.from_residual.ensures.1 in
    rw (p.1, p.2) (fault_weaker _ _ c.in_err-add_at.field-0.0
    (λ errors is d term listed lesser. is d (take k places) term (all d).0
    (record {
      here = (listed.all place).0 (Contains-get_or places k 0 (omega arith));
      earlier = listed_before (IsOfTerm env.rules term) places k place listed (omega arith) (get_or_default places k place 0 (omega arith));
    })
    lesser)
    c.in_err-add_at.ensures.full)
