use Rattle.std.proofs.Common.{◌≡◌, ◌++◌, ◌∷◌, [], ℕ, List, ◌+◌, take, add-one, sym, ap, subst, ◌∙◌, arith, take_all}
use Rattle.std.proofs.Math.Seq.{take-suc}
use Rattle.isle_types.specs.declared.ids.TermId.{TermId}
use Rattle.isle_blocks.specs.declared.faults.Fault.TheVariants.{Overlap, Shadow}
use Rattle.isle_blocks.specs.Inside.RivalLists.{AddsPairs, ListsFaults, no_set_listed, passed_over, one_set_listed}
use Rattle.isle_rules.specs.Shown.TermTables.{is_multi_in}
use Rattle.isle_blocks.specs.RuleSets.{RulesOverSites}
use Rattle.isle_blocks.proofs.checking.faults_in.Goals as goal
use Rattle.isle_blocks.proofs.checking.faults_in.Goals.{then-not-is_multi+in_ok-push_faults, else-not-is_multi}

pub loop-set-init : goal.loop-set-init
loop-set-init c = (
  subst (λ (l : List (ℕ × ℕ)). ListsFaults (is_multi_in c.args.termenv.now) Overlap [] l) (sym c.new.ensures.items) no_set_listed,
  subst (λ (l : List (ℕ × ℕ)). ListsFaults (is_multi_in c.args.termenv.now) Shadow [] l) (sym c.new-2.ensures.items) no_set_listed,
)

pub loop-set-preserved : goal.loop-set-preserved
loop-set-preserved c =
    let sets = c.args.sets.now in
    let k = c.loop-set.set-index in
    let pair = c.set-item.result in
    let more : take (k + 1) sets ≡ take k sets ++ pair ∷ [] =
    ap (λ n. take n sets) (add-one k) ∙ take-suc sets k pair (omega arith) ∙ ap (λ (x : TermId × RulesOverSites). take k sets ++ x ∷ [])
    (sym c.set-item.is) in
    let multi = is_multi_in c.args.termenv.now in
    elim c.if-not-is_multi.branch [
      | then-not-is_multi+in_ok-push_faults w ↦
          let single = sym c.is_multi.ensures ∙ w.if-not-is_multi.true in
          rw (more, w.found-is) (
            one_set_listed w.push_faults.new.found.overlaps.items pair c.loop-set.invariant.0 single
                (subst (λ rules. AddsPairs rules Overlap c.loop-set.found.overlaps.items w.push_faults.new.found.overlaps.items) w.rules.ensures
                w.in_ok-push_faults.ensures.overlaps),
            one_set_listed w.push_faults.new.found.shadows.items pair c.loop-set.invariant.1 single
                (subst (λ rules. AddsPairs rules Shadow c.loop-set.found.shadows.items w.push_faults.new.found.shadows.items) w.rules.ensures
                w.in_ok-push_faults.ensures.shadows),
          )
      | else-not-is_multi w ↦
          let is = sym c.is_multi.ensures ∙ w.if-not-is_multi.false in
          rw (more, w.found-is) (passed_over pair c.loop-set.invariant.0 is, passed_over pair c.loop-set.invariant.1 is)
    ]

pub returns-clause-overlaps : goal.returns-clause-overlaps
returns-clause-overlaps c =
    subst (λ (l : List (TermId × RulesOverSites)). ListsFaults (is_multi_in c.args.termenv.now) Overlap l c.loop-set.found.overlaps.items)
    (take_all c.loop-set.set-index c.args.sets.now (omega arith)) c.loop-set.invariant.0

pub returns-clause-shadows : goal.returns-clause-shadows
returns-clause-shadows c =
    subst (λ (l : List (TermId × RulesOverSites)). ListsFaults (is_multi_in c.args.termenv.now) Shadow l c.loop-set.found.shadows.items)
    (take_all c.loop-set.set-index c.args.sets.now (omega arith)) c.loop-set.invariant.1
