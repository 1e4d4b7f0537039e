use Rattle.std.proofs.Common.{map, take, refl, sym, subst, ap, ◌∙◌, ◌<◌, length}
use Rattle.std.proofs.lemmas.Option.{slice_get-get_or}
use Rattle.std.proofs.lemmas.List.{length-map}
use Rattle.isle_terms.specs.TermFaults.{names_of}
use Rattle.isle_terms.specs.Inside.Collecting.NameTables.{IsTableOf}
use Rattle.isle_terms.specs.Inside.Collecting.NamedItems.{named_shown}
use Rattle.isle_terms.proofs.Collections.Checking.{check_same, check_fault}
use Rattle.isle_terms.proofs.Collections.Naming.{names_more, found_is_taken, new_is_distinct, pair_at, count_so_far}
use Rattle.isle_terms.proofs.env.naming.name_all.Goals as goal
use Rattle.isle_terms.proofs.env.naming.name_all.Goals.{then-not-branch+in_ok-report, else-not-branch}

pub loop-i-preserved : goal.loop-i-preserved
loop-i-preserved c =
    let pairs = map named_shown c.args.named.now in
    let i = c.loop-i.i in
    let table = c.loop-i.invariant.0 in
    let checks = c.loop-i.invariant.1 in
    let at = pair_at named_shown c.args.named.now i _ (slice_get-get_or c.args.named.now i _ c.loop-i-test.true) in
    let low : i < length pairs = subst (λ n. i < n) (sym (length-map c.args.named.now named_shown)) c.loop-i-test.true in (
      subst (λ names. IsTableOf names c.add.new.self) (sym (names_more pairs i _ at))
          (c.in_ok-add.ensures.added (names_of (take i pairs)) table (count_so_far pairs i low)),
      elim c.if-not-branch.branch [
        | then-not-branch+in_ok-report w ↦ check_fault c.if-not-branch.errors.items _ _
            (ap (λ v. v.items) w.errors-is ∙ w.in_ok-report.ensures.1)
            (found_is_taken pairs i _ _ at refl (sym (c.in_ok-add.ensures.new _ table) ∙ w.if-not-branch.true)) checks
        | else-not-branch w ↦ check_same c.if-not-branch.errors.items (ap (λ v. v.items) w.errors-is)
            (new_is_distinct pairs i _ _ at refl (sym (c.in_ok-add.ensures.new _ table) ∙ w.if-not-branch.false)) checks
      ],
    )
