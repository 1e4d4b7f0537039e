use Rattle.std.proofs.Common.{◌≡◌, Some, slice_get, sym, subst, true}
use Rattle.std.proofs.lemmas.List.Elements.{All-push}
use Rattle.isle_missing.specs.declared.ids.TestId.{TestId}
use Rattle.isle_blocks.specs.declared.constraint.Constraint.{Constraint}
use Rattle.isle_coverage.specs.Inside.Sites.{AreSingles}
use Rattle.isle_coverage.specs.Inside.Tests.{is_single_test}
use Rattle.isle_coverage.proofs.sites.singles_of.Goals as goal
use Rattle.isle_coverage.proofs.sites.singles_of.Goals.{then-is_single_at+in_ok-push, else-is_single_at}

pub loop-number-preserved : goal.loop-number-preserved
loop-number-preserved c = elim c.if-is_single_at.branch [
  | then-is_single_at+in_ok-push w ↦
      let yes : c.is_single_at.result ≡ true = cc in
      let (d, at, one) = c.is_single_at.ensures yes in
      let here = subst (λ l. slice_get l c.loop-number.number ≡ Some d) c.as_slice-tests.ensures.tests at in
      let more : AreSingles c.args.table.now w.push.new.self.items =
      subst (AreSingles c.args.table.now) (sym w.in_ok-push.ensures.items)
      (All-push (λ (t : TestId). (e : Constraint) × (slice_get c.args.table.now t.0 ≡ Some e) × (is_single_test e ≡ true))
      c.loop-number.singles.items (record { 0 = c.loop-number.number }) c.loop-number.invariant (d, here, one)) in
      subst (λ v. AreSingles c.args.table.now v.items) (sym w.singles-is) more
  | else-is_single_at w ↦ subst (λ v. AreSingles c.args.table.now v.items) (sym w.singles-is) c.loop-number.invariant
]
