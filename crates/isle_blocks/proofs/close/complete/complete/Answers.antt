use Rattle.std.proofs.Common.{◌≡◌, ℕ, length, arith, sym, subst, inl, inr}
use Rattle.std.proofs.lemmas.Bool.{cases_lt}
use Rattle.std.proofs.lemmas.Result.{err_from_is_err_and}
use Rattle.isle_blocks.specs.Inside.ClosureStates.{HasFields, Still}
use Rattle.isle_blocks.proofs.Closure.Growth.{grown_state, grown_sites, grown_join, grown_fields}
use Rattle.isle_blocks.proofs.Closure.Full.{runs_out}
use Rattle.isle_blocks.proofs.Closure.FieldOrder.{none_before}
use Rattle.isle_blocks.proofs.close.complete.complete.Goals as goal

pub loop-site-init : goal.loop-site-init
loop-site-init c = record {
  within = omega arith;
  bound = omega arith;
  grows = Still;
  added = λ a h. absurd (omega arith);
  ordered =
      none_before c.args.sites.now 0 0;
}

pub add_fields-requires-clause-state : goal.add_fields-requires-clause-state
add_fields-requires-clause-state c =
    let (equals, state) = c.requires in
    (equals, grown_state _ equals _ _ _ _ c.loop-site.invariant.grows state)

pub returns-in_err-add_fields-clause-full : goal.returns-in_err-add_fields-clause-full
returns-in_err-add_fields-clause-full c =
    let (equals, state) = c.requires in
    let e = err_from_is_err_and c.from_residual.result c.from_residual.ensures.1 in
    rw (e.1, e.2) (λ size. runs_out c.args.own.now equals _ _ _ _ c.loop-site.invariant.grows _ _ (c.in_err-add_fields.ensures.full size))

pub loop-site-preserved : goal.loop-site-preserved
loop-site-preserved c =
    let (equals, first) = c.requires in
    let state = grown_state _ equals _ _ _ _ c.loop-site.invariant.grows first in
    let more = c.in_ok-add_fields.ensures.grows in
    let longer = grown_sites c.args.own.now equals _ _ _ _ more in
    let test = c.loop-site-test.true in let count = c.len.ensures.count in let bound = c.len.ensures.bound in
    record {
      within = omega arith;
      bound = omega arith;
      grows = grown_join c.args.own.now equals _ _ _ _ _ _ c.loop-site.invariant.grows more;
      ordered = c.in_ok-add_fields.ensures.ordered (length c.args.sites.now) c.loop-site.invariant.ordered;
      added = λ a h. elim (cases_lt a c.loop-site.site) [
        | inl less ↦ grown_fields c.args.own.now equals _ _ _ _ more state a (omega arith) (c.loop-site.invariant.added a less)
        | inr more ↦
            let same : a ≡ c.loop-site.site = omega arith in
            subst (λ (z : ℕ). HasFields c.args.own.now c.add_fields.new.sites c.add_fields.new.class.items z)
            (sym same) c.in_ok-add_fields.ensures.added
      ];
    }

pub returns-clause-ordered : goal.returns-clause-ordered
returns-clause-ordered c = c.loop-site.invariant.ordered.ordered
