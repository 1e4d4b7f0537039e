use Rattle.std.proofs.Common.{◌≡◌, ℕ, arith, sym, subst, inl, inr}
use Rattle.std.proofs.lemmas.Bool.{cases_lt}
use Rattle.std.proofs.lemmas.Result.{err_from_is_err_and}
use Rattle.isle_blocks.specs.Inside.ClosureFields.{kind_of}
use Rattle.isle_blocks.specs.Inside.ClosureStates.{HasField, Still}
use Rattle.isle_blocks.proofs.Closure.Growth.{grown_state, grown_sites, grown_join, grown_longer}
use Rattle.isle_blocks.proofs.Closure.Full.{runs_out, opened_still, like_there, has_all}
use Rattle.isle_blocks.proofs.Closure.FieldOrder.{to_site}
use Rattle.isle_blocks.proofs.close.complete.add_fields.Goals as goal

pub returns-in_default-clause-grows : goal.returns-in_default-clause-grows
returns-in_default-clause-grows c = Still

pub returns-in_default-opens-clause-grows : goal.returns-in_default-opens-clause-grows
returns-in_default-opens-clause-grows c = Still

pub loop-index-init : goal.loop-index-init
loop-index-init c = record { bound = c.requires.bound; grows = Still; added = λ i h. absurd (omega arith); ordered = λ first h. h }

pub add_field-requires-clause-classes : goal.add_field-requires-clause-classes
add_field-requires-clause-classes c =
    let (equals, state) = c.requires.state in
    (grown_state _ equals _ _ _ _ c.loop-index.invariant.grows state).classes

pub add_field-requires-clause-site_in : goal.add_field-requires-clause-site_in
add_field-requires-clause-site_in c =
    let (equals, state) = c.requires.state in
    let longer = grown_sites c.args.own.now equals _ _ _ _ c.loop-index.invariant.grows in
    let inside = c.requires.site_in in omega arith

pub add_field-requires-clause-like : goal.add_field-requires-clause-like
add_field-requires-clause-like c =
    let (equals, state) = c.requires.state in
    like_there _ equals _ _ _ _ c.loop-index.invariant.grows state c.args.site c.requires.site_in c.index.result.now c.index.ensures
    c.in-Some.test c.in-Some.ensures c.in-Some-opens.opening c.in-Some-opens.ensures c.loop-index.index c.loop-index-test.true

pub returns-in_err-add_field-clause-full : goal.returns-in_err-add_field-clause-full
returns-in_err-add_field-clause-full c =
    let (equals, state) = c.requires.state in
    let e = err_from_is_err_and c.from_residual.result c.from_residual.ensures.1 in
    let opened = opened_still _ equals _ _ _ _ c.loop-index.invariant.grows state c.args.site c.requires.site_in c.index.result.now c.index.ensures
    c.in-Some.test c.in-Some.ensures c.in-Some-opens.opening c.in-Some-opens.ensures c.loop-index.index c.loop-index-test.true in
    rw (e.1, e.2) (λ size. runs_out c.args.own.now equals _ _ _ _ c.loop-index.invariant.grows _ _
    (c.in_err-add_field.ensures.full size c.args.own.now opened))

pub loop-index-preserved : goal.loop-index-preserved
loop-index-preserved c =
    let (equals, state) = c.requires.state in
    let opened = opened_still _ equals _ _ _ _ c.loop-index.invariant.grows state c.args.site c.requires.site_in c.index.result.now c.index.ensures
    c.in-Some.test c.in-Some.ensures c.in-Some-opens.opening c.in-Some-opens.ensures c.loop-index.index c.loop-index-test.true in
    let more = c.in_ok-add_field.ensures.grows c.args.own.now opened in
    record {
      bound = c.in_ok-add_field.ensures.bound;
      grows = grown_join c.args.own.now equals _ _ _ _ _ _ c.loop-index.invariant.grows more;
      ordered = λ first h. c.in_ok-add_field.ensures.ordered first (c.loop-index.invariant.ordered first h);
      added = λ i h. elim (cases_lt i c.loop-index.index) [
        | inl less ↦
            let (f, there) = c.loop-index.invariant.added i less in
            (f, grown_longer c.args.own.now equals _ _ _ _ more f _ there)
        | inr more ↦
            let same : i ≡ c.loop-index.index = omega arith in
            subst (λ (z : ℕ). HasField c.add_field.new.sites (kind_of c.in-Some-opens.opening.variant) c.args.site z)
            (sym same) c.in_ok-add_field.ensures.added
      ];
    }

pub returns-clause-added : goal.returns-clause-added
returns-clause-added c =
    let (equals, state) = c.requires.state in
    has_all _ equals _ _ _ _ c.loop-index.invariant.grows state c.args.site c.requires.site_in c.index.result.now c.index.ensures
    c.in-Some.test c.in-Some.ensures c.in-Some-opens.opening c.in-Some-opens.ensures
    (λ i h. let t = c.loop-index-test.false in c.loop-index.invariant.added i (omega arith))

pub returns-in_default-clause-ordered : goal.returns-in_default-clause-ordered
returns-in_default-clause-ordered c = λ first h. to_site first c.args.sites.now c.args.site 0 h

pub returns-in_default-opens-clause-ordered : goal.returns-in_default-opens-clause-ordered
returns-in_default-opens-clause-ordered c = λ first h. to_site first c.args.sites.now c.args.site 0 h

pub returns-clause-ordered : goal.returns-clause-ordered
returns-clause-ordered c = λ first h. to_site first c.loop-index.sites c.args.site c.loop-index.index (c.loop-index.invariant.ordered first h)
