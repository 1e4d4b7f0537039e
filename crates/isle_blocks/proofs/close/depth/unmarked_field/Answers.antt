use Rattle.std.proofs.Common.{◌≡◌, ◌<◌, inl, inr, ℕ, length, ap, sym, ◌∙◌, subst, arith}
use Rattle.std.proofs.lemmas.Bool.{cases_lt}
use Rattle.std.proofs.lemmas.Option.{slice_get_within}
use Rattle.isle_blocks.specs.Inside.ClosureFields.{field_binding, kind_of}
use Rattle.isle_blocks.specs.Inside.ClosureStates.{is_marked, IsRootOf}
use Rattle.isle_blocks.proofs.Closure.Likes.{one_root}
use Rattle.isle_blocks.proofs.close.depth.unmarked_field.Goals as goal
use Rattle.isle_blocks.proofs.close.depth.unmarked_field.Goals.{in-Some+else-not-marks-k, in_default}

pub loop-index-preserved : goal.loop-index-preserved
loop-index-preserved c = λ i k h root. elim (cases_lt i c.loop-index.index) [
  | inl less ↦ c.loop-index.invariant i k less root
  | inr more ↦
      let s : i ≡ c.loop-index.index = omega arith in
      let here = subst (λ (z : ℕ). IsRootOf c.args.sites.now c.args.class.now (field_binding (kind_of c.args.opening.variant) c.args.source z) k)
      s root in
      elim c.match-field_root.branch [
        | in-Some+else-not-marks-k w ↦
            let same : w.in-Some.k ≡ k = one_root _ c.requires.once _ _ _ _ w.in-Some.ensures here in
            ap (is_marked c.args.marks.now) (sym same) ∙ w.if-not-marks-k.false
        | in_default w ↦ absurd (w.in_default.ensures here.0 here.1)
      ]
]

pub bounds-marks-k : goal.bounds-marks-k
bounds-marks-k c =
    let (g, at, leads) = c.in-Some.ensures in
    let within = slice_get_within c.args.sites.now g _ at in let fits = c.requires.marks in
    let low = subst (λ (z : ℕ). z < length c.args.sites.now) leads (c.requires.classes.below g within) in omega arith

pub returns-clause-none : goal.returns-clause-none
returns-clause-none c = λ i k h root. let t = c.loop-index-test.false in c.loop-index.invariant i k (omega arith) root
