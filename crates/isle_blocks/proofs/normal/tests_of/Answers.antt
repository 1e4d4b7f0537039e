use Rattle.std.proofs.Common.{◌≡◌, ℕ, length, get_or, ◌+◌, ◌∙◌, sym, subst, arith, Some, slice_get}
use Rattle.std.proofs.lemmas.Option.{slice_get-get_or}
use Rattle.isle_blocks.specs.declared.ids.BindingId.{BindingId}
use Rattle.isle_blocks.proofs.NormalTests.{AreTestsBelow, tests_all, tests_skip, tests_more}
use Rattle.isle_blocks.proofs.normal.tests_of.Goals as goal
use Rattle.isle_blocks.proofs.normal.tests_of.Goals.{in-Some+in_ok-insert, in_default}

pub loop-k-preserved : goal.loop-k-preserved
loop-k-preserved c =
    let numbers = c.args.numbers.now in let each = c.args.each.now in
    elim c.match-each-k.branch [
      | in-Some+in_ok-insert w ↦
          let k = c.loop-k.k in
          let id : BindingId = get_or numbers k (record { 0 = 0 }) in
          let low = c.loop-k-test.true in
          let fits = c.requires.fits in
          let at : slice_get numbers k ≡ Some id = slice_get-get_or numbers k (record { 0 = 0 }) (omega (arith, low, fits)) in
          tests_more numbers each k c.loop-k.tests c.loop-k.invariant c.requires.once c.match-each-k.tests id w.in-Some.test at w.in-Some.is
          (w.tests-is ∙ w.in_ok-insert.ensures.ok)
      | in_default w ↦
          subst (AreTestsBelow numbers each (c.loop-k.k + 1)) (sym w.tests-is)
          (tests_skip numbers each c.loop-k.k c.loop-k.tests c.loop-k.invariant w.in_default.is)
    ]

pub returns-clause-tests : goal.returns-clause-tests
returns-clause-tests c =
    let test = c.loop-k-test.false in let end = c.loop-k.auto.k-end in
    let last : c.loop-k.k ≡ length c.args.each.now = omega arith in
    tests_all c.args.numbers.now c.args.each.now c.loop-k.tests
    (subst (λ (n : ℕ). AreTestsBelow c.args.numbers.now c.args.each.now n c.loop-k.tests) last c.loop-k.invariant)
