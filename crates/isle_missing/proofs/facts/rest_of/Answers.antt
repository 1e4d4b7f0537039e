use Rattle.std.proofs.Common.{◌≡◌, inr, Some, sym, ◌∙◌}
use Rattle.isle_missing.specs.Sites.{numbers, all_tests}
use Rattle.isle_missing.proofs.Resting.{all_failed, others_failed, two_open}
use Rattle.isle_missing.proofs.facts.rest_of.Goals as goal

pub returns-in-None : goal.returns-in-None
returns-in-None c =
    let all : all_tests c.args.sites.now c.args.site.0 ≡ Some (numbers c.in-Some.tests.now) = sym c.in-Some.ensures in
    (numbers c.in-Some.tests.now, all, all_failed c.args.facts.now c.args.site.0 c.in-Some.tests.now c.in-None.ensures)

pub returns-in-Some-open_test : goal.returns-in-Some-open_test
returns-in-Some-open_test c =
    let all : all_tests c.args.sites.now c.args.site.0 ≡ Some (numbers c.in-Some.tests.now) = sym c.in-Some.ensures in
    inr (
      numbers c.in-Some.tests.now,
      all,
      two_open c.args.facts.now c.args.site.0 c.in-Some.tests.now c.in-Some-open_test.known (c.in-Some-open_test.ensures.0)
          (c.in-Some-open_test.ensures.1) (sym c.has_other_open.ensures ∙ c.if-has_other_open.true),
    )

pub returns-in-Some-2 : goal.returns-in-Some-2
returns-in-Some-2 c =
    let all : all_tests c.args.sites.now c.args.site.0 ≡ Some (numbers c.in-Some.tests.now) = sym c.in-Some.ensures in (
      numbers c.in-Some.tests.now,
      all,
      others_failed c.args.facts.now c.args.site.0 c.in-Some.tests.now c.in-Some-open_test.known
          (sym c.has_other_open.ensures ∙ c.if-has_other_open.false),
    )
