use Rattle.std.proofs.Common.{◌≡◌, ◌∙◌, ◌==◌, rules, tests}
use Rattle.std.specs.List.{list_any}
use Rattle.std.proofs.lemmas.Iterator.{YieldsList-from_slice}
use Rattle.std.proofs.lemmas.Iterator.Search.{any_from_yields_List}
use Rattle.isle_missing.specs.declared.ids.TestId.{TestId}
use Rattle.isle_missing.proofs.Resting.{listed_by_number}
use Rattle.isle_missing.proofs.sites.is_listed.Goals as goal

pub returns : goal.returns
returns c =
    let found : c.any.result ≡ list_any (λ (u : TestId). u.0 == c.args.test.0) c.args.tests.now =
    any_from_yields_List (λ (u : TestId). u.0 == c.args.test.0) _ _ c.any.result c.any.ensures.ran (YieldsList-from_slice c.args.tests.now cc)
    (λ x b q k. search (rules, tests)) in
    found ∙ listed_by_number c.args.tests.now c.args.test.0
