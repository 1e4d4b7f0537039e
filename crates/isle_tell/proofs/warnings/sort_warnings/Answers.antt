use Rattle.std.proofs.Common.{rules}
use Rattle.std.proofs.lemmas.List.Sorted.{answers_always}
use Rattle.std.proofs.lemmas.Result.{on_ok_weaker}
use Rattle.isle_tell.specs.declared.warnings.Warning.{Warning}
use Rattle.isle_tell.proofs.warnings.sort_warnings.Goals as goal

pub returns-clause-ascending : goal.returns-clause-ascending
returns-clause-ascending c = on_ok_weaker c.sort_by_key.result
    (λ h. h (λ (warning : Warning). warning.pos) (answers_always _ _ _ (λ f a r g q. search rules))) c.sort_by_key.ensures.sorted
