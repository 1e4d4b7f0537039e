use Rattle.std.proofs.Common.{Result, Ok, Err, rules}
use Rattle.std.specs.Result.{OnOk}
use Rattle.std.proofs.lemmas.List.Sorted.{answers_always}
use Rattle.isle_blocks.specs.declared.report.Group.{Group}
use Rattle.isle_blocks.proofs.report.sort_groups.Goals as goal

on_ok : {T E P Q : Type 0} (r : Result T E) → (P → Q) → OnOk r P → OnOk r Q
on_ok (Ok v) f h = f h
on_ok (Err e) f h = h

pub returns-clause-ascending : goal.returns-clause-ascending
returns-clause-ascending c =
    on_ok c.sort_by_key.result (λ h. h (λ (group : Group). group.head.pos) (answers_always _ _ _ (λ f a r g q. search rules)))
    c.sort_by_key.ensures.sorted

pub returns-clause-stable : goal.returns-clause-stable
returns-clause-stable c =
    c.sort_by_key.ensures.stable (λ (group : Group). group.head.pos) (answers_always _ _ _ (λ f a r g q. search rules))
