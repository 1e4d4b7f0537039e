use Rattle.std.proofs.Common.{◌≡◌, List, Some, slice_get, subst}
use Rattle.isle_types.proofs.LevelMembers.{number_is, put_in}
use Rattle.isle_blocks.specs.declared.constraint.Constraint.{Constraint}
use Rattle.isle_coverage.specs.Inside.Tables.{KeepsNumbers}
use Rattle.isle_coverage.proofs.Gathering.{kept_put}
use Rattle.isle_coverage.proofs.Numbers.{test-level}
use Rattle.isle_coverage.proofs.table.TestTable.number.Goals as goal

pub returns-clause-numbered : goal.returns-clause-numbered
returns-clause-numbered c =
    subst (λ (k : Constraint). slice_get c.insert.new.self c.in_ok-number.number ≡ Some k) c.plain_test.ensures
    (number_is test-level c.insert.new.self c.plain_test.result c.in_ok-number.number c.in_ok-number.ensures.number)

pub returns-clause-kept : goal.returns-clause-kept
returns-clause-kept c =
    subst (λ (old : List Constraint). KeepsNumbers old c.insert.new.self) c.self.view_is
    (kept_put c.self.inside.tests c.insert.new.self c.plain_test.result _ _ _
    (put_in test-level c.self.inside.tests c.plain_test.result c.insert.new.self c.in_ok-number.number c.in_ok-number.ensures.members
    c.in_ok-number.ensures.number))
