use Rattle.std.proofs.Common.{◌≡◌, ◌++◌, drop}
use Rattle.isle_missing.specs.Sites.{numbers}
use Rattle.isle_missing.specs.Inside.Rows.{apart_by}
use Rattle.isle_missing.proofs.rows.add_apart.Given as goal

-- the rows so far, and those of the tests to come, are the rows before and those of all tests
abbrev pub invariant-loop-test : goal.invariant-loop-test
invariant-loop-test l =
    l.rows.items ++ apart_by l.first.0 l.second.0 (numbers (drop l.test-index l.test-items))
    ≡ l.initial.rows.items ++ apart_by l.first.0 l.second.0 (numbers l.test-items)
