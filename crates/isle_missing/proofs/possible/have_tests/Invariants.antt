use Rattle.std.proofs.Common.{◌≡◌, ◌<◌, ℕ, true}
use Rattle.isle_missing.specs.Sites.{all_tests}
use Rattle.isle_missing.specs.Inside.Tables.{is_among, test_at}
use Rattle.isle_missing.proofs.possible.have_tests.Given as goal

-- the sites so far pass one of their tests
abbrev pub invariant-loop-number : goal.invariant-loop-number
invariant-loop-number l = (s : ℕ) → s < l.number → is_among (test_at l.table s) (all_tests l.sites s) ≡ true
