use Rattle.std.proofs.Common.{◌≡◌, ◌<◌, ℕ, None, vec_len, get_or}
use Rattle.isle_blocks.proofs.close.spread.Given as goal

-- the sites so far have the tests of their representatives
abbrev pub invariant-loop-root : goal.invariant-loop-root
invariant-loop-root l = record {
  fits : vec_len l.each ≡ l.root-index;
  same : (a : ℕ) → a < l.root-index → get_or l.each.items a None ≡ get_or l.own.items (get_or l.class a 0) None;
}
