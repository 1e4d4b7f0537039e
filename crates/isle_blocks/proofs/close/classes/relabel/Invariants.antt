use Rattle.std.proofs.Common.{◌≡◌, ◌<◌, ◌⊎◌, ℕ, get_or}
use Rattle.std.specs.Prelude.{Contains}
use Rattle.isle_blocks.proofs.close.classes.relabel.Given as goal

-- the members so far have the new representative, and nothing else has changed
abbrev pub invariant-loop-member : goal.invariant-loop-member
invariant-loop-member l = record {
  done : (k : ℕ) → k < l.member-index → get_or l.class (get_or l.members k 0) 0 ≡ l.keep;
  same : (a : ℕ) → (get_or l.class a 0 ≡ get_or l.initial.class a 0) ⊎ (Contains l.members a × (get_or l.class a 0 ≡ l.keep));
}
