use Rattle.std.proofs.Common.{◌≡◌, ℕ, length, get_or, None, false}
use Rattle.isle_blocks.proofs.serializer.known.Known.start.Given as goal

abbrev pub invariant-loop-site : goal.invariant-loop-site
invariant-loop-site l = record {
  p : length l.passed.items ≡ l.site;
  q : length l.labels.items ≡ l.site;
  r : length l.emitted.items ≡ l.site;
  passed : (x : ℕ) → get_or l.passed.items x None ≡ None;
  label : (x : ℕ) → get_or l.labels.items x x ≡ x;
  emitted : (x : ℕ) → get_or l.emitted.items x false ≡ false;
}
