use Rattle.std.proofs.Common.{◌≡◌, ◌<◌, ℕ, length, [], None, get_or, slice_get}
use Rattle.isle_blocks.specs.Inside.Trees.Builder.{items_at, source_in}
use Rattle.isle_blocks.specs.Trees.View.{read_or}
use Rattle.isle_blocks.specs.Inside.Trees.Work.{opener_among}
use Rattle.isle_blocks.proofs.rule_set.RuleSet.openers.Given as goal

abbrev pub invariant-loop-site : goal.invariant-loop-site
invariant-loop-site l = record {
  size : length l.openers.items ≡ l.site;
  each : (x : ℕ) → x < l.site
      → get_or l.openers.items x None ≡ opener_among l.self (read_or [] (items_at l.users) (source_in (slice_get l.self.sites x))) x;
}
