use Rattle.std.proofs.Common.{◌≡◌, ℕ, length, take, true}
use Rattle.isle_trees.specs.Rules.{Elem}
use Rattle.isle_trees.specs.Search.{is_marked}
use Rattle.isle_blocks.specs.Rows.{numbers_of}
use Rattle.isle_blocks.proofs.serializer.index.unmark.Given as goal

abbrev pub invariant-loop-site : goal.invariant-loop-site
invariant-loop-site l = record {
  size : length l.marks ≡ length l.initial.marks;
  gone : (x : ℕ) → Elem x (take l.site-index (numbers_of l.sites)) → is_marked l.marks x ≡ true → ⊥;
  old : (x : ℕ) → is_marked l.marks x ≡ true → is_marked l.initial.marks x ≡ true;
}
