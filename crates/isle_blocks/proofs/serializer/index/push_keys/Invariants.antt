use Rattle.std.proofs.Common.{◌≡◌, ◌++◌, take, map}
use Rattle.isle_blocks.specs.Rows.{numbers_of}
use Rattle.isle_blocks.proofs.serializer.index.push_keys.Given as goal

abbrev pub invariant-loop-place : goal.invariant-loop-place
invariant-loop-place l = numbers_of l.all.items ≡ numbers_of l.initial.all.items ++ map (λ e. e.0.0) (take l.place l.rule.constraints)
