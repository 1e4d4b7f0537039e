use Rattle.std.proofs.Common.{◌≡◌, [], map, replicate, ℕ, Vec, Global}
use Rattle.isle_blocks.proofs.close.lists.SiteLists.new.Given as goal

abbrev pub invariant-loop-site : goal.invariant-loop-site
invariant-loop-site l = map (λ (list : Vec ℕ Global). list.items) l.lists.items ≡ replicate l._site []
