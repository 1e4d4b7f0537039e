use Rattle.std.proofs.Common.{◌≡◌, ◌<◌, ◌∷◌, [], length, map, get_or, ℕ, Vec, Global}
use Rattle.isle_blocks.proofs.close.lists.SiteLists.alone.Given as goal

abbrev pub invariant-loop-site : goal.invariant-loop-site
invariant-loop-site l = record {
  fits : length l.lists.items ≡ l.site;
  alone : (a : ℕ) → a < l.site → get_or (map (λ (list : Vec ℕ Global). list.items) l.lists.items) a [] ≡ a ∷ [];
}
