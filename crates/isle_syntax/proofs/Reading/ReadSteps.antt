-- Reading step by step.
use Rattle.std.proofs.Common.{◌≡◌, List, refl, ap, ◌∙◌}
use Rattle.isle_syntax.specs.Tokens.PlacedTokens.{Placed}
use Rattle.isle_syntax.specs.Inside.Reading.Readers.{Read, done, fault, deep, Reader, after, read_map, seq}

pub fuse : {A B C : Type 0} (f : B → C) (g : A → B) (x : Read A) → read_map f (read_map g x) ≡ read_map (λ a. f (g a)) x
fuse f g (done a r) = refl
fuse f g (fault r) = refl
fuse f g (deep r) = refl

module _ {A B : Type 0} (p : Reader A) (q : Reader B) (ts r : List Placed) where
  pub seq_done : (a : A) → p ts ≡ done a r → seq p q ts ≡ read_map (λ b. (a, b)) (q r)
  seq_done a e = ap (λ k. after k (λ a r. read_map (λ b. (a, b)) (q r))) e

  pub seq_fault : p ts ≡ fault r → seq p q ts ≡ fault r
  seq_fault e = ap (λ k. after k (λ a r. read_map (λ b. (a, b)) (q r))) e

  -- the second of two, and what becomes of both
  pub map_seq_done : {C : Type 0} (f : A × B → C) (a : A) → p ts ≡ done a r → read_map f (seq p q ts) ≡ read_map (λ b. f (a, b)) (q r)
  map_seq_done f a e = ap (read_map f) (seq_done a e) ∙ fuse f (λ b. (a, b)) (q r)
