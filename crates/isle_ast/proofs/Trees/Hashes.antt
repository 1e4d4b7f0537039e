-- Different positions and names are hashed differently.
use Rattle.std.proofs.Common.{◌≡◌, ◌<◌, ◌^◌, ℕ, ap, sym, ◌∙◌}
use Rattle.std.specs.Hash.{le_bytes}
use Rattle.std.specs.Int.{w64, from_le_bytes}
use Rattle.std.proofs.lemmas.Nat.{from_le_bytes-to_le_bytes_8}
use Rattle.isle_ast.specs.Trees.Comparisons.{IsInRange, HashesApart, pos_hash, ident_hash}

numbers_apart : (m n : ℕ) → m < 2 ^ 64 → n < 2 ^ 64 → le_bytes 8 m ≡ le_bytes 8 n → m ≡ n
unfolding le_bytes
numbers_apart m n low small same =
    sym (from_le_bytes-to_le_bytes_8 m low) ∙ ap (from_le_bytes w64) same ∙ from_le_bytes-to_le_bytes_8 n small

pub positions_apart : HashesApart IsInRange pos_hash
positions_apart p q low small same =
    let file : p.file ≡ q.file = numbers_apart p.file q.file low.0 small.0 cc in
    let offset : p.offset ≡ q.offset = numbers_apart p.offset q.offset low.1 small.1 cc in
    λ i. record { file = file i; offset = offset i }

pub names_apart : HashesApart (λ name. IsInRange name.1) ident_hash
names_apart m n low small same =
    let place : m.1 ≡ n.1 = positions_apart m.1 n.1 low small cc in
    let text : m.0 ≡ n.0 = cc in
    λ i. record { 0 = text i; 1 = place i }
