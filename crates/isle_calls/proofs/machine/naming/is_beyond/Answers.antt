-- A text of that length is the symbol's own where it has only zeros.
use Rattle.std.proofs.Common.{◌≡◌, ◌+◌, List, ℕ, map, length, ap, ◌∙◌, nat_eq, arith}
use Rattle.std.specs.List.{list_all}
use Rattle.std.specs.Prelude.{string_bytes}
use Rattle.isle_blocks.specs.Building.Naming.{longest_of}
use Rattle.isle_calls.proofs.TreeRoad.Naming.{beyond_zeros}
use Rattle.isle_calls.proofs.machine.naming.is_beyond.Goals as goal

pub returns-then-bytes-length : goal.returns-then-bytes-length
returns-then-bytes-length c =
    let names = map string_bytes c.args.names.now in let symbol = c.args.symbol in let text = c.args.text.now in
    let value = c.as_bytes-bytes.ensures.value in
    let long : c.longest.result ≡ longest_of names = c.longest.ensures in
    let index : c.index.result ≡ symbol.0 = c.index.ensures in
    let bytes : length c.as_bytes-bytes.result.now ≡ length text = ap (λ (l : List ℕ). length l) value in
    let size : length text ≡ longest_of names + 1 + symbol.0 = omega arith in
    beyond_zeros names symbol text c.are_zeros.result size (c.are_zeros.ensures ∙ ap (list_all (λ (b : ℕ). nat_eq b 0)) value)
