-- A name more is looked at; at the end none is left.
use Rattle.std.proofs.Common.{◌≡◌, ◌≤◌, ◌+◌, List, ℕ, suc, map, max, drop, length, get_or, sym, ap, ◌∙◌, arith}
use Rattle.std.specs.Prelude.{String, string_bytes}
use Rattle.std.specs.Global.{Global}
use Rattle.isle_blocks.specs.Building.Naming.{longest_of}
use Rattle.isle_calls.proofs.TreeRoad.Naming.{longest_next, none_left}
use Rattle.isle_calls.proofs.machine.naming.longest.Goals as goal

pub loop-name-preserved : goal.loop-name-preserved
loop-name-preserved c =
    let names = c.args.names.now in let i = c.loop-name.name-index in let item = c.name-item.result in let most = c.loop-name.most in
    let next : i + 1 ≡ suc i = omega arith in
    let size : length c.as_str.result.now ≡ length (string_bytes (get_or names i item)) =
    ap (λ (l : List ℕ). length l) (c.as_str.ensures.value ∙ ap (λ (s : String Global). string_bytes s) c.name-item.is) in
    ap (λ (m : ℕ). max m (longest_of (map string_bytes (drop (i + 1) names)))) (c.longer-most.ensures ∙ ap (λ (n : ℕ). max most n) size)
    ∙ longest_next string_bytes names i (i + 1) item most c.loop-name-test.true next ∙ c.loop-name.invariant

pub returns : goal.returns
returns c =
    let names = c.args.names.now in let i = c.loop-name.name-index in let most = c.loop-name.most in
    let past : length names ≤ i = c.loop-name-test.false in
    let left : longest_of (map string_bytes (drop i names)) ≡ 0 =
    ap (λ (l : List (String Global)). longest_of (map string_bytes l)) (none_left names i past) in
    let none : most ≡ max most 0 = omega arith in
    none ∙ ap (λ (n : ℕ). max most n) (sym left) ∙ c.loop-name.invariant
