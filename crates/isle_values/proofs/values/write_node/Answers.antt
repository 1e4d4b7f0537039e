use Rattle.std.proofs.Common.{Result, Ok, Err, IfOk, sym, subst, rules}
use Rattle.std.specs.Prelude.{FitsSigned}
use Rattle.std.specs.Int.{w128}
use Rattle.isle_values.specs.Values.Held.{IsHeldNode}
use Rattle.isle_values.proofs.values.write_node.Goals as goal

-- what holds anyway holds of a success
anyway : {T E : Type 0} (r : Result T E) (P : Type 0) → P → IfOk r (λ _. P)
anyway (Ok x) P p = p
anyway (Err e) P p = tt

pub returns-in_ok-to_string-in-Int-clause-held : goal.returns-in_ok-to_string-in-Int-clause-held
returns-in_ok-to_string-in-Int-clause-held c =
    let fits : FitsSigned w128 c.in-Int.n = search rules in
    anyway c.push_str-in-Int.result (IsHeldNode c.args.node.now) (subst IsHeldNode (sym c.in-Int.is) fits)
