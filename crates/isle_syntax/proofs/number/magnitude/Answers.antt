use Rattle.std.proofs.Common.{◌≡◌, ℕ, List, ◌∷◌, sym, ap, ◌∙◌, arith}
use Rattle.isle_syntax.specs.Tokens.Integers.{spelt_after, spelt_with, spelt}
use Rattle.isle_syntax.proofs.Tokens.Digits.{spelt_none, spelt_one, spelt_more}
use Rattle.isle_syntax.proofs.number.magnitude.Goals as goal

-- one digit more
next_step : (radix value first all : ℕ) (rest more : List ℕ) → spelt_after radix value rest ≡ all → rest ≡ first ∷ more
    → all ≡ spelt_after radix (spelt_with radix value first) more
next_step radix value first all rest more same e = sym same ∙ ap (spelt_after radix value) e ∙ spelt_one radix value first more

pub returns-in_default-spelt_with : goal.returns-in_default-spelt_with
returns-in_default-spelt_with c = λ small.
    let more = spelt_more c.args.radix (spelt_with c.args.radix c.digits.value c.in-Some.first) c.in-Some.more.now (omega arith) in
    let step = next_step c.args.radix c.digits.value c.in-Some.first _ c.digits.rest.now c.in-Some.more.now c.digits.invariant.same c.in-Some.ensures
    in
    c.in_default-spelt_with.ensures (omega (arith, step, more, small))

pub digits-preserved : goal.digits-preserved
digits-preserved c = record {
  fits = let few = c.in-Some-spelt_with.ensures.0 in let same = c.in-Some-spelt_with.ensures.1 in omega (arith, few, same);
  same = ap (λ v. spelt_after c.args.radix v c.in-Some.more.now) c.in-Some-spelt_with.ensures.1
      ∙ sym (next_step c.args.radix c.digits.value c.in-Some.first _ c.digits.rest.now c.in-Some.more.now c.digits.invariant.same c.in-Some.ensures);
}

pub returns : goal.returns
returns c =
    let same : c.digits.value ≡ spelt c.args.radix c.args.digits.now =
    sym (spelt_none c.args.radix c.digits.value) ∙ sym (ap (spelt_after c.args.radix c.digits.value) c.in_default.ensures)
    ∙ c.digits.invariant.same in
    (omega (arith, same, c.digits.invariant.fits), same)
