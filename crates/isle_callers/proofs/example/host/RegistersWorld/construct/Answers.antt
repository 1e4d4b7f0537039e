use Rattle.std.proofs.Common.{◌≡◌, ◌≢◌, ℕ, List, [], ◌∷◌, None, IfOk, Option, length, get_or, refl, subst, ap, ◌∙◌, arith}
use Rattle.isle_rules.specs.Values.{ValueTree, value_list}
use Rattle.isle_callers.specs.Bytes.{byte_in, combined_values}
use Rattle.isle_callers.specs.Registers.{constructed}
use Rattle.isle_callers.proofs.example.host.RegistersWorld.construct.Goals as goal

-- nothing is given of fewer or more than two values
none_of_others : (term : List ℕ) (args : List ValueTree) → length args ≢ 2 → None ≡ constructed term (value_list args)
none_of_others term [] other = refl
none_of_others term (v ∷ []) other = refl
none_of_others term (v ∷ w ∷ []) other = absurd (other refl)
none_of_others term (v ∷ w ∷ u ∷ more) other = refl

-- what is given of two is that of the first and of the second
given_of_two : (term : List ℕ) (args : List ValueTree) (v w : ValueTree) → length args ≡ 2 → v ≡ get_or args 0 v → w ≡ get_or args 1 w
    → combined_values term (byte_in v) (byte_in w) ≡ constructed term (value_list args)
given_of_two term [] v w two first second = absurd (omega arith)
given_of_two term (a ∷ []) v w two first second = absurd (omega arith)
given_of_two term (a ∷ b ∷ []) v w two first second =
    ap (λ x. combined_values term (byte_in x) (byte_in w)) first ∙ ap (λ x. combined_values term (byte_in a) (byte_in x)) second
given_of_two term (a ∷ b ∷ c ∷ more) v w two first second = absurd (omega arith)

pub returns : goal.returns
returns c =
    let two : length c.args.args.now ≡ 2 = omega arith in
    subst (λ (given : Option ValueTree). IfOk c.combined_values.result (λ answer. answer ≡ given))
    (given_of_two c.args.term.now c.args.args.now c.index-args-0.result c.index-args-1.result two c.index-args-0.is c.index-args-1.is)
    c.combined_values.ensures

pub returns-then-args-ne2 : goal.returns-then-args-ne2
returns-then-args-ne2 c = none_of_others c.args.term.now c.args.args.now c.if-args-ne2.true
