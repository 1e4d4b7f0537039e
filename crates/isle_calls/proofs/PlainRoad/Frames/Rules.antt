-- What a rule of a call comes to.
use Rattle.std.proofs.Common.{◌≡◌, ◌+◌, ℕ, suc, List, [], refl, subst, arith}
use Rattle.isle_meaning.specs.Values.{Value}
use Rattle.isle_meaning.specs.Worlds.{Event}
use Rattle.isle_meaning.specs.Asking.{Ended}
use Rattle.isle_meaning.specs.Outcomes.{Outcome, given, missing, ended}
use Rattle.isle_calls.specs.Inside.Plain.Frames.{CallComes, RulesLead, RuleTried, RuleComes, RightComes, IsTried}

module _ {t : RuleTried} (is : IsTried t) where
  -- a rule that is left leaves the others
  pub rule_left : RuleComes t missing → RulesLead t.call t.others t.tried
  rule_left left = record {
    comes = λ more trace r run.
        let counts : t.tried ≡ suc is.before = is.counts in
        let same : is.before + suc more ≡ t.tried + more = omega (arith, counts) in
        subst (λ (n : ℕ). CallComes t.call n trace r) same (is.leads.comes missing left (suc more) trace r (more, refl, run));
    begins = λ made begun. is.leads.begins missing left made begun;
  }

  one_more : is.before + 1 ≡ t.tried
  one_more = let counts : t.tried ≡ suc is.before = is.counts in omega (arith, counts)

  -- a rule that ends ends the call
  pub rule_ended : (e : Ended) → RuleComes t (ended e) → CallComes t.call t.tried [] (ended e)
  rule_ended e end = subst (λ (n : ℕ). CallComes t.call n [] (ended e)) one_more (is.leads.comes (ended e) end 1 [] (ended e) (refl, refl, refl))

  -- what the right side of a chosen rule comes to the call comes to
  pub right_comes : (a : ℕ → Value) (trace : List Event) (r : Outcome Value) → RuleComes t (given a) → RightComes t a trace r
      → CallComes t.call t.tried trace r
  right_comes a trace r chosen run =
      subst (λ (n : ℕ). CallComes t.call n trace r) one_more (is.leads.comes (given a) chosen 1 trace r (refl, run))
