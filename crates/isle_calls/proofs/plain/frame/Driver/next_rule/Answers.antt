use Rattle.std.proofs.Common.{◌≡◌, ◌+◌, ◌<◌, ◌^◌, ◌∷◌, [], ℕ, suc, List, None, Option, length, slice_get, refl, sym, subst, arith, Contains}
use Rattle.isle_meaning.specs.Worlds.{Event}
use Rattle.isle_calls.specs.declared.plain.frame.current.Current.{Current}
use Rattle.isle_program.specs.declared.program.Program.{Program}
use Rattle.isle_calls.specs.Inside.Plain.Frames.{CallComes, RulesLead, Goes, FrameEnds, AdvancesTo}
use Rattle.isle_program.specs.Meanings.{checked}
use Rattle.isle_calls.specs.Stores.Values.{StandEach}
use Rattle.isle_meaning.specs.Outcomes.{ended}
use Rattle.isle_calls.proofs.PlainRoad.Frames.Ends.{with_rule}
use Rattle.isle_calls.proofs.PlainRoad.Frames.Tried.{laid_behind, patterns_read, unmatched_advances, began}
use Rattle.isle_calls.proofs.plain.frame.Driver.next_rule.Goals as goal

no_items : (xs : List ℕ) → length xs ≡ 0 → xs ≡ []
no_items [] e = refl
no_items (x ∷ xs) e = absurd (omega (arith, e))

pub returns-in_default-clause-ending : goal.returns-in_default-clause-ending
returns-in_default-clause-ending g c = λ k since runs of none.
    let frame = c.args.frame.now in
    let goes = subst (λ (o : Option Current). Goes k c.args.self.now.store o frame.others.now frame.tried since) none of.goes in
    let empty : frame.others.now ≡ [] = no_items frame.others.now c.in_default.ensures.cases in
    subst (λ (s : List Event). AdvancesTo k c.args.self.now.store c.args.frame.now s c.in_ok-comes.comes) (sym goes.0)
    (unmatched_advances k c.args.self.now.store c.args.frame.now c.in_ok-comes.comes
    (subst (λ (l : List ℕ). RulesLead k l c.args.frame.now.tried) empty goes.1)
    (c.in_ok-comes.ensures k runs.of_program (sym of.for_call.term)
    (subst (λ (ns : List ℕ). StandEach c.args.self.now.store k.args ns) (sym c.as_slice.ensures.value) of.for_call.stand) of.for_call.typed))

pub returns-in_default-laid_rule-clause-ending : goal.returns-in_default-laid_rule-clause-ending
returns-in_default-laid_rule-clause-ending g c = λ k since runs of none.
    let frame = c.args.frame.now in
    let first : frame.others.now ≡ c.in-Some.place.now ∷ c.in-Some.others.now = c.in-Some.ensures.cases.0 in
    let (rule, listed) = of.for_call.listed c.in-Some.place.now
    (subst (λ (l : List ℕ). Contains l c.in-Some.place.now) (sym first) (0, omega arith, refl)) in
    let missing : slice_get (checked k.program).rules c.in-Some.place.now ≡ None =
    subst (λ (p : Program). slice_get (checked p).rules c.in-Some.place.now ≡ None) (sym runs.of_program) c.in_default-laid_rule.ensures in
    absurd (let q = listed.listed in cc)

pub begin-requires : goal.begin-requires
begin-requires g c = laid_behind c.args.self.now.program.now c.in-Some.place.now c.in-Some-laid_rule.rule.now c.in-Some-laid_rule.laid.now
    c.in-Some-laid_rule.ensures

pub returns-in_ok-begin-in-Fits-clause-ending : goal.returns-in_ok-begin-in-Fits-clause-ending
returns-in_ok-begin-in-Fits-clause-ending g c = λ k since runs of none.
    let few : c.args.frame.now.tried + length c.args.frame.now.others.now < 2 ^ 64 = of.for_call.few in
    let counts : c.saturating_add-frame.result ≡ suc c.args.frame.now.tried = omega (arith, c.saturating_add-frame.ensures, few) in
    let (alone, for_call, fits) = patterns_read runs c.args.self.now.store c.args.frame.now since of none c.in-Some.place.now
    (record c.args.frame.now { others = c.in-Some.others; tried = c.saturating_add-frame.result }) refl refl refl c.in-Some.ensures.cases.0
    counts c.in-Some-laid_rule.rule.now c.in-Some-laid_rule.laid.now c.in-Some-laid_rule.ensures
    c.in_ok-unset.ensures.kept c.in_ok-fit_all.ensures.kept c.new-variables.result c.fit_all.new.variables c.in_ok-fit_all.field-0 _ c.in-Fits.is
    c.in_ok-unset.unset c.new-variables.ensures c.in_ok-unset.ensures.number c.as_slice-2.result.now c.as_slice-2.ensures c.as_slice-3.result.now
    c.as_slice-3.ensures.value c.in_ok-fit_all.ensures.fitted in
    let begun = c.in_ok-begin-in-Fits.ensures in
    record {
      for_call = with_rule for_call _;
      goes = began k c.fit_all.new.store _ _ _ c.in_ok-begin-in-Fits.field-0 c.in-Some.others.now c.saturating_add-frame.result since alone
          begun.1 begun.2 begun.3 (fits c.in_ok-begin-in-Fits.field-0.evaluation c.in_ok-begin-in-Fits.field-0.at begun.0);
    }

pub returns-in-Leaves-clause-ending : goal.returns-in-Leaves-clause-ending
returns-in-Leaves-clause-ending g c = λ k since runs of none.
    let few : c.args.frame.now.tried + length c.args.frame.now.others.now < 2 ^ 64 = of.for_call.few in
    let counts : c.saturating_add-frame.result ≡ suc c.args.frame.now.tried = omega (arith, c.saturating_add-frame.ensures, few) in
    let (alone, for_call, leads) = patterns_read runs c.args.self.now.store c.args.frame.now since of none c.in-Some.place.now
    (record c.args.frame.now { others = c.in-Some.others; tried = c.saturating_add-frame.result }) refl refl refl c.in-Some.ensures.cases.0
    counts c.in-Some-laid_rule.rule.now c.in-Some-laid_rule.laid.now c.in-Some-laid_rule.ensures
    c.in_ok-unset.ensures.kept c.in_ok-fit_all.ensures.kept c.new-variables.result c.fit_all.new.variables c.in_ok-fit_all.field-0 _ c.in-Leaves.is
    c.in_ok-unset.unset c.new-variables.ensures c.in_ok-unset.ensures.number c.as_slice-2.result.now c.as_slice-2.ensures c.as_slice-3.result.now
    c.as_slice-3.ensures.value c.in_ok-fit_all.ensures.fitted in
    record {
      for_call = for_call;
      goes = subst (λ (o : Option Current). Goes k c.fit_all.new.store o c.in-Some.others.now c.saturating_add-frame.result since) (sym none)
          (alone, leads);
    }

pub returns-in-IllTyped-clause-ending : goal.returns-in-IllTyped-clause-ending
returns-in-IllTyped-clause-ending g c = λ k since runs of none.
    let few : c.args.frame.now.tried + length c.args.frame.now.others.now < 2 ^ 64 = of.for_call.few in
    let counts : c.saturating_add-frame.result ≡ suc c.args.frame.now.tried = omega (arith, c.saturating_add-frame.ensures, few) in
    let (alone, for_call, unfit) = patterns_read runs c.args.self.now.store c.args.frame.now since of none c.in-Some.place.now
    (record c.args.frame.now { others = c.in-Some.others; tried = c.saturating_add-frame.result }) refl refl refl c.in-Some.ensures.cases.0
    counts c.in-Some-laid_rule.rule.now c.in-Some-laid_rule.laid.now c.in-Some-laid_rule.ensures
    c.in_ok-unset.ensures.kept c.in_ok-fit_all.ensures.kept c.new-variables.result c.fit_all.new.variables c.in_ok-fit_all.field-0 _ c.in-IllTyped.is
    c.in_ok-unset.unset c.new-variables.ensures c.in_ok-unset.ensures.number c.as_slice-2.result.now c.as_slice-2.ensures c.as_slice-3.result.now
    c.as_slice-3.ensures.value c.in_ok-fit_all.ensures.fitted in
    subst (FrameEnds k c.fit_all.new.store (record c.args.frame.now { others = c.in-Some.others; tried = c.saturating_add-frame.result }) since)
    (sym c.ill_typed.ensures)
    (unfit.0, unfit.1, subst (λ (s : List Event). CallComes k c.saturating_add-frame.result s (ended unfit.0)) (sym alone) unfit.2)
