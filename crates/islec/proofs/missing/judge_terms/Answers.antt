use Rattle.std.proofs.Common.{◌≡◌, ◌+◌, ◌++◌, ◌&&◌, ◌∙◌, Bool, true, false, suc, [], ◌∷◌, take, refl, sym, ap, ap₂, subst, arith, get_or, true≢false}
use Rattle.std.specs.Prelude.{string_bytes}
use Rattle.std.proofs.Math.Seq.{take-suc}
use Rattle.isle_types.specs.declared.ids.TermId.{TermId}
use Rattle.islec.specs.Inside.Stuck.{AreNeverStuck}
use Rattle.islec.specs.Missing.{AreCallsTold, no_terms}
use Rattle.islec.proofs.MissingLemmas.{both_nothing, never_more, told_more}
use Rattle.islec.proofs.missing.judge_terms.Goals as goal

both_are : (a b : Bool) → (a && b) ≡ true → (a ≡ true) × (b ≡ true)
both_are true b is = (refl, is)
both_are false b is = absurd (true≢false (sym is))

pub loop-term-init : goal.loop-term-init
loop-term-init c = record {
  told = subst (AreCallsTold c.args.files.now c.args.program.now c.args.judging []) (sym c.new-text.ensures.bytes) no_terms;
  never_stuck = λ e. tt;
  nothing = λ e. refl;
}

pub loop-term-preserved : goal.loop-term-preserved
loop-term-preserved c =
    let terms = c.args.terms.now in let i = c.loop-term.term-index in let other : TermId = record { 0 = 0 } in
    let next : suc i ≡ i + 1 = omega arith in
    let longer : take i terms ++ get_or terms i other ∷ [] ≡ take (i + 1) terms =
    sym (take-suc terms i other c.loop-term-test.true) ∙ ap (λ n. take n terms) next in
    let more = told_more c.args.files.now c.args.program.now c.args.judging (take i terms) (string_bytes c.loop-term.text) (get_or terms i other)
    (string_bytes c.in_ok-judged.judged.text) c.loop-term.invariant.told c.in_ok-judged.ensures.told in
    let written : string_bytes c.push_str.new.self ≡ string_bytes c.loop-term.text ++ string_bytes c.in_ok-judged.judged.text =
    c.in_ok-push_str.ensures.bytes ∙ ap (λ l. string_bytes c.loop-term.text ++ l) c.as_str.ensures.value in
    record {
      told = subst (λ l. AreCallsTold c.args.files.now c.args.program.now c.args.judging l (string_bytes c.push_str.new.self)) longer
          (subst (AreCallsTold c.args.files.now c.args.program.now c.args.judging (take i terms ++ get_or terms i other ∷ [])) (sym written) more);
      never_stuck = λ e.
          let two = both_are c.loop-term.never_stuck c.in_ok-judged.judged.never_stuck (sym c.both-never_stuck.ensures ∙ e) in
          subst (AreNeverStuck c.args.program.now) longer (never_more c.args.program.now (take i terms) (get_or terms i other)
          (c.loop-term.invariant.never_stuck two.0) (c.in_ok-judged.ensures.never_stuck two.1));
      nothing = λ none.
          let two = both_nothing (string_bytes c.loop-term.text) (string_bytes c.in_ok-judged.judged.text) (sym written ∙ none) in
          c.both-never_stuck.ensures ∙ ap₂ (λ a b. a && b) (c.loop-term.invariant.nothing two.0) (c.in_ok-judged.ensures.nothing two.1);
    }
