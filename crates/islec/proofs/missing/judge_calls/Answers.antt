use Rattle.std.proofs.Common.{inl, inr, subst}
use Rattle.isle_coverage.specs.Verdicts.{IsVerdict}
use Rattle.islec.proofs.missing.judge_calls.Goals as goal

pub returns-in-Covered-clause-told : goal.returns-in-Covered-clause-told
returns-in-Covered-clause-told c = record {
  is = inl c.new.ensures.bytes;
  covered = λ none runs. subst (IsVerdict c.args.program.now c.args.term.0) c.in-Covered.is
      (c.in_ok-coverage.ensures c.requires.compiled.files c.requires.compiled.is runs);
}

pub returns-in-Covered-clause-never_stuck : goal.returns-in-Covered-clause-never_stuck
returns-in-Covered-clause-never_stuck c = λ is runs. inr (subst (IsVerdict c.args.program.now c.args.term.0) c.in-Covered.is
    (c.in_ok-coverage.ensures c.requires.compiled.files c.requires.compiled.is runs))
