use Rattle.std.proofs.Common.{◌≡◌, [], take}
use Rattle.std.specs.Prelude.{IsTrue, string_bytes}
use Rattle.islec.specs.Inside.Stuck.{AreNeverStuck}
use Rattle.islec.specs.Missing.{AreCallsTold}
use Rattle.islec.proofs.missing.judge_terms.Given as goal

-- what is told of the terms so far
abbrev pub invariant-loop-term : goal.invariant-loop-term
invariant-loop-term l = record {
  told : AreCallsTold l.files l.program l.judging (take l.term-index l.terms) (string_bytes l.text);
  never_stuck : IsTrue l.never_stuck → AreNeverStuck l.program (take l.term-index l.terms);
  nothing : string_bytes l.text ≡ [] → IsTrue l.never_stuck;
}
