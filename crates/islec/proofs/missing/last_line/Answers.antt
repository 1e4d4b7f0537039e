use Rattle.std.proofs.Common.{◌∙◌, inr, refl}
use Rattle.islec.proofs.MissingLemmas.{one_of_them}
use Rattle.islec.proofs.missing.last_line.Goals as goal

pub returns-then-inhabited-clause-is : goal.returns-then-inhabited-clause-is
returns-then-inhabited-clause-is c = inr (
  refl,
  record {
    inhabited = c.inhabited.ensures.0 c.if-inhabited.true;
    terms = λ t runs. one_of_them c.args.program.now c.args.terms.now t (c.requires.never_stuck c.if-never_stuck.true)
        (c.requires.roots.listed t ∙ runs.rules) runs;
  },
)
