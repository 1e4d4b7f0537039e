use Rattle.std.proofs.Common.{◌∙◌, sym}
use Rattle.islec.proofs.MissingLemmas.{passed_over_is_harmless}
use Rattle.islec.proofs.missing.judge_term.Goals as goal

pub returns-clause-nothing : goal.returns-clause-nothing
returns-clause-nothing c = λ none. passed_over_is_harmless c.args.program.now c.args.judging c.args.term c.is_harmless-harmless.result
    c.is_harmless-harmless.ensures.runs c.is_harmless-harmless.ensures.answers (sym c.is_judged.ensures ∙ c.if-is_judged.false)
