use Rattle.std.proofs.Common.{refl, sym, subst, ◌∙◌}
use Rattle.std.proofs.lemmas.Bool.{false≢true}
use Rattle.std.proofs.lemmas.Result.{err_from_is_err_and}
use Rattle.isle_syntax.specs.Tokens.LexerCalls.{HasEnded}
use Rattle.isle_syntax.specs.Inside.Reading.Readers.{at_end}
use Rattle.isle_syntax.specs.Inside.Reading.DefReading.{def}
use Rattle.isle_syntax.specs.Grammar.Verdict.{max_nesting}
use Rattle.isle_syntax.proofs.Productions.Defs.{def_shorter}
use Rattle.isle_syntax.proofs.Reading.Loops.{turn_adds}
use Rattle.isle_syntax.proofs.Productions.Whole.{refusal_is_fault, all_are_spelt, at_end_none}
use Rattle.isle_syntax.proofs.parser.Parser.parse_defs.Goals as goal

pub returns-in_err-parse_def-clause-fault : goal.returns-in_err-parse_def-clause-fault
returns-in_err-parse_def-clause-fault c =
    let e = err_from_is_err_and c.from_residual.result c.from_residual.ensures.1 in
    rw (e.1, e.2) (refusal_is_fault c.args.self.now c.defs.self c.parse_def.new.self c.defs.defs.items c.defs.invariant.turns c.defs.invariant.same _
    (λ ended. false≢true (c.defs-test.ensures.ended.1 (subst HasEnded (sym c.self-in-defs.view_is) ended))) c.in_err-parse_def.ensures)

pub defs-smaller : goal.defs-smaller
defs-smaller c = def_shorter max_nesting c.defs.self.left c.parse_def.new.self.left _ c.in_ok-parse_def.ensures.0

pub defs-preserved : goal.defs-preserved
defs-preserved c =
    let less = def_shorter max_nesting c.defs.self.left c.parse_def.new.self.left _ c.in_ok-parse_def.ensures.0 in
    record {
      turns = rw c.in_ok-push.ensures.items (turn_adds at_end (def max_nesting) _ c.defs.self c.defs.self c.parse_def.new.self _ _
          c.defs.invariant.turns (at_end_none c.defs.self.left c.parse_def.new.self.left less, refl) c.in_ok-parse_def.ensures.0 less);
      same = c.in_ok-parse_def.ensures.1 ∙ c.defs.invariant.same;
    }

pub returns-clause-spelt : goal.returns-clause-spelt
returns-clause-spelt c = all_are_spelt c.args.self.now c.defs.self c.defs.self c.defs.defs.items c.defs.invariant.turns c.defs.invariant.same
    (subst HasEnded c.self-in-defs.view_is (c.defs-test.ensures.ended.0 refl))
