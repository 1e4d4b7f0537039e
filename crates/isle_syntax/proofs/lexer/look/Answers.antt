use Rattle.std.proofs.Common.{refl, ap, ◌∙◌, arith}
use Rattle.isle_syntax.specs.declared.lexer.Lookahead.{Lookahead}
use Rattle.isle_syntax.specs.Tokens.Finding.{reading, reading_before}
use Rattle.isle_syntax.specs.Tokens.RemainingTokens.{Source}
use Rattle.isle_syntax.proofs.Tokens.Looks.{looked_found, looked_nothing, looked_fault, looked_no_further, word_begins, word_stands}
use Rattle.isle_syntax.proofs.Tokens.Remaining.{pos_of_placed}
use Rattle.isle_syntax.proofs.Tokens.TokenOrder.{none_ascend, looked_ascend, behind-le, found-le}
use Rattle.isle_syntax.proofs.lexer.look.Goals as goal

pub returns-in-Ok-Some-clause-same : goal.returns-in-Ok-Some-clause-same
returns-in-Ok-Some-clause-same c =
    let source : Source = record { file = c.args.file; size = c.args.size } in
    ap (λ p. reading_before p c.in-Ok-Some.token (reading source c.in-Ok-Some.more.now)) c.new.ensures
    ∙ looked_found source c.args.rest.now c.after_gap-text.result.now c.saturating_sub-start.result
    c.after_gap-text.ensures c.saturating_sub-start.ensures c.in-Ok-Some.token c.in-Ok-Some.more.now
    (rw c.in-Ok-Some.field-0-is at c.in-Ok-Some.ensures.read)

pub returns-in-Ok-None-clause-same : goal.returns-in-Ok-None-clause-same
returns-in-Ok-None-clause-same c =
    looked_nothing (record { file = c.args.file; size = c.args.size }) c.args.rest.now c.after_gap-text.result.now c.saturating_sub-start.result
    c.after_gap-text.ensures c.saturating_sub-start.ensures (rw c.in-Ok-None.field-0-is at c.in-Ok-None.ensures.read)

pub returns-in-Err-Fault-clause-same : goal.returns-in-Err-Fault-clause-same
returns-in-Err-Fault-clause-same c =
    looked_fault (record { file = c.args.file; size = c.args.size }) c.args.rest.now c.after_gap-text.result.now c.saturating_sub-start.result
    c.after_gap-text.ensures c.saturating_sub-start.ensures (rw c.in-Err-Fault.field-0-is at c.in-Err-Fault.ensures.no_token)

pub returns-in-Err-Memory-clause-same : goal.returns-in-Err-Memory-clause-same
returns-in-Err-Memory-clause-same c =
    looked_no_further (record { file = c.args.file; size = c.args.size }) c.args.rest.now c.after_gap-text.result.now c.saturating_sub-start.result
    c.after_gap-text.ensures c.saturating_sub-start.ensures

pub returns-in-Ok-Some-clause-ahead : goal.returns-in-Ok-Some-clause-ahead
returns-in-Ok-Some-clause-ahead c =
    let source : Source = record { file = c.args.file; size = c.args.size } in
    let at = c.saturating_sub-start.ensures in
    let shorter = found-le c.args.rest.now c.after_gap-text.result.now c.after_gap-text.ensures c.in-Ok-Some.token c.in-Ok-Some.more.now
    (rw c.in-Ok-Some.field-0-is at c.in-Ok-Some.ensures.read) in
    record {
      within = omega arith;
      remaining = omega (arith, shorter, c.requires);
      begins = pos_of_placed c.new.result c.in-Ok-Some.token ∙ c.new.ensures;
      starved_before = λ e. cc;
      ascending = looked_ascend source (Lookahead.Token (c.new.result, c.in-Ok-Some.token)) c.saturating_sub-start.result c.in-Ok-Some.more.now
          c.args.rest.now (returns-in-Ok-Some-clause-same c) c.requires;
    }

pub returns-in-Err-Fault-clause-ahead : goal.returns-in-Err-Fault-clause-ahead
returns-in-Err-Fault-clause-ahead c =
    let at = c.saturating_sub-start.ensures in
    let shorter = behind-le c.args.rest.now c.after_gap-text.result.now c.after_gap-text.ensures in
    record {
      within = omega arith;
      remaining = omega (arith, shorter, c.requires);
      begins = refl {a = record { file = c.args.file; offset = c.saturating_sub-start.result }};
      starved_before = λ e. cc;
      ascending = none_ascend;
    }

pub returns-in-Err-Memory-clause-ahead : goal.returns-in-Err-Memory-clause-ahead
returns-in-Err-Memory-clause-ahead c =
    let source : Source = record { file = c.args.file; size = c.args.size } in
    let behind = c.after_gap-text.ensures in
    let at = c.saturating_sub-start.ensures in
    let shorter = behind-le c.args.rest.now c.after_gap-text.result.now behind in
    record {
      within = omega arith;
      remaining = omega (arith, shorter, c.requires);
      begins = word_begins source c.args.rest.now c.after_gap-text.result.now c.saturating_sub-start.result behind at
          (rw c.in-Err-Memory.field-0-is at c.in-Err-Memory.ensures.no_memory);
      starved_before = λ e. word_stands source c.args.rest.now c.after_gap-text.result.now c.saturating_sub-start.result behind at
          (rw c.in-Err-Memory.field-0-is at c.in-Err-Memory.ensures.no_memory);
      ascending = looked_ascend source (Lookahead.Memory c.in-Err-Memory.e) c.saturating_sub-start.result c.after_gap-text.result.now c.args.rest.now
          (returns-in-Err-Memory-clause-same c) c.requires;
    }
