use Rattle.std.proofs.Common.{[], refl, rules, subst, sym}
use Rattle.std.specs.Prelude.{IsUtf8}
use Rattle.isle_rules.specs.Values.{value_list}
use Rattle.isle_values.specs.Values.TextTokens.{AreTokensOf}
use Rattle.islec.specs.Replies.{setting_in, blank}
use Rattle.islec.specs.Reasons.{IsReason}
use Rattle.islec.proofs.ReplyLemmas.{refused_bytes, refused_query, answered_query, lost_query}
use Rattle.islec.proofs.answer.reply_to.Goals as goal

pub returns-in_default-clause-not_text : goal.returns-in_default-clause-not_text
returns-in_default-clause-not_text g c = λ none.
    c.refused.ensures c.args.manner.explain (subst (IsReason c.args.manner.explain) (sym c.as_str.ensures.value) c.in_ok-no_text_line.ensures)

pub returns-in_default-clause-reply : goal.returns-in_default-clause-reply
returns-in_default-clause-reply g c =
    let none : ¬ IsUtf8 c.args.line.now = search (rules, c.in_default.ensures.cases) in
    refused_bytes _ c.args.world.now c.args.line.now c.refused.result none
    (c.refused.ensures c.args.manner.explain (subst (IsReason c.args.manner.explain) (sym c.as_str.ensures.value) c.in_ok-no_text_line.ensures))

pub returns-then-branch-clause-reply : goal.returns-then-branch-clause-reply
returns-then-branch-clause-reply g c =
    let (same, utf8) = c.in-Ok.ensures.cases in
    blank utf8 (subst (λ l. AreTokensOf l []) same (c.in_ok-is_blank.ensures.0 c.if-branch.true)) c.new.ensures.bytes refl refl

pub returns-in-Ok-query-clause-reply : goal.returns-in-Ok-query-clause-reply
returns-in-Ok-query-clause-reply g c =
    let (same, utf8) = c.in-Ok.ensures.cases in
    answered_query _ c.args.world.now c.reply_to_call.new.world c.args.line.now c.in-Ok.text.now c.in-Ok-query.term
    (value_list c.in-Ok-query.args.items) c.reply_to_call.result
    same utf8 c.in-Ok-query.ensures.spelt c.reply_to_call.ensures.answers

pub returns-in-Err-clause-reply : goal.returns-in-Err-clause-reply
returns-in-Err-clause-reply g c =
    let (same, utf8) = c.in-Ok.ensures.cases in
    refused_query _ c.args.world.now c.args.line.now c.in-Ok.text.now c.in-Err.fault c.refuse_query.result same utf8
    (λ none. let yes = c.in_ok-is_blank.ensures.1 none in let not = c.if-branch.false in absurd cc) c.in-Err.ensures.refused
    c.refuse_query.ensures

pub returns-in-Ok-query-clause-lost : goal.returns-in-Ok-query-clause-lost
returns-in-Ok-query-clause-lost g c =
    let (same, utf8) = c.in-Ok.ensures.cases in
    lost_query (setting_in g.V.World.step c.args.program.now c.args.watch.now.files.now (g.V.World.constructs c.args.world.now)
    (g.V.World.extracts c.args.world.now) c.args.manner)
    c.args.world.now c.reply_to_call.new.world c.args.line.now c.in-Ok.text.now c.in-Ok-query.term (value_list c.in-Ok-query.args.items)
    c.reply_to_call.result same c.in-Ok-query.ensures.spelt c.reply_to_call.ensures.lost
