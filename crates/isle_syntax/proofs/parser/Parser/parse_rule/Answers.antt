use Rattle.std.proofs.Common.{refl, sym, ap, ◌∙◌}
use Rattle.std.proofs.lemmas.Result.{err_from_is_err_and}
use Rattle.isle_syntax.specs.Inside.Reading.Parsing.{stop_of}
use Rattle.isle_syntax.specs.Inside.Reading.Readers.{done}
use Rattle.isle_syntax.specs.Inside.Reading.DefReading.{rule}
use Rattle.isle_syntax.proofs.Reading.Loops.{refuses_no_token}
use Rattle.isle_syntax.proofs.Productions.RuleSteps.{named_bounds, rule_at_end, named_at_end, ranked_within, rule_reads}
use Rattle.isle_syntax.proofs.parser.Parser.parse_rule.Goals as goal

pub returns-in_err-name : goal.returns-in_err-name
returns-in_err-name c =
    let e = err_from_is_err_and c.from_residual.result c.from_residual.ensures.1 in
    let old = c.args.self.now in
    rw (e.1, e.2) (refuses_no_token old old c.take_name.new.self _ (stop_of (rule c.args.depth_left old.left)) refl c.in_err-name.ensures.no_token
    (λ none. sym (ap (λ l. stop_of (rule c.args.depth_left l)) none ∙ ap stop_of (rule_at_end c.args.depth_left))))

pub returns-in_err-prio : goal.returns-in_err-prio
returns-in_err-prio c =
    let e = err_from_is_err_and c.from_residual-in_err-prio.result c.from_residual-in_err-prio.ensures.1 in
    let old = c.args.self.now in
    let mid = c.take_name.new.self in
    let taken = c.in_ok-name.ensures.taken in
    rw (e.1, e.2) (refuses_no_token old mid c.take_priority.new.self _ (stop_of (rule c.args.depth_left old.left))
    (named_bounds old mid c.in_ok-name.name taken) c.in_err-prio.ensures.no_token
    (named_at_end c.args.depth_left old mid c.in_ok-name.name taken))

pub returns : goal.returns
returns c =
    let old = c.args.self.now in
    let u1 = c.take_name.new.self in
    let u2 = c.take_priority.new.self in
    let name = c.in_ok-name.name in
    let prio = c.in_ok-prio.prio in
    let reads = c.in_ok-pattern.ensures in
    let ends = c.in_ok-iflets.ensures in (
      rule_reads c.args.depth_left old u1 name c.in_ok-name.ensures.taken u2 prio c.in_ok-prio.ensures.taken c.in_ok-pattern.pattern
          c.parse_pattern_list.new.self.left reads.0 c.in_ok-iflets.iflets.items c.in_ok-iflets.expr c.parse_body.new.self.left ends.0
          ∙ (λ i. done (record {
            pattern = c.in_ok-pattern.pattern;
            iflets = (sym c.shrink_to_fit.ensures.items ∙ sym c.new.ensures) i;
            expr = c.in_ok-iflets.expr;
            pos = sym c.pos-pos.ensures i;
            prio = prio;
            name = name;
          }) c.parse_body.new.self.left),
      ends.1 ∙ reads.1 ∙ ranked_within c.args.depth_left old u1 name c.in_ok-name.ensures.taken u2 prio c.in_ok-prio.ensures.taken,
    )
