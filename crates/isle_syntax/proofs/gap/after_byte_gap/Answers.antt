use Rattle.std.proofs.Common.{◌≡◌, ◌-◌, ◌<◌, length, sym, ap, ◌∙◌, arith}
use Rattle.isle_syntax.specs.declared.gap.Lead.{Lead}
use Rattle.isle_syntax.specs.Tokens.Gaps.{after_first, after_run, in_line}
use Rattle.isle_syntax.specs.Tokens.Finding.{gap_of, gap, after_inside, after_comment}
use Rattle.isle_syntax.proofs.Tokens.Gaps.{gap_turned, gap_next, some_left, line_shorter, comment_shorter}
use Rattle.isle_syntax.proofs.gap.after_byte_gap.Goals as goal

pub returns-in-End : goal.returns-in-End
returns-in-End c = sym (gap_turned (gap_of c.args.bytes.now) c.gaps.rest.now c.gaps.invariant Lead.End c.in-End.ensures)

pub returns-in-Opening : goal.returns-in-Opening
returns-in-Opening c = sym (gap_turned (gap_of c.args.bytes.now) c.gaps.rest.now c.gaps.invariant Lead.Opening c.in-Opening.ensures)

pub returns-in-Closing : goal.returns-in-Closing
returns-in-Closing c = sym (gap_turned (gap_of c.args.bytes.now) c.gaps.rest.now c.gaps.invariant Lead.Closing c.in-Closing.ensures)

pub returns-in-AtSign : goal.returns-in-AtSign
returns-in-AtSign c = sym (gap_turned (gap_of c.args.bytes.now) c.gaps.rest.now c.gaps.invariant Lead.AtSign c.in-AtSign.ensures)

pub returns-in-Number : goal.returns-in-Number
returns-in-Number c = sym (gap_turned (gap_of c.args.bytes.now) c.gaps.rest.now c.gaps.invariant Lead.Number c.in-Number.ensures)

pub returns-in-Word : goal.returns-in-Word
returns-in-Word c = sym (gap_turned (gap_of c.args.bytes.now) c.gaps.rest.now c.gaps.invariant Lead.Word c.in-Word.ensures)

pub gaps-preserved-in-Space : goal.gaps-preserved-in-Space
gaps-preserved-in-Space c =
    let ts = c.gaps.rest.now in
    gap_next (gap_of c.args.bytes.now) ts c.gaps.invariant c.after_first-rest.result.now
    (gap_turned (gap_of c.args.bytes.now) ts c.gaps.invariant Lead.Space c.in-Space.ensures
    ∙ ap (gap (c.gaps.invariant.turns - 1)) (sym c.after_first-rest.ensures))
    (omega (arith, ap length c.after_first-rest.ensures, some_left ts Lead.Space c.in-Space.ensures (λ e. cc e)))

behind_line : (c : goal.After-after_line-rest) → c.after_line-rest.result.now ≡ after_run in_line (after_first c.gaps.rest.now)
behind_line c = c.after_line-rest.ensures ∙ ap (after_run in_line) c.after_first.ensures

pub gaps-smaller-in-Line : goal.gaps-smaller-in-Line
gaps-smaller-in-Line c = omega (arith, ap length (behind_line c), line_shorter c.gaps.rest.now c.in-Line.ensures)

pub gaps-preserved-in-Line : goal.gaps-preserved-in-Line
gaps-preserved-in-Line c =
    gap_next (gap_of c.args.bytes.now) c.gaps.rest.now c.gaps.invariant c.after_line-rest.result.now
    (gap_turned (gap_of c.args.bytes.now) c.gaps.rest.now c.gaps.invariant Lead.Line c.in-Line.ensures
    ∙ ap (gap (c.gaps.invariant.turns - 1)) (sym (behind_line c)))
    (omega (arith, ap length (behind_line c), line_shorter c.gaps.rest.now c.in-Line.ensures))

pub returns-in-None : goal.returns-in-None
returns-in-None c =
    let ts = c.gaps.rest.now in
    let inside : c.after_first-in-Comment-2.result.now ≡ after_first (after_first ts) =
    c.after_first-in-Comment-2.ensures ∙ ap after_first c.after_first-in-Comment.ensures in
    sym (gap_turned (gap_of c.args.bytes.now) ts c.gaps.invariant Lead.Comment c.in-Comment.ensures
    ∙ ap (after_inside ts (gap (c.gaps.invariant.turns - 1))) (ap (after_comment 0) (sym inside) ∙ sym c.in-None.ensures))

shorter : (c : goal.In-Some) → length c.in-Some.more.now < length c.gaps.rest.now
shorter c =
    let inside : c.after_first-in-Comment-2.result.now ≡ after_first (after_first c.gaps.rest.now) =
    c.after_first-in-Comment-2.ensures ∙ ap after_first c.after_first-in-Comment.ensures in
    comment_shorter c.gaps.rest.now c.in-Some.more.now c.in-Comment.ensures (c.in-Some.ensures ∙ ap (after_comment 0) inside)

pub gaps-smaller : goal.gaps-smaller
gaps-smaller c = shorter c

pub gaps-preserved : goal.gaps-preserved
gaps-preserved c =
    let ts = c.gaps.rest.now in
    let inside : c.after_first-in-Comment-2.result.now ≡ after_first (after_first ts) =
    c.after_first-in-Comment-2.ensures ∙ ap after_first c.after_first-in-Comment.ensures in
    gap_next (gap_of c.args.bytes.now) ts c.gaps.invariant c.in-Some.more.now
    (gap_turned (gap_of c.args.bytes.now) ts c.gaps.invariant Lead.Comment c.in-Comment.ensures
    ∙ ap (after_inside ts (gap (c.gaps.invariant.turns - 1))) (ap (after_comment 0) (sym inside) ∙ sym c.in-Some.ensures))
    (shorter c)
