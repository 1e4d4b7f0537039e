use Rattle.std.proofs.Common.{sym, ap, ◌∙◌}
use Rattle.std.specs.Prelude.{codes}
use Rattle.std.proofs.lemmas.Result.{err_from_is_err_and}
use Rattle.isle_syntax.specs.Tokens.Names.{is_word}
use Rattle.isle_syntax.specs.Grammar.Phrases.{next_symbol_is}
use Rattle.isle_syntax.specs.Inside.Reading.Parsing.{bounds}
use Rattle.isle_syntax.specs.Inside.Reading.DefReading.{rule_body}
use Rattle.isle_syntax.proofs.Productions.BodyCalls.{turn_no_token, plain_refuses, plain_reads, opening_refuses, goes_in, looked, inside_no_token}
use Rattle.isle_syntax.proofs.Productions.BodyCalls.{if_let_refuses, if_refuses, last_refuses, last_reads, if_let_adds, if_adds, if_let_shorter}
use Rattle.isle_syntax.proofs.Productions.BodyCalls.{if_shorter}
use Rattle.isle_syntax.proofs.parser.Parser.parse_body.Goals as goal

pub returns-in_err-is_open : goal.returns-in_err-is_open
returns-in_err-is_open c =
    let e = err_from_is_err_and c.from_residual.result c.from_residual.ensures.1 in
    rw (e.1, e.2) (turn_no_token c.args.depth_left _ c.clauses.iflets.items c.args.self.now c.clauses.self c.clauses.invariant.turns
    c.clauses.invariant.same c.is_open.new.self _ c.in_err-is_open.ensures.no_token)

pub returns-in_err-parse_right_side : goal.returns-in_err-parse_right_side
returns-in_err-parse_right_side c =
    let e = err_from_is_err_and c.from_residual-in_err-parse_right_side.result c.from_residual-in_err-parse_right_side.ensures.1 in
    rw (e.1, e.2)
    (plain_refuses c.args.depth_left _ c.clauses.iflets.items c.args.self.now c.clauses.self c.clauses.invariant.turns c.clauses.invariant.same
    c.is_open.new.self c.parse_right_side.new.self c.in_ok-is_open.ensures.known _
    (sym c.in_ok-is_open.ensures.open ∙ c.if-not-branch.true) c.in_err-parse_right_side.ensures)

pub returns-then-not-branch : goal.returns-then-not-branch
returns-then-not-branch c = (
  plain_reads c.args.depth_left _ c.clauses.iflets.items c.args.self.now c.clauses.self c.clauses.invariant.turns c.clauses.invariant.same
      c.is_open.new.self c.parse_right_side.new.self c.in_ok-is_open.ensures.known _
      (sym c.in_ok-is_open.ensures.open ∙ c.if-not-branch.true) c.in_ok-parse_right_side.ensures.0,
  c.in_ok-parse_right_side.ensures.1 ∙ ap bounds c.in_ok-is_open.ensures.known.same ∙ c.clauses.invariant.same,
)

pub returns-in_err-pos : goal.returns-in_err-pos
returns-in_err-pos c =
    let e = err_from_is_err_and c.from_residual-in_err-pos.result c.from_residual-in_err-pos.ensures.1 in
    rw (e.1, e.2)
    (opening_refuses c.args.depth_left _ c.clauses.iflets.items c.args.self.now c.clauses.self c.clauses.invariant.turns c.clauses.invariant.same
    c.is_open.new.self c.open.new.self c.in_ok-is_open.ensures.known _
    (sym c.in_ok-is_open.ensures.open ∙ c.if-not-branch.false) c.in_err-pos.ensures.opened)

pub returns-in_err-is_word : goal.returns-in_err-is_word
returns-in_err-is_word c =
    let e = err_from_is_err_and c.from_residual-in_err-is_word.result c.from_residual-in_err-is_word.ensures.1 in
    let old = c.args.self.now in
    let o = goes_in c.args.depth_left (rule_body c.args.depth_left old.left) c.clauses.iflets.items old c.clauses.self c.is_open.new.self
    c.open.new.self c.in_ok-pos.pos c.clauses.invariant.turns c.clauses.invariant.same
    c.in_ok-is_open.ensures.known (sym c.in_ok-is_open.ensures.open ∙ c.if-not-branch.false) c.in_ok-pos.ensures.opened in
    rw (e.1, e.2) (inside_no_token c.args.depth_left _ _ old _ _ _ o c.is_word.new.self _ c.in_err-is_word.ensures.no_token)

pub returns-in_err-parse_iflet : goal.returns-in_err-parse_iflet
returns-in_err-parse_iflet c =
    let e = err_from_is_err_and c.from_residual-in_err-parse_iflet.result c.from_residual-in_err-parse_iflet.ensures.1 in
    let old = c.args.self.now in
    let o = goes_in c.args.depth_left (rule_body c.args.depth_left old.left) c.clauses.iflets.items old c.clauses.self c.is_open.new.self
    c.open.new.self c.in_ok-pos.pos c.clauses.invariant.turns c.clauses.invariant.same
    c.in_ok-is_open.ensures.known (sym c.in_ok-is_open.ensures.open ∙ c.if-not-branch.false) c.in_ok-pos.ensures.opened in
    let known = c.in_ok-is_word.ensures.known in
    let word = ap (λ u. next_symbol_is (is_word (codes "if-let")) u.left) known.same ∙ sym c.in_ok-is_word.ensures.same_word ∙ c.if-branch.true in
    rw (e.1, e.2) (if_let_refuses c.args.depth_left _ _ old _ _ _ (looked c.args.depth_left _ _ old _ _ _ o c.is_word.new.self known)
    c.parse_iflet.new.self _ word c.in_err-parse_iflet.ensures)

pub clauses-smaller-then-branch : goal.clauses-smaller-then-branch
clauses-smaller-then-branch c =
    let old = c.args.self.now in
    let o = goes_in c.args.depth_left (rule_body c.args.depth_left old.left) c.clauses.iflets.items old c.clauses.self c.is_open.new.self
    c.open.new.self c.in_ok-pos.pos c.clauses.invariant.turns c.clauses.invariant.same
    c.in_ok-is_open.ensures.known (sym c.in_ok-is_open.ensures.open ∙ c.if-not-branch.false) c.in_ok-pos.ensures.opened in
    if_let_shorter c.args.depth_left _ _ old _ _ _ (looked c.args.depth_left _ _ old _ _ _ o c.is_word.new.self c.in_ok-is_word.ensures.known)
    c.parse_iflet.new.self _ c.in_ok-parse_iflet.ensures.0

pub clauses-preserved-then-branch : goal.clauses-preserved-then-branch
clauses-preserved-then-branch c =
    let old = c.args.self.now in
    let o = goes_in c.args.depth_left (rule_body c.args.depth_left old.left) c.clauses.iflets.items old c.clauses.self c.is_open.new.self
    c.open.new.self c.in_ok-pos.pos c.clauses.invariant.turns c.clauses.invariant.same
    c.in_ok-is_open.ensures.known (sym c.in_ok-is_open.ensures.open ∙ c.if-not-branch.false) c.in_ok-pos.ensures.opened in
    let known = c.in_ok-is_word.ensures.known in
    let word = ap (λ u. next_symbol_is (is_word (codes "if-let")) u.left) known.same ∙ sym c.in_ok-is_word.ensures.same_word ∙ c.if-branch.true in
    let l = looked c.args.depth_left _ _ old _ _ _ o c.is_word.new.self known in
    record {
      turns = rw c.in_ok-push.ensures.items (if_let_adds c.args.depth_left _ _ old _ _ _ l c.parse_iflet.new.self _ word
          c.in_ok-parse_iflet.ensures.0);
      same = c.in_ok-parse_iflet.ensures.1 ∙ l.within;
    }

pub returns-in_err-is_word-2 : goal.returns-in_err-is_word-2
returns-in_err-is_word-2 c =
    let e = err_from_is_err_and c.from_residual-in_err-is_word-2.result c.from_residual-in_err-is_word-2.ensures.1 in
    let old = c.args.self.now in
    let o = goes_in c.args.depth_left (rule_body c.args.depth_left old.left) c.clauses.iflets.items old c.clauses.self c.is_open.new.self
    c.open.new.self c.in_ok-pos.pos c.clauses.invariant.turns c.clauses.invariant.same
    c.in_ok-is_open.ensures.known (sym c.in_ok-is_open.ensures.open ∙ c.if-not-branch.false) c.in_ok-pos.ensures.opened in
    rw (e.1, e.2) (inside_no_token c.args.depth_left _ _ old _ _ _
    (looked c.args.depth_left _ _ old _ _ _ o c.is_word.new.self c.in_ok-is_word.ensures.known) c.is_word-in-clauses.new.self _
    c.in_err-is_word-2.ensures.no_token)

pub returns-in_err-parse_right_side_inner : goal.returns-in_err-parse_right_side_inner
returns-in_err-parse_right_side_inner c =
    let e = err_from_is_err_and c.from_residual-in_err-parse_right_side_inner.result c.from_residual-in_err-parse_right_side_inner.ensures.1 in
    let old = c.args.self.now in
    let o = goes_in c.args.depth_left (rule_body c.args.depth_left old.left) c.clauses.iflets.items old c.clauses.self c.is_open.new.self
    c.open.new.self c.in_ok-pos.pos c.clauses.invariant.turns c.clauses.invariant.same
    c.in_ok-is_open.ensures.known (sym c.in_ok-is_open.ensures.open ∙ c.if-not-branch.false) c.in_ok-pos.ensures.opened in
    let known = c.in_ok-is_word.ensures.known in
    let later = c.in_ok-is_word-2.ensures.known in
    let l = looked c.args.depth_left _ _ old _ _ _ (looked c.args.depth_left _ _ old _ _ _ o c.is_word.new.self known) c.is_word-in-clauses.new.self
    later in
    let other = ap (λ u. next_symbol_is (is_word (codes "if-let")) u.left) (later.same ∙ known.same) ∙ sym c.in_ok-is_word.ensures.same_word
    ∙ c.if-branch.false in
    let none = ap (λ u. next_symbol_is (is_word (codes "if")) u.left) later.same ∙ sym c.in_ok-is_word-2.ensures.same_word ∙ c.if-not-branch-2.true in
    rw (e.1, e.2) (last_refuses c.args.depth_left _ _ old _ _ _ l c.parse_right_side_inner.new.self _ other none
    c.in_err-parse_right_side_inner.ensures)

pub returns-then-not-branch-2 : goal.returns-then-not-branch-2
returns-then-not-branch-2 c =
    let old = c.args.self.now in
    let o = goes_in c.args.depth_left (rule_body c.args.depth_left old.left) c.clauses.iflets.items old c.clauses.self c.is_open.new.self
    c.open.new.self c.in_ok-pos.pos c.clauses.invariant.turns c.clauses.invariant.same
    c.in_ok-is_open.ensures.known (sym c.in_ok-is_open.ensures.open ∙ c.if-not-branch.false) c.in_ok-pos.ensures.opened in
    let known = c.in_ok-is_word.ensures.known in
    let later = c.in_ok-is_word-2.ensures.known in
    let l = looked c.args.depth_left _ _ old _ _ _ (looked c.args.depth_left _ _ old _ _ _ o c.is_word.new.self known) c.is_word-in-clauses.new.self
    later in
    let other = ap (λ u. next_symbol_is (is_word (codes "if-let")) u.left) (later.same ∙ known.same) ∙ sym c.in_ok-is_word.ensures.same_word
    ∙ c.if-branch.false in
    let none = ap (λ u. next_symbol_is (is_word (codes "if")) u.left) later.same ∙ sym c.in_ok-is_word-2.ensures.same_word ∙ c.if-not-branch-2.true in
    let ends = c.in_ok-parse_right_side_inner.ensures in
    (last_reads c.args.depth_left _ _ old _ _ _ l c.parse_right_side_inner.new.self _ other none ends.0, ends.1 ∙ l.within)

pub returns-in_err-parse_if : goal.returns-in_err-parse_if
returns-in_err-parse_if c =
    let e = err_from_is_err_and c.from_residual-in_err-parse_if.result c.from_residual-in_err-parse_if.ensures.1 in
    let old = c.args.self.now in
    let o = goes_in c.args.depth_left (rule_body c.args.depth_left old.left) c.clauses.iflets.items old c.clauses.self c.is_open.new.self
    c.open.new.self c.in_ok-pos.pos c.clauses.invariant.turns c.clauses.invariant.same
    c.in_ok-is_open.ensures.known (sym c.in_ok-is_open.ensures.open ∙ c.if-not-branch.false) c.in_ok-pos.ensures.opened in
    let known = c.in_ok-is_word.ensures.known in
    let later = c.in_ok-is_word-2.ensures.known in
    let l = looked c.args.depth_left _ _ old _ _ _ (looked c.args.depth_left _ _ old _ _ _ o c.is_word.new.self known) c.is_word-in-clauses.new.self
    later in
    let other = ap (λ u. next_symbol_is (is_word (codes "if-let")) u.left) (later.same ∙ known.same) ∙ sym c.in_ok-is_word.ensures.same_word
    ∙ c.if-branch.false in
    let word = ap (λ u. next_symbol_is (is_word (codes "if")) u.left) later.same ∙ sym c.in_ok-is_word-2.ensures.same_word
    ∙ c.if-not-branch-2.false in
    rw (e.1, e.2) (if_refuses c.args.depth_left _ _ old _ _ _ l c.parse_if.new.self _ other word c.in_err-parse_if.ensures)

pub clauses-smaller : goal.clauses-smaller
clauses-smaller c =
    let old = c.args.self.now in
    let o = goes_in c.args.depth_left (rule_body c.args.depth_left old.left) c.clauses.iflets.items old c.clauses.self c.is_open.new.self
    c.open.new.self c.in_ok-pos.pos c.clauses.invariant.turns c.clauses.invariant.same
    c.in_ok-is_open.ensures.known (sym c.in_ok-is_open.ensures.open ∙ c.if-not-branch.false) c.in_ok-pos.ensures.opened in
    let known = c.in_ok-is_word.ensures.known in
    let later = c.in_ok-is_word-2.ensures.known in
    let l = looked c.args.depth_left _ _ old _ _ _ (looked c.args.depth_left _ _ old _ _ _ o c.is_word.new.self known) c.is_word-in-clauses.new.self
    later in
    if_shorter c.args.depth_left _ _ old _ _ _ l c.parse_if.new.self _ c.in_ok-parse_if.ensures.0

pub clauses-preserved : goal.clauses-preserved
clauses-preserved c =
    let old = c.args.self.now in
    let o = goes_in c.args.depth_left (rule_body c.args.depth_left old.left) c.clauses.iflets.items old c.clauses.self c.is_open.new.self
    c.open.new.self c.in_ok-pos.pos c.clauses.invariant.turns c.clauses.invariant.same
    c.in_ok-is_open.ensures.known (sym c.in_ok-is_open.ensures.open ∙ c.if-not-branch.false) c.in_ok-pos.ensures.opened in
    let known = c.in_ok-is_word.ensures.known in
    let later = c.in_ok-is_word-2.ensures.known in
    let l = looked c.args.depth_left _ _ old _ _ _ (looked c.args.depth_left _ _ old _ _ _ o c.is_word.new.self known) c.is_word-in-clauses.new.self
    later in
    let other = ap (λ u. next_symbol_is (is_word (codes "if-let")) u.left) (later.same ∙ known.same) ∙ sym c.in_ok-is_word.ensures.same_word
    ∙ c.if-branch.false in
    let word = ap (λ u. next_symbol_is (is_word (codes "if")) u.left) later.same ∙ sym c.in_ok-is_word-2.ensures.same_word
    ∙ c.if-not-branch-2.false in
    record {
      turns = rw c.in_ok-push-2.ensures.items (if_adds c.args.depth_left _ _ old _ _ _ l c.parse_if.new.self _ other word c.in_ok-parse_if.ensures.0);
      same = c.in_ok-parse_if.ensures.1 ∙ l.within;
    }
