use Rattle.std.proofs.Common.{refl, ap, ◌∙◌}
use Rattle.std.proofs.lemmas.Result.{err_from_is_err_and}
use Rattle.isle_syntax.specs.Inside.Reading.Parsing.{bounds}
use Rattle.isle_syntax.specs.Inside.Reading.Readers.{after_close}
use Rattle.isle_syntax.specs.Inside.Reading.DefReading.{identifier}
use Rattle.isle_syntax.proofs.Reading.Loops.{turn_refuses, turn_adds, turn_no_token, turns_end, takes_none, takes_some}
use Rattle.isle_syntax.proofs.Reading.Shorter.{identifier_shortens}
use Rattle.isle_syntax.proofs.parser.Parser.parse_idents.Goals as goal

pub returns-in_err-take_close : goal.returns-in_err-take_close
returns-in_err-take_close c =
    let e = err_from_is_err_and c.from_residual.result c.from_residual.ensures.1 in
    rw (e.1, e.2) (turn_no_token after_close identifier _ c.idents.self c.idents.self c.args.self.now c.take_close.new.self _ _
    c.idents.invariant.turns c.idents.invariant.same c.in_err-take_close.ensures.no_token refl refl)

pub returns-in_err-ident : goal.returns-in_err-ident
returns-in_err-ident c =
    let e = err_from_is_err_and c.from_residual-in_err-ident.result c.from_residual-in_err-ident.ensures.1 in
    let going = takes_none c.idents.self c.take_close.new.self _ c.in_ok-take_close.field-0 c.if-not-branch.true c.in_ok-take_close.ensures.taken in
    rw (e.1, e.2) (turn_refuses after_close identifier _ c.idents.self c.take_close.new.self c.args.self.now c.ident.new.self _ _
    c.idents.invariant.turns c.idents.invariant.same going c.in_err-ident.ensures)

pub idents-preserved : goal.idents-preserved
idents-preserved c =
    let going = takes_none c.idents.self c.take_close.new.self _ c.in_ok-take_close.field-0 c.if-not-branch.true c.in_ok-take_close.ensures.taken in
    let less = identifier_shortens.less c.take_close.new.self.left c.ident.new.self.left _ c.in_ok-ident.ensures.0 in
    record {
      turns = rw c.in_ok-push.ensures.items (turn_adds after_close identifier _ c.idents.self c.take_close.new.self c.ident.new.self _ _
          c.idents.invariant.turns going c.in_ok-ident.ensures.0 less);
      same = c.in_ok-ident.ensures.1 ∙ ap bounds going.1 ∙ c.idents.invariant.same;
    }

pub returns : goal.returns
returns c =
    let taken =
    takes_some c.idents.self c.take_close.new.self _ c.in_ok-take_close.field-0 c.if-not-branch.false c.in_ok-take_close.ensures.taken in (
      turns_end after_close identifier _ _ c.idents.self.left _ c.idents.invariant.turns taken.0,
      taken.1 ∙ c.idents.invariant.same,
    )
