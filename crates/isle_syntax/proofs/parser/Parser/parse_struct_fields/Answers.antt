use Rattle.std.proofs.Common.{refl, ap, ◌∙◌}
use Rattle.std.proofs.lemmas.Result.{err_from_is_err_and}
use Rattle.isle_syntax.specs.Inside.Reading.Parsing.{bounds}
use Rattle.isle_syntax.specs.Inside.Reading.Readers.{after_close}
use Rattle.isle_syntax.specs.Inside.Reading.DefReading.{field}
use Rattle.isle_syntax.proofs.Reading.Loops.{turn_refuses, turn_adds, turn_no_token, turns_end, takes_none, takes_some}
use Rattle.isle_syntax.proofs.Reading.Shorter.{field_shortens, field_at_end}
use Rattle.isle_syntax.proofs.parser.Parser.parse_struct_fields.Goals as goal

pub returns-in_err-take_close : goal.returns-in_err-take_close
returns-in_err-take_close c =
    let e = err_from_is_err_and c.from_residual.result c.from_residual.ensures.1 in
    rw (e.1, e.2) (turn_no_token after_close (field c.args.depth_left) _ c.fields.self c.fields.self c.args.self.now c.take_close.new.self _ _
    c.fields.invariant.turns c.fields.invariant.same c.in_err-take_close.ensures.no_token refl (field_at_end c.args.depth_left))

pub returns-in_err-parse_struct_field : goal.returns-in_err-parse_struct_field
returns-in_err-parse_struct_field c =
    let e = err_from_is_err_and c.from_residual-in_err-parse_struct_field.result c.from_residual-in_err-parse_struct_field.ensures.1 in
    let going = takes_none c.fields.self c.take_close.new.self _ c.in_ok-take_close.field-0 c.if-not-branch.true c.in_ok-take_close.ensures.taken in
    rw (e.1, e.2) (turn_refuses after_close (field c.args.depth_left) _ c.fields.self c.take_close.new.self c.args.self.now
    c.parse_struct_field.new.self _ _ c.fields.invariant.turns c.fields.invariant.same going c.in_err-parse_struct_field.ensures)

pub fields-preserved : goal.fields-preserved
fields-preserved c =
    let going = takes_none c.fields.self c.take_close.new.self _ c.in_ok-take_close.field-0 c.if-not-branch.true c.in_ok-take_close.ensures.taken in
    let less = (field_shortens c.args.depth_left).less c.take_close.new.self.left c.parse_struct_field.new.self.left _
    c.in_ok-parse_struct_field.ensures.0 in
    record {
      turns = rw c.in_ok-push.ensures.items (turn_adds after_close (field c.args.depth_left) _ c.fields.self c.take_close.new.self
          c.parse_struct_field.new.self _ _ c.fields.invariant.turns going c.in_ok-parse_struct_field.ensures.0 less);
      same = c.in_ok-parse_struct_field.ensures.1 ∙ ap bounds going.1 ∙ c.fields.invariant.same;
    }

pub returns : goal.returns
returns c =
    let taken =
    takes_some c.fields.self c.take_close.new.self _ c.in_ok-take_close.field-0 c.if-not-branch.false c.in_ok-take_close.ensures.taken in (
      turns_end after_close (field c.args.depth_left) _ _ c.fields.self.left _ c.fields.invariant.turns taken.0,
      taken.1 ∙ c.fields.invariant.same,
    )
