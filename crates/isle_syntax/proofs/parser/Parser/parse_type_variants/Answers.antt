use Rattle.std.proofs.Common.{length, refl, ap, ◌∙◌, arith}
use Rattle.std.proofs.lemmas.Result.{err_from_is_err_and}
use Rattle.isle_syntax.specs.Inside.Reading.Parsing.{bounds}
use Rattle.isle_syntax.specs.Inside.Reading.Readers.{after_close}
use Rattle.isle_syntax.specs.Inside.Reading.DefReading.{variant}
use Rattle.isle_syntax.proofs.Reading.Loops.{turn_refuses, turn_adds, turn_no_token, turns_end, takes_none, takes_some}
use Rattle.isle_syntax.proofs.Reading.Shorter.{variant_shortens, variant_at_end}
use Rattle.isle_syntax.proofs.parser.Parser.parse_type_variants.Goals as goal

pub returns-in_err-take_close : goal.returns-in_err-take_close
returns-in_err-take_close c =
    let e = err_from_is_err_and c.from_residual.result c.from_residual.ensures.1 in
    rw (e.1, e.2) (turn_no_token after_close (variant c.args.depth_left) _ c.variants.self c.variants.self c.args.self.now c.take_close.new.self _ _
    c.variants.invariant.turns c.variants.invariant.same c.in_err-take_close.ensures.no_token refl (variant_at_end c.args.depth_left))

pub returns-in_err-parse_type_variant : goal.returns-in_err-parse_type_variant
returns-in_err-parse_type_variant c =
    let e = err_from_is_err_and c.from_residual-in_err-parse_type_variant.result c.from_residual-in_err-parse_type_variant.ensures.1 in
    let going = takes_none c.variants.self c.take_close.new.self _ c.in_ok-take_close.field-0 c.if-not-branch.true c.in_ok-take_close.ensures.taken in
    rw (e.1, e.2) (turn_refuses after_close (variant c.args.depth_left) _ c.variants.self c.take_close.new.self c.args.self.now
    c.parse_type_variant.new.self _ _ c.variants.invariant.turns c.variants.invariant.same going c.in_err-parse_type_variant.ensures)

pub variants-preserved : goal.variants-preserved
variants-preserved c =
    let going = takes_none c.variants.self c.take_close.new.self _ c.in_ok-take_close.field-0 c.if-not-branch.true c.in_ok-take_close.ensures.taken in
    let less = (variant_shortens c.args.depth_left).less c.take_close.new.self.left c.parse_type_variant.new.self.left _
    c.in_ok-parse_type_variant.ensures.0 in
    record {
      turns = rw c.in_ok-push.ensures.items (turn_adds after_close (variant c.args.depth_left) _ c.variants.self c.take_close.new.self
          c.parse_type_variant.new.self _ _ c.variants.invariant.turns going c.in_ok-parse_type_variant.ensures.0 less);
      same = c.in_ok-parse_type_variant.ensures.1 ∙ ap bounds going.1 ∙ c.variants.invariant.same;
    }

pub returns : goal.returns
returns c =
    let taken = takes_some c.variants.self c.take_close.new.self _ c.in_ok-take_close.field-0 c.if-not-branch.false c.in_ok-take_close.ensures.taken
    in (
      turns_end after_close (variant c.args.depth_left) _ _ c.variants.self.left _ c.variants.invariant.turns taken.0,
      taken.1 ∙ c.variants.invariant.same,
    )

pub variants-smaller : goal.variants-smaller
variants-smaller c =
    let going = takes_none c.variants.self c.take_close.new.self _ c.in_ok-take_close.field-0 c.if-not-branch.true c.in_ok-take_close.ensures.taken in
    omega (
      arith,
      (variant_shortens c.args.depth_left).less c.take_close.new.self.left c.parse_type_variant.new.self.left _
          c.in_ok-parse_type_variant.ensures.0,
      ap (λ u. length u.left) going.1,
    )
