use Rattle.isle_ast.specs.declared.ast.Fields.TheVariants.{Tuple as tuple_fields}
use Rattle.std.proofs.Common.{rules, [], ◌∷◌, ◌++◌, refl, sym, ap, ◌∙◌}
use Rattle.std.proofs.lemmas.Result.{err_from_is_err_and}
use Rattle.isle_syntax.specs.Inside.Reading.Parsing.{bounds}
use Rattle.isle_syntax.specs.Inside.Reading.Readers.{after_close, read_map, done, rest_of}
use Rattle.isle_syntax.specs.Inside.Reading.DefReading.{identifier, fields_numbered}
use Rattle.isle_syntax.proofs.Reading.Loops.{turn_refuses, turn_adds, turn_no_token, turns_end, takes_none, takes_some, refuses_map}
use Rattle.isle_syntax.proofs.Reading.Shorter.{identifier_shortens}
use Rattle.isle_syntax.proofs.Reading.Numbers.{numbered_push, numbered_none, numbered_some, nothing_in}
use Rattle.isle_syntax.proofs.parser.Parser.parse_tuple_fields.Goals as goal

pub returns-in_err-take_close : goal.returns-in_err-take_close
returns-in_err-take_close c =
    let e = err_from_is_err_and c.from_residual.result c.from_residual.ensures.1 in
    let old = c.args.self.now in
    rw (e.1, e.2) (refuses_map fields_numbered (rest_of identifier old.left) old old c.take_close.new.self _ refl
    (turn_no_token after_close identifier _ c.types.self c.types.self old c.take_close.new.self _ _ c.types.invariant.turns c.types.invariant.same
    c.in_err-take_close.ensures.no_token refl refl))

pub returns-in_err-ty : goal.returns-in_err-ty
returns-in_err-ty c =
    let e = err_from_is_err_and c.from_residual-in_err-ty.result c.from_residual-in_err-ty.ensures.1 in
    let old = c.args.self.now in
    let going = takes_none c.types.self c.take_close.new.self _ c.in_ok-take_close.field-0 c.if-not-branch.true c.in_ok-take_close.ensures.taken in
    rw (e.1, e.2) (refuses_map fields_numbered (rest_of identifier old.left) old old c.ident.new.self _ refl
    (turn_refuses after_close identifier _ c.types.self c.take_close.new.self old c.ident.new.self _ _ c.types.invariant.turns c.types.invariant.same
    going c.in_err-ty.ensures))

pub types-preserved : goal.types-preserved
types-preserved c =
    let going = takes_none c.types.self c.take_close.new.self _ c.in_ok-take_close.field-0 c.if-not-branch.true c.in_ok-take_close.ensures.taken in
    let less = identifier_shortens.less c.take_close.new.self.left c.ident.new.self.left _ c.in_ok-ty.ensures.0 in
    record {
      found = c.types.invariant.found ++ c.in_ok-ty.ty ∷ [];
      turns = turn_adds after_close identifier _ c.types.self c.take_close.new.self c.ident.new.self _ _ c.types.invariant.turns going
          c.in_ok-ty.ensures.0 less;
      numbers = c.in_ok-push.ensures.items ∙ numbered_push c.types.fields.items c.types.invariant.found c.in_ok-ty.ty _ c.types.invariant.numbers
          (search (rules, c.len-index.ensures));
      same = c.in_ok-ty.ensures.1 ∙ ap bounds going.1 ∙ c.types.invariant.same;
    }

pub returns-then-is_empty : goal.returns-then-is_empty
returns-then-is_empty c =
    let taken = takes_some c.types.self c.take_close.new.self _ c.in_ok-take_close.field-0 c.if-not-branch.false c.in_ok-take_close.ensures.taken in
    let all = turns_end after_close identifier _ _ c.types.self.left _ c.types.invariant.turns taken.0 in (
      ap (read_map fields_numbered) all ∙ ap (λ f. done f c.take_close.new.self.left)
          (numbered_none c.types.invariant.found (sym c.types.invariant.numbers
          ∙ nothing_in c.types.fields.items (search (rules, c.if-is_empty.ensures)))),
      taken.1 ∙ c.types.invariant.same,
    )

pub returns : goal.returns
returns c =
    let taken = takes_some c.types.self c.take_close.new.self _ c.in_ok-take_close.field-0 c.if-not-branch.false c.in_ok-take_close.ensures.taken in
    let all = turns_end after_close identifier _ _ c.types.self.left _ c.types.invariant.turns taken.0 in (
      ap (read_map fields_numbered) all ∙ ap (λ f. done f c.take_close.new.self.left)
          (numbered_some c.types.invariant.found (λ none. (let empty = c.types.invariant.numbers
          ∙ none in search (rules, c.if-is_empty.ensures, empty)))
          ∙ ap (λ l. tuple_fields (record { fields = l })) (sym c.types.invariant.numbers ∙ sym c.new.ensures)),
      taken.1 ∙ c.types.invariant.same,
    )
