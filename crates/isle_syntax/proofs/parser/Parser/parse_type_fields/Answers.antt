use Rattle.std.proofs.Common.{refl, sym, ap, ◌∙◌}
use Rattle.std.proofs.lemmas.Result.{err_from_is_err_and}
use Rattle.isle_syntax.specs.Inside.Reading.Parsing.{stop_of}
use Rattle.isle_syntax.specs.Inside.Reading.DefReading.{fields}
use Rattle.isle_syntax.proofs.Reading.Loops.{refuses_no_token}
use Rattle.isle_syntax.proofs.Reading.Shorter.{fields_at_end}
use Rattle.isle_syntax.proofs.parser.Parser.parse_type_fields.Goals as goal

pub returns-in_err-is_symbol : goal.returns-in_err-is_symbol
returns-in_err-is_symbol c =
    let e = err_from_is_err_and c.from_residual.result c.from_residual.ensures.1 in
    let old = c.args.self.now in
    rw (e.1, e.2) (refuses_no_token old old c.is_symbol.new.self _ (stop_of (fields c.args.depth_left old.left)) refl
    c.in_err-is_symbol.ensures.no_token
    (λ none. sym (ap (λ l. stop_of (fields c.args.depth_left l)) none ∙ ap stop_of (fields_at_end c.args.depth_left))))
