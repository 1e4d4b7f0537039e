use Rattle.std.proofs.Common.{sym, ap, ◌∙◌, ◌++◌}
use Rattle.std.specs.Char.{encode_utf8}
use Rattle.isle_syntax.proofs.Tokens.Identifiers.{ident_by_first}
use Rattle.isle_syntax.proofs.symbol.is_ident.Goals as goal

pub returns-then-begins_ident : goal.returns-then-begins_ident
returns-then-begins_ident c =
    ident_by_first c.args.text.now c.as_str.result.now c.in-Some.first c.each_continues_ident.result c.utf8.text
    (sym c.chars-chars.ensures.rest ∙ c.in-Some.ensures.steps.0 ∙ ap (λ r. encode_utf8 c.in-Some.first ++ r) (sym c.as_str.ensures))
    (sym c.begins_ident.ensures ∙ c.if-begins_ident.true) c.each_continues_ident.ensures
