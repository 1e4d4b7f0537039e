use Rattle.std.proofs.Common.{length, ap}
use Rattle.std.specs.Prelude.{◌==◌}
use Rattle.isle_syntax.proofs.Tokens.Identifiers.{const_name}
use Rattle.isle_syntax.proofs.symbol.is_const_name.Goals as goal

pub returns-then-not-is_empty : goal.returns-then-not-is_empty
returns-then-not-is_empty c =
    const_name c.args.text.now c.each_continues_ident.result c.utf8.text
    (λ e. let none = ap (λ text. length text == 0) e in let some = c.if-not-is_empty.true in let is = c.is_empty.ensures in cc)
    c.each_continues_ident.ensures
