use Rattle.std.proofs.Common.{◌≡◌, sym, subst, rules}
use Rattle.isle_syntax.specs.Tokens.Integers.{after_integer}
use Rattle.isle_syntax.proofs.Tokens.Cuts.{ending_is_end}
use Rattle.isle_syntax.proofs.Tokens.GapCuts.{Cut, cut_self}
use Rattle.isle_syntax.proofs.Tokens.IntegerCuts.{cut_integer}
use Rattle.isle_syntax.proofs.number.number.Goals as goal

cut : (c : goal.In-Some) → Cut c.args.text.now c.digits_of.result.1.now
cut c =
    let text = c.args.text.now in
    let same : c.digits_of.result.1.now ≡ after_integer text = search rules in
    subst (Cut text) (sym same) (cut_integer text (cut_self text c.utf8.text))

pub end_of-requires-clause-end : goal.end_of-requires-clause-end
end_of-requires-clause-end c = ending_is_end (cut c).ending

pub end_of-requires-clause-text : goal.end_of-requires-clause-text
end_of-requires-clause-text c = (cut c).utf8
