use Rattle.std.proofs.Common.{◌≡◌, true, sym, ap, ◌∙◌}
use Rattle.isle_syntax.specs.Tokens.Names.{is_const}
use Rattle.isle_syntax.specs.Grammar.Phrases.{next_symbol_is}
use Rattle.isle_syntax.proofs.Reading.Taking.{symbol_passes}
use Rattle.isle_syntax.proofs.parser.Parser.constant.Goals as goal

pub after_dollar-requires : goal.after_dollar-requires
after_dollar-requires c =
    let known = c.in_ok-is_const.ensures.known in
    let seen : next_symbol_is is_const c.is_const.new.self.left ≡ true =
    ap (λ u. next_symbol_is is_const u.left) known.same ∙ sym c.in_ok-is_const.ensures.constant ∙ c.if-not-branch.false in
    ap is_const c.as_str.ensures ∙ symbol_passes is_const c.is_const.new.self.left _ c.in_ok-name.name seen c.in_ok-name.ensures.0
