use Rattle.isle_syntax.proofs.Reading.Taking.{const_ascii}
use Rattle.isle_syntax.proofs.parser.Parser.after_dollar.Goals as goal

pub after_char-requires : goal.after_char-requires
after_char-requires c = const_ascii c.args.constant.now c.requires
