use Rattle.std.proofs.Common.{◌≡◌, length, rules, ap, ◌∙◌}
use Rattle.std.specs.Str.{chars}
use Rattle.std.proofs.lemmas.Str.{chars_from_encodes}
use Rattle.isle_layout.specs.Layout.{within}
use Rattle.isle_layout.proofs.Layouts.Lengths.{length_chars}
use Rattle.isle_layout.proofs.printer.text_length.Goals as goal

pub returns : goal.returns
returns c =
    let counted : c.count.result ≡ length (chars c.args.text.now) = search (rules, chars_from_encodes) in
    c.at_most.ensures ∙ ap (within c.args.width) (counted ∙ length_chars c.args.text.now c.utf8.text)
