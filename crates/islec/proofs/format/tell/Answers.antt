use Rattle.std.proofs.lemmas.List.{length-map}
use Rattle.std.proofs.Common.{map, string_bytes, sym, ◌∙◌}
use Rattle.islec.proofs.PrintsLemmas.{as_many_prints}
use Rattle.islec.proofs.format.tell.Goals as goal

pub told_of-requires : goal.told_of-requires
told_of-requires g c = sym (length-map c.args.prints.now string_bytes)
    ∙ as_many_prints c.args.printing.keep c.args.printing.width 0 c.args.files.now (map string_bytes c.args.prints.now) c.requires.prints
