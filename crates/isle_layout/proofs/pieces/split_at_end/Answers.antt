use Rattle.std.proofs.Common.{◌-◌, length, subst, arith}
use Rattle.std.specs.Str.{IsUtf8}
use Rattle.std.proofs.lemmas.Str.{IsCharBoundary-from_drop}
use Rattle.isle_layout.proofs.pieces.split_at_end.Goals as goal

pub split_at-requires : goal.split_at-requires
split_at-requires c =
    IsCharBoundary-from_drop c.args.text.now (length c.args.text.now - length c.args.end.now) (omega arith)
    (subst IsUtf8 c.requires.end.same c.requires.text)
