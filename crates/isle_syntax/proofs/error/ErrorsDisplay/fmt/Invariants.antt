use Rattle.std.proofs.Common.{take}
use Rattle.std.specs.List.{flat_map}
use Rattle.std.specs.Fmt.{HasWritten, IsPlainFormatter}
use Rattle.isle_syntax.specs.Errors.{error_text}
use Rattle.isle_syntax.proofs.error.ErrorsDisplay.fmt.Given as goal

abbrev pub invariant-loop-error : goal.invariant-loop-error
invariant-loop-error g l =
    IsPlainFormatter l.initial.f → HasWritten g.W.Write.write_str_gives l.initial.f (flat_map (error_text l.files) (take l.error-index l.error-items))
    l.f
