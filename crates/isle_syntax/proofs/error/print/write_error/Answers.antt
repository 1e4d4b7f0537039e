use Rattle.std.proofs.Common.{◌<◌, length, ap, sym, subst, ◌∙◌, arith}
use Rattle.std.proofs.Output.{has_written_of_eq}
use Rattle.isle_ast.specs.declared.error.Error.{Error}
use Rattle.isle_ast.specs.declared.error.Error.TheVariants.{OverlapError}
use Rattle.isle_ast.specs.Errors.{spans_of}
use Rattle.isle_syntax.specs.Errors.{error_text}
use Rattle.isle_syntax.proofs.Positions.ErrorTexts.{overlap_text, masked_have_places}
use Rattle.isle_syntax.proofs.error.print.write_error.Goals as goal

pub returns-in-TypeError : goal.returns-in-TypeError
returns-in-TypeError g c = rw c.in-TypeError.is c.write_fault-in-TypeError.ensures

pub returns-in-UnreachableError : goal.returns-in-UnreachableError
returns-in-UnreachableError g c = rw c.in-UnreachableError.is c.write_fault-in-UnreachableError.ensures

pub returns-in-ShadowedError : goal.returns-in-ShadowedError
returns-in-ShadowedError g c = rw (c.in-ShadowedError.is, ← c.as_slice.ensures) c.write_rules-in-ShadowedError.ensures

pub write_rules-requires-in-ShadowedError-clause-there : goal.write_rules-requires-in-ShadowedError-clause-there
write_rules-requires-in-ShadowedError-clause-there g c =
    masked_have_places c.args.files.now c.args.error.now _ _ c.as_slice.result.now c.requires.placed c.in-ShadowedError.is c.as_slice.ensures

pub returns-in-OverlapError : goal.returns-in-OverlapError
returns-in-OverlapError g c = λ plain ok.
    let files = c.args.files.now in
    let rules = c.as_slice-rules.result.now in
    let any : 0 < length c.in-OverlapError.rules = subst (λ (e : Error). 0 < length (spans_of e)) c.in-OverlapError.is c.requires.named in
    let text = overlap_text files c.in-OverlapError.msg rules _ (omega (arith, ap length c.as_slice-rules.ensures)) in
    let same = ap (λ r. error_text files (OverlapError c.in-OverlapError.msg r)) c.as_slice-rules.ensures
    ∙ ap (error_text files) (sym c.in-OverlapError.is) in
    has_written_of_eq _ _ _ _ _ (text ∙ same) (c.write_rules.ensures plain ok)
