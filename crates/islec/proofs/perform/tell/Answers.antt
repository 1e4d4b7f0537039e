use Rattle.std.proofs.Common.{◌≢◌, List, ℕ, string_bytes, subst}
use Rattle.islec.specs.Running.{TellsChecked}
use Rattle.islec.specs.Writing.{AppendsBeginning}
use Rattle.islec.specs.declared.serve.ServeFault.TheVariants.{Memory}
use Rattle.islec.proofs.ServingLemmas.{at_fault}
use Rattle.islec.proofs.perform.tell.Goals as goal

pub returns-in_err-write_text-clause-cut : goal.returns-in_err-write_text-clause-cut
returns-in_err-write_text-clause-cut g c =
    let old = g.W.Write.contents c.args.writer.now in let new = g.W.Write.contents c.write_text.new.writer in
    let wrote = subst (AppendsBeginning old new) c.as_str.ensures.value c.in_err-write_text.ensures.err in
    at_fault c.from_residual-in_err-write_text.result (λ fault. fault ≢ Memory)
    ((text : List ℕ) × TellsChecked c.args.files.now c.args.program.now c.args.telling text × AppendsBeginning old new text)
    (string_bytes c.in_ok-text.text, c.in_ok-text.ensures, wrote)
