use Rattle.std.proofs.Common.{List, Vec, subst, sym}
use Rattle.std.specs.Global.{Global}
use Rattle.isle_ast.specs.declared.error.Error.{Error}
use Rattle.isle_ast.specs.declared.refusal.Refusal.{Refusal}
use Rattle.isle_syntax.specs.Errors.{Report}
use Rattle.isle_ast.specs.Errors.{IfFault}
use Rattle.isle_ast.specs.Positions.Files.{SourceFile}
use Rattle.isle_program.specs.Compiled.{AreFaults}
use Rattle.isle_program.proofs.Compiling.OneAcceptance.{faults_refute}
use Rattle.isle_program.proofs.compiler.compile.Goals as goal

pub returns-in-Err-Fault-clause-faults : goal.returns-in-Err-Fault-clause-faults
returns-in-Err-Fault-clause-faults c =
    let told = subst (λ (r : Refusal (Vec Error Global)). IfFault r (λ errors. AreFaults c.deref.result.now errors.items))
    c.in-Err-Fault.field-0-is c.in-Err-Fault.ensures.faults in
    subst (λ (report : Report). AreFaults c.args.files.value report.errors) (sym c.new.ensures)
    (subst (λ (files : List SourceFile). AreFaults files c.in-Err-Fault.errors.items) c.deref.ensures told)

pub returns-in-Err-Fault-clause-refused : goal.returns-in-Err-Fault-clause-refused
returns-in-Err-Fault-clause-refused c = faults_refute c.args.files.value c.new.result.errors (returns-in-Err-Fault-clause-faults c)
