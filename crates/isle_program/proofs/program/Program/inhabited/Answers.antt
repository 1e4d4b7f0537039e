use Rattle.isle_program.specs.Programs.{types_of, terms_of, rule_sets_of}
use Rattle.isle_program.proofs.ProgramFacts.Told.{inhabited_told}
use Rattle.isle_program.proofs.program.Program.inhabited.Goals as goal

pub returns : goal.returns
returns c =
    let program = c.args.self.now in
    inhabited_told (types_of program) (terms_of program) (rule_sets_of program) program.numbers program.numbered
