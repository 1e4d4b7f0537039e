use Rattle.std.proofs.Common.{List, sym, subst}
use Rattle.isle_types.specs.declared.ids.TermId.{TermId}
use Rattle.isle_program.specs.Facts.Asked.{AreRoots}
use Rattle.isle_program.specs.Programs.{types_of, terms_of, rule_sets_of}
use Rattle.isle_program.proofs.ProgramFacts.Told.{roots_told}
use Rattle.isle_program.proofs.program.Program.terms_with_rules.Goals as goal

pub returns : goal.returns
returns c =
    let program = c.args.self.now in
    subst (λ (terms : List TermId). AreRoots (terms_of program) terms) (sym c.as_slice.ensures.value)
    (roots_told (types_of program) (terms_of program) (rule_sets_of program) program.numbers program.numbered)
