use Rattle.std.proofs.Common.{ℕ, List, get_or, sym, ap, ◌∙◌}
use Rattle.std.proofs.lemmas.List.{get_or_past}
use Rattle.isle_program.specs.Programs.{types_of, terms_of, rule_sets_of}
use Rattle.isle_program.proofs.ProgramFacts.Told.{steps_told}
use Rattle.isle_program.proofs.program.Program.steps_at_most.Goals as goal

pub returns-in-Some : goal.returns-in-Some
returns-in-Some c =
    let program = c.args.self.now in
    c.in-Some.ensures.lookup.3.1 0 ∙ ap (λ (l : List ℕ). get_or l c.index.result 0) c.deref.ensures.value
    ∙ ap (λ (n : ℕ). get_or program.numbers.steps.items n 0) c.index.ensures
    ∙ steps_told (types_of program) (terms_of program) (rule_sets_of program) program.numbers program.numbered c.args.term.0

pub returns-in-None : goal.returns-in-None
returns-in-None c =
    let program = c.args.self.now in
    sym (get_or_past c.deref.result.now c.index.result 0 c.in-None.ensures.lookup.3) ∙ ap (λ (l : List ℕ). get_or l c.index.result 0)
    c.deref.ensures.value
    ∙ ap (λ (n : ℕ). get_or program.numbers.steps.items n 0) c.index.ensures
    ∙ steps_told (types_of program) (terms_of program) (rule_sets_of program) program.numbers program.numbered c.args.term.0
