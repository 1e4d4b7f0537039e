use Rattle.std.proofs.Common.{◌≡◌, true, sym, ◌∙◌}
use Rattle.isle_program.specs.Programs.{types_of, terms_of, rule_sets_of}
use Rattle.isle_program.specs.Facts.Reach.{is_root}
use Rattle.isle_program.proofs.ProgramFacts.Told.{is_runnable, runnable_free, opposite, opposite_back, apart}
use Rattle.isle_program.proofs.program.Program.runnable.Goals as goal

pub returns-then-has_rules : goal.returns-then-has_rules
returns-then-has_rules c =
    let program = c.args.self.now in let term = c.args.term.0 in
    let root : is_root (terms_of program) term ≡ true = sym c.has_rules.ensures ∙ c.if-has_rules.true in (
      λ free. is_runnable (types_of program) (terms_of program) (rule_sets_of program) program.numbers program.numbered term root
          (sym c.is_barred.ensures ∙ opposite c.is_barred.result free),
      λ runs. opposite_back c.is_barred.result (c.is_barred.ensures
          ∙ runnable_free (types_of program) (terms_of program) (rule_sets_of program) program.numbers program.numbered term runs),
    )

pub returns-else-has_rules : goal.returns-else-has_rules
returns-else-has_rules c = (
  λ told. absurd (apart c.has_rules.result told c.if-has_rules.false),
  λ runs. c.has_rules.ensures ∙ runs.rules,
)
