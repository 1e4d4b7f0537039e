use Rattle.std.proofs.Common.{List, All, sym, ap, subst}
use Rattle.std.proofs.lemmas.List.Elements.{All-push}
use Rattle.isle_blocks.specs.declared.constraint.Constraint.{Constraint}
use Rattle.isle_program.specs.declared.program.Program.{Program}
use Rattle.isle_coverage.specs.declared.sites.TypeTests.{TypeTests}
use Rattle.isle_coverage.specs.Inside.Types.{IsTypeTests}
use Rattle.isle_coverage.specs.Inside.Tables.{KeepsNumbers}
use Rattle.isle_coverage.proofs.Growing.{types_kept}
use Rattle.isle_coverage.proofs.sites.tests_of_types.Goals as goal
use Rattle.isle_coverage.proofs.sites.tests_of_types.Goals.{in-Some+then-not-any+in_ok-type_tests+in_ok-push, in-Some+else-not-any, in_default}

-- both facts of a table and of lists of tests
abbrev Facts : Program → List Constraint → List Constraint → List TypeTests → Type 0
Facts program first table all = All (IsTypeTests program table) all × KeepsNumbers first table

pub loop-at-preserved : goal.loop-at-preserved
loop-at-preserved c =
    let Both : List Constraint → List TypeTests → Type 0 = Facts c.args.program.now c.args.table.now in
    let both : Both c.match-at.table c.match-at.all.items = elim c.match-at.branch [
      | in-Some+then-not-any+in_ok-type_tests+in_ok-push w ↦
          let kept = w.in_ok-type_tests.ensures.kept in
          let before : All (IsTypeTests c.args.program.now w.type_tests.new.table) c.loop-at.all.items =
          types_kept c.loop-at.table w.type_tests.new.table kept c.args.program.now c.loop-at.all.items c.loop-at.invariant.tests in
          let more = All-push (IsTypeTests c.args.program.now w.type_tests.new.table) c.loop-at.all.items w.in_ok-type_tests.field-0 before
          w.in_ok-type_tests.ensures.tests in
          let pushed : All (IsTypeTests c.args.program.now w.type_tests.new.table) w.push.new.self.items =
          subst (All (IsTypeTests c.args.program.now w.type_tests.new.table)) (sym w.in_ok-push.ensures.items) more in
          let own : Both w.type_tests.new.table w.push.new.self.items = (pushed, λ t d at. kept t d (c.loop-at.invariant.kept t d at)) in
          subst (λ table. Both table c.match-at.all.items) (sym w.table-is)
          (subst (λ all. Both w.type_tests.new.table all) (ap (λ v. v.items) (sym w.all-is)) own)
      | in-Some+else-not-any w ↦
          subst (λ table. Both table c.match-at.all.items) (sym w.table-is)
          (subst (λ all. Both c.loop-at.table all) (ap (λ v. v.items) (sym w.all-is)) (c.loop-at.invariant.tests, c.loop-at.invariant.kept))
      | in_default w ↦
          subst (λ table. Both table c.match-at.all.items) (sym w.table-is)
          (subst (λ all. Both c.loop-at.table all) (ap (λ v. v.items) (sym w.all-is)) (c.loop-at.invariant.tests, c.loop-at.invariant.kept))
    ] in
    record { tests = both.0; kept = both.1 }
