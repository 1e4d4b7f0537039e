use Rattle.std.proofs.Common.{List, subst, sym}
use Rattle.std.specs.List.{All}
use Rattle.std.proofs.lemmas.Result.{err_from_is_err_and}
use Rattle.isle_types.specs.declared.ids.TermId.{TermId}
use Rattle.isle_blocks.specs.RuleSets.{RulesOverSites}
use Rattle.isle_blocks.specs.Trees.Promises.{IsCheckedSet}
use Rattle.isle_program.specs.Trees.{AreSetTrees}
use Rattle.isle_program.proofs.Compiling.Layers.{rule_faults, rule_faults_at, defined_files, accepts, program_of, sets_checked, sets_within, rules_within}
use Rattle.isle_program.proofs.SoundPrograms.Whole.{tables_are_sound}
use Rattle.isle_program.proofs.compiler.compile_files.Goals as goal

pub check-requires : goal.check-requires
check-requires c =
    let made = c.in_ok-types.field-0 in
    record { defined = defined_files c.args.files.now made.types made.terms c.in_ok-types.ensures.shown }

pub trees_of_sets-requires : goal.trees_of_sets-requires
trees_of_sets-requires c =
    let made = c.in_ok-types.field-0 in
    let d = defined_files c.args.files.now made.types made.terms c.in_ok-types.ensures.shown in
    subst (λ (sets : List (TermId × RulesOverSites)). All (λ (set : TermId × RulesOverSites). IsCheckedSet set.1) sets) (sym c.as_slice.ensures.value)
    (sets_checked made.terms d c.in_ok-rule_sets.rule_sets.items (c.in_ok-rule_sets.ensures.sets d))

pub new-requires : goal.new-requires
new-requires c =
    let made = c.in_ok-types.field-0 in
    let shown = c.in_ok-types.ensures.shown in
    let d = defined_files c.args.files.now made.types made.terms shown in
    record {
      rooted = rules_within made.terms d;
      within = sets_within made.terms d c.in_ok-rule_sets.rule_sets.items (c.in_ok-rule_sets.ensures.sets d);
      sound = tables_are_sound c.args.files.now made.types made.terms shown;
    }

pub returns-clause-accepted : goal.returns-clause-accepted
returns-clause-accepted c =
    let made = c.in_ok-types.field-0 in
    accepts c.args.files.now made.types made.terms c.in_ok-types.ensures.shown c.in_ok-rule_sets.ensures.faultless

pub returns-clause-compiled : goal.returns-clause-compiled
returns-clause-compiled c =
    let made = c.in_ok-types.field-0 in
    program_of c.args.files.now c.in_ok-new.field-0 made.types made.terms c.in_ok-rule_sets.rule_sets.items
    c.in_ok-trees.trees.items c.in_ok-types.ensures.shown c.in_ok-new.ensures.types c.in_ok-new.ensures.terms
    c.in_ok-new.ensures.sets c.in_ok-new.ensures.trees c.in_ok-rule_sets.ensures.faultless c.in_ok-rule_sets.ensures.sets
    (subst (λ (sets : List (TermId × RulesOverSites)). AreSetTrees sets c.in_ok-trees.trees.items) c.as_slice.ensures.value c.in_ok-trees.ensures)

pub returns-in_err-rule_sets-clause-faults : goal.returns-in_err-rule_sets-clause-faults
returns-in_err-rule_sets-clause-faults c =
    let made = c.in_ok-types.field-0 in
    let p = err_from_is_err_and c.from_residual-in_err-rule_sets.result c.from_residual-in_err-rule_sets.ensures.1 in
    rw (p.1, p.2) (rule_faults c.args.files.now made.types made.terms c.in_ok-types.ensures.shown c.in_err-rule_sets.field-0.0
    c.in_err-rule_sets.ensures.faults)

pub returns-in_err-rule_sets-clause-printable : goal.returns-in_err-rule_sets-clause-printable
returns-in_err-rule_sets-clause-printable c =
    let made = c.in_ok-types.field-0 in
    let p = err_from_is_err_and c.from_residual-in_err-rule_sets.result c.from_residual-in_err-rule_sets.ensures.1 in
    rw (p.1, p.2) (rule_faults_at c.args.files.now made.types made.terms c.in_ok-types.ensures.shown c.in_err-rule_sets.field-0.0
    c.in_ok-types.ensures.placed c.in_err-rule_sets.ensures.faults)

pub returns-in_err-trees-clause-faults : goal.returns-in_err-trees-clause-faults
returns-in_err-trees-clause-faults c =
    let p = err_from_is_err_and c.from_residual-in_err-trees.result c.from_residual-in_err-trees.ensures.1 in
    rw (p.1, p.2) tt

pub returns-in_err-trees-clause-printable : goal.returns-in_err-trees-clause-printable
returns-in_err-trees-clause-printable c =
    let p = err_from_is_err_and c.from_residual-in_err-trees.result c.from_residual-in_err-trees.ensures.1 in
    rw (p.1, p.2) tt
