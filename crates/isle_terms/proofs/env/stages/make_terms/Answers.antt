use Rattle.std.proofs.Common.{ℕ, Bool, List, []}
use Rattle.isle_ast.specs.declared.ast.Def.{Def}
use Rattle.isle_types.specs.Environment.{Environment}
use Rattle.isle_types.specs.TypeEnvs.{Shows}
use Rattle.isle_rules.specs.Definitions.{declarations}
use Rattle.isle_terms.specs.TypingFaults.{BreaksTyping}
use Rattle.isle_terms.specs.Inside.Collecting.Checks.{Checks}
use Rattle.isle_terms.specs.Inside.Collecting.DeclaredTerms.{AreDeclaredTerms}
use Rattle.isle_terms.specs.Inside.Collecting.Parts.{ArePartsOf, AreNamesOf, AreNamedOnce, KeepFirstRules}
use Rattle.isle_terms.proofs.Collections.Answered.{ok_always, fault_then}
use Rattle.isle_terms.proofs.Collections.Checking.{check_both}
use Rattle.isle_terms.proofs.Collections.DeclaredFaults.{broken_is_listed, kept_by_none}
use Rattle.isle_terms.proofs.env.stages.make_terms.Goals as goal

-- where nothing is reported the first rules are kept, and the terms are those of the declarations
kept : (c : goal.After-complete) (types : Environment) (expands : Bool) (levels : ℕ) (defs : List Def) → Shows c.args.tyenv.now types
    → ArePartsOf defs c.args.parts.now → AreNamesOf defs c.args.names.now
    → Checks (BreaksTyping types expands levels defs) (AreNamedOnce defs) [] c.args.errors.items
    → KeepFirstRules defs × AreDeclaredTerms types defs c.declare.new.tyenv.names (declarations defs) c.in-Ok.declared.items
kept c types expands levels defs shows are named once =
    let all = kept_by_none c.declare.new.errors.items
    (check_both (check_both once (c.in_ok-check_first_rules.ensures types expands levels defs are named))
    (c.in-Ok.ensures.made types expands levels defs shows are named)) c.in-Ok-refuse.ensures.ok in
    (all.0.1 all.0.0, all.1)

pub returns-in-Ok-refuse-clause-made : goal.returns-in-Ok-refuse-clause-made
returns-in-Ok-refuse-clause-made c = λ types expands levels defs shows are named once.
    let both = kept c types expands levels defs shows are named once in
    c.complete.ensures.made types defs (c.in-Ok.ensures.shown types shows) both.1 both.0.marks

pub returns-in-Ok-refuse-clause-kept : goal.returns-in-Ok-refuse-clause-kept
returns-in-Ok-refuse-clause-kept c = λ types expands levels defs shows are named once.
    ok_always c.complete.result (kept c types expands levels defs shows are named once).0

pub returns-in-Ok-refuse-clause-faults : goal.returns-in-Ok-refuse-clause-faults
returns-in-Ok-refuse-clause-faults c = λ types expands levels max defs shows are named once.
    c.complete.ensures.faults types expands levels max defs (c.in-Ok.ensures.shown types shows)
    (kept c types expands levels defs shows are named once).1

pub returns-in-Ok-refuse-clause-needs : goal.returns-in-Ok-refuse-clause-needs
returns-in-Ok-refuse-clause-needs c = λ types shows. c.complete.ensures.needs types (c.in-Ok.ensures.shown types shows) c.in-Ok.ensures.needs

pub returns-in-Err-refuse-clause-faults : goal.returns-in-Err-refuse-clause-faults
returns-in-Err-refuse-clause-faults c = λ types expands levels max defs shows are named once.
    let checks = check_both (check_both once (c.in_ok-check_first_rules.ensures types expands levels defs are named))
    (c.in-Ok.ensures.made types expands levels defs shows are named) in
    fault_then c.in-Err-refuse.refusal (λ all same. broken_is_listed types expands levels max defs c.declare.new.errors.items all.items checks
    same.0 same.1) c.in-Err-refuse.ensures.err
