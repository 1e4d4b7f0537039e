-- What is checked of definitions before their terms are made, one check after the other.
use Rattle.std.proofs.Common.{ℕ, Bool, List}
use Rattle.isle_ast.specs.declared.ast.Ident.{Ident}
use Rattle.isle_ast.specs.declared.ast.Decl.{Decl as DeclTree}
use Rattle.isle_ast.specs.declared.ast.Rule.{Rule as RuleTree}
use Rattle.isle_ast.specs.declared.ast.Def.{Def}
use Rattle.isle_ast.specs.declared.error.Error.{Error}
use Rattle.isle_types.specs.Environment.{Environment}
use Rattle.isle_rules.specs.Definitions.{declarations, rules_in, external_constructors, declared_names, roots_of}
use Rattle.isle_terms.specs.TypingFaults.{BreaksTyping, of_declarations, of_constructors}
use Rattle.isle_terms.specs.Inside.Collecting.Checks.{Checks, ChecksEach}
use Rattle.isle_terms.specs.Inside.Collecting.DefinitionChecks.{is_ill_root, is_ill_host, is_ill_marked}
use Rattle.isle_terms.specs.Inside.Collecting.Parts.{AreNamedOnce, KeepFirstRules}
use Rattle.isle_terms.proofs.Collections.Checking.{check_both}
use Rattle.isle_terms.proofs.Collections.CheckedTyping.{checks_wider}
use Rattle.isle_terms.proofs.Collections.CheckedDefinitions.{ill_root_breaks, roots_kept, ill_host_breaks, constructors_kept}
use Rattle.isle_terms.proofs.Collections.CheckedDefinitions.{ill_marks_break, marks_kept}

-- marks, then roots of rules, then external constructors
pub first_rules_checked : (types : Environment) (expands : Bool) (levels : ℕ) (defs : List Def) {e0 e1 e2 e3 : List Error}
    → ChecksEach (declarations defs) is_ill_marked (λ (decl : DeclTree). decl.pos) e0 e1
    → ChecksEach (rules_in defs) (is_ill_root (declared_names defs)) (λ (rule : RuleTree). rule.pos) e1 e2
    → ChecksEach (external_constructors defs) (is_ill_host (declared_names defs) (roots_of (rules_in defs))) (λ (host : Ident × Ident). host.0.1)
    e2 e3
    → Checks (BreaksTyping types expands levels defs) (AreNamedOnce defs → KeepFirstRules defs) e0 e3
first_rules_checked types expands levels defs marks roots hosts =
    let marked = checks_wider (λ at ill. of_declarations at (ill_marks_break types defs at ill)) (marks_kept defs) marks in
    let rooted = checks_wider (λ at ill. of_constructors at (ill_root_breaks defs at ill)) (roots_kept defs) roots in
    let hosted = checks_wider (λ at ill. of_constructors at (ill_host_breaks defs at ill)) (λ kept. kept) hosts in
    checks_wider (λ at broken. broken)
    (λ all once. record { marks = all.0.0; roots = all.0.1; constructors = constructors_kept defs all.1 once.host_constructors })
    (check_both (check_both marked rooted) hosted)
