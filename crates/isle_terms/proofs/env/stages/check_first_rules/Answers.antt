use Rattle.std.proofs.Common.{◌∙◌, ap, subst, map, Bor}
use Rattle.isle_ast.specs.declared.ast.Ident.{Ident}
use Rattle.isle_ast.specs.declared.ast.Decl.{Decl as DeclTree}
use Rattle.isle_ast.specs.declared.ast.Rule.{Rule as RuleTree}
use Rattle.isle_rules.specs.Definitions.{declared_names, roots_of, rules_in}
use Rattle.isle_terms.specs.Inside.Collecting.Checks.{ChecksEach}
use Rattle.isle_terms.specs.Inside.Collecting.DefinitionChecks.{is_ill_root, is_ill_host, is_ill_marked}
use Rattle.isle_terms.specs.Inside.Collecting.DefinitionLists.{host_constructor_shown}
use Rattle.isle_terms.proofs.Collections.Answered.{ok_then}
use Rattle.isle_terms.proofs.Collections.FirstRules.{first_rules_checked}
use Rattle.isle_terms.proofs.env.stages.check_first_rules.Goals as goal

pub returns : goal.returns
returns c = λ types expands levels defs are named.
    let decls = ap (map (λ (decl : Bor DeclTree). decl.now)) c.as_slice.ensures.value ∙ are.decls in
    let rules = ap (map (λ (rule : Bor RuleTree). rule.now)) c.as_slice-2.ensures.value ∙ are.rules in
    let hosts = ap (map host_constructor_shown) c.as_slice-hosts.ensures.value ∙ are.host_constructors in
    let marks = subst (λ all. ChecksEach all is_ill_marked (λ (decl : DeclTree). decl.pos) c.args.errors.now.items c.check_marks.new.errors.items)
    decls c.in_ok-check_marks.ensures in
    let roots = subst (λ all. ChecksEach all (is_ill_root (declared_names defs)) (λ (rule : RuleTree). rule.pos) c.check_marks.new.errors.items
    c.check_roots.new.errors.items) rules (c.in_ok-check_roots.ensures (declared_names defs) named.declared) in
    ok_then c.check_host_constructors.result (λ checked. first_rules_checked types expands levels defs marks roots
    (subst (λ all. ChecksEach all (is_ill_host (declared_names defs) (roots_of (rules_in defs))) (λ (host : Ident × Ident). host.0.1)
    c.check_roots.new.errors.items c.check_host_constructors.new.errors.items) hosts checked))
    (c.check_host_constructors.ensures (declared_names defs) (roots_of (rules_in defs)) named.declared named.roots)
