use Rattle.std.proofs.Common.{sym}
use Rattle.std.proofs.lemmas.Result.{err_from_is_err_and}
use Rattle.isle_terms.specs.Inside.Readings.Contexts.{known_in}
use Rattle.isle_rules.specs.Shown.ShownTerms.{flags_shown, term_shown}
use Rattle.isle_terms.specs.Inside.Readings.Outcomes.{only_if}
use Rattle.isle_terms.specs.Inside.Readings.RuleOutcomes.{read_rule}
use Rattle.isle_ast.specs.Trees.PatternShape.{patterns_of}
use Rattle.isle_terms.specs.Inside.Collecting.RuleRoots.{may_have_priority}
use Rattle.isle_terms.specs.Inside.Shown.PartsShown.{parts_shown}
use Rattle.isle_terms.specs.Inside.Shown.RootsShown.{root_shown}
use Rattle.isle_terms.proofs.Collections.RuleRoots.{same_arity, arity_fails, whole_stands, whole_fails, root_fails}
use Rattle.isle_terms.proofs.env.rules.read_rule.Goals as goal

pub returns-in_err-check_root-clause-err : goal.returns-in_err-check_root-clause-err
returns-in_err-check_root-clause-err c =
    let e = err_from_is_err_and c.from_residual.result c.from_residual.ensures.1 in
    let context = c.args.context.now in
    let known = known_in context in
    let tree = c.args.tree.now in
    let root = c.in-Some.root in
    let next = only_if (may_have_priority (flags_shown root.flags) tree.prio) tree.pos
    (read_rule known context.max_nodes c.args.levels (term_shown context.tyenv.now.names root.term.now) (flags_shown root.flags) root.pos
    (patterns_of root.args.now) tree) in
    rw (e.1, e.2)
    (root_fails context.rule known context.max_nodes c.args.levels tree (root_shown context.tyenv.now.names root) c.in_err-check_root.field-0.0
    (sym c.in-Some.ensures)
    (arity_fails context.rule root.args.now root.term.now.arg_tys root.pos next c.in_err-check_root.field-0.0
    (c.in_err-check_root.ensures.err
    (read_rule known context.max_nodes c.args.levels (term_shown context.tyenv.now.names root.term.now) (flags_shown root.flags) root.pos
    (patterns_of root.args.now) tree))))

pub returns-in_err-parts-clause-err : goal.returns-in_err-parts-clause-err
returns-in_err-parts-clause-err c =
    let e = err_from_is_err_and c.from_residual-in_err-parts.result c.from_residual-in_err-parts.ensures.1 in
    let context = c.args.context.now in
    let root = c.in-Some.root in
    rw (e.1, e.2)
    (whole_fails context.rule (known_in context) context.max_nodes c.args.levels c.args.tree.now (root_shown context.tyenv.now.names root)
    c.in_err-parts.field-0.0 (sym c.in-Some.ensures)
    (same_arity root.args.now root.term.now.arg_tys c.in_ok-check_root.ensures.arity) c.in_ok-check_root.ensures.priority
    c.in_err-parts.ensures.err)

pub returns-clause-ok : goal.returns-clause-ok
returns-clause-ok c =
    let context = c.args.context.now in
    let names = context.tyenv.now.names in
    let root = c.in-Some.root in
    whole_stands (known_in context) context.max_nodes c.args.levels c.args.tree.now (root_shown names root)
    (parts_shown names c.in_ok-parts.parts) c.in_ok-parts.bindings (sym c.in-Some.ensures)
    (same_arity root.args.now root.term.now.arg_tys c.in_ok-check_root.ensures.arity) c.in_ok-check_root.ensures.priority
    c.in_ok-parts.ensures.ok
