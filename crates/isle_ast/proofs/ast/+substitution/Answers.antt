use Rattle.std.proofs.Common.{◌∷◌, [], map, Some, None, ap, ◌∙◌, arith}
use Rattle.std.proofs.lemmas.List.{map-append}
use Rattle.isle_ast.specs.Trees.PatternShape.{pattern_of}
use Rattle.isle_ast.specs.Trees.Chain.{bound}
use Rattle.isle_ast.proofs.Trees.Templates.{filled_start, filled_more, filled_stops, filled_done}
use Rattle.isle_ast.proofs.Trees.TemplateChains.{chain_filled}
use Rattle.isle_ast.proofs.ast.+substitution.Goals as goal

pub Pattern::subst_macro_args-returns-in_default : goal.Pattern::subst_macro_args-returns-in_default
Pattern::subst_macro_args-returns-in_default t c =
    let made = rw c.in_default.is at c.in_ok-made.ensures in
    chain_filled _ (pattern_of c.args.self.now) (pattern_of c.innermost.result.now) None made c.innermost.ensures

pub Pattern::subst_macro_args-returns : goal.Pattern::subst_macro_args-returns
Pattern::subst_macro_args-returns t c =
    let made = rw c.in-Some.is at c.in_ok-made.ensures in
    let inner = pattern_of c.in-Some.made in
    let whole = c.in_ok-wrap.ensures ∙ ap (λ names. bound names inner) c.in_ok-names.ensures in
    ap Some whole ∙ chain_filled _ (pattern_of c.args.self.now) (pattern_of c.innermost.result.now) (Some inner) made c.innermost.ensures

pub macros::subst_all-loop-pattern-init : goal.macros::subst_all-loop-pattern-init
macros::subst_all-loop-pattern-init t c = rw c.new-all.ensures.items (filled_start _)

pub macros::subst_all-returns-in_default : goal.macros::subst_all-returns-in_default
macros::subst_all-returns-in_default t c =
    let made = rw c.in_default.is at c.in_ok-made.ensures in
    filled_stops _ _ c.args.patterns.now c.loop-pattern.pattern-index _ c.loop-pattern.invariant c.pattern-item.result c.loop-pattern-test.true
    c.pattern-item.is made

pub macros::subst_all-loop-pattern-preserved : goal.macros::subst_all-loop-pattern-preserved
macros::subst_all-loop-pattern-preserved t c =
    let made = rw c.in-Some.is at c.in_ok-made.ensures in
    let more = filled_more _ _ c.args.patterns.now c.loop-pattern.pattern-index _ c.loop-pattern.invariant c.pattern-item.result
    (pattern_of c.in-Some.made) c.loop-pattern-test.true c.pattern-item.is made in
    let items = ap (map pattern_of) c.in_ok-push.ensures.items ∙ map-append pattern_of c.loop-pattern.all.items (c.in-Some.made ∷ []) in
    rw items more

pub macros::subst_all-returns : goal.macros::subst_all-returns
macros::subst_all-returns t c =
    filled_done _ _ c.args.patterns.now c.loop-pattern.pattern-index _ c.loop-pattern.invariant (omega arith)
